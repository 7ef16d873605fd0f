-- In honest logs that agree about each link, the letters of a pair stay on the path of that pair.
use Rattle.std.proofs.Common.{◌≡◌, ◌≢◌, ℕ, zero, suc, ◌+◌, ◌<◌, ◌≤◌, true, false, List, [], ◌∷◌, length, refl, sym, ap, ◌∙◌, subst, inl, inr, arith}
use Rattle.std.specs.List.{AllByRecursion}
use Rattle.std.proofs.lemmas.Bool.{cases_eq, cases_lt, false_from_ne_true, true_from_ne_false}
use Rattle.std.proofs.lemmas.List.{get_or_past}
use Rattle.msg_codec.specs.declared.letter.Letter.{Letter}
use Rattle.ygm_route.specs.declared.scheme.Scheme.{Scheme}
use Rattle.ygm_route.specs.Layout.{Shape, IsLayout, AreRanks}
use Rattle.ygm_route.specs.Path.{most_links, passes, path}
use Rattle.ygm_route.specs.Hop.{hop}
use Rattle.ygm_route.proofs.Hop.Cases.{hop-near}
use Rattle.ygm_route.proofs.Path.Lengths.{path_short}
use Rattle.ygm_route.proofs.Layouts.AreRanks.{towards}
use Rattle.ygm_route.proofs.Path.FollowsHops.{crosses_first_hop, crosses_hop}
use Rattle.ygm_route.proofs.Path.GoesOn.{path_goes_on}
use Rattle.ygm_route.proofs.Path.JoinedByLinks.{link_end, link_start}
use Rattle.ygm_route.proofs.Path.Tree.{some_parent}
use Rattle.world_core.specs.declared.entry.Entry.{Entry}
use Rattle.world_core.specs.Log.{batches_put, batches_taken, letters_of, letters_put, letters_taken}
use Rattle.world_core.specs.Local.{local_rank}
use Rattle.world_core.specs.Pairs.{is_of_pair}
use Rattle.world_core.specs.Rules.{IsHonest}
use Rattle.world_core.specs.Sound.{IsSound, LinksAgree}
use Rattle.world_core.specs.World.{Logs, log_of, local}
use Rattle.world_core.proofs.Deeds.Honest.{Alone, alone_nil, alone_honest}
use Rattle.world_core.proofs.Deeds.Sent.{IsCarried, IsSent}
use Rattle.world_core.proofs.Local.Between.{IsThird}
use Rattle.world_core.proofs.Log.ByLink.{all_taken, each_put}
use Rattle.list_facts.proofs.Prefix.{prefix_joined, prefix_nil}
use Rattle.list_facts.proofs.Elements.{all_prefix, all_weaker}
use Rattle.list_facts.proofs.Filters.{filter_none, none_kept}
use Rattle.world_core.proofs.Pairs.OfPair.{pair_of, pair_data, own_pair}

-- what all else follows from
pub record Base (world : Logs) : Type 0 where
  pub laid_out : IsLayout world.layout
  pub all_ranks : length world.logs ≡ world.layout.ranks
  pub agree : LinksAgree world
  pub honest : (rank : ℕ) → rank < world.layout.ranks → IsHonest (local world rank)

pub sound_base : (world : Logs) → IsSound world → Base world
sound_base world sound = record { laid_out = sound.laid_out; all_ranks = sound.all_ranks; agree = sound.agree; honest = sound.honest }

-- none of these letters is of the pair
abbrev None_of : ℕ → ℕ → List Letter → Type 0
None_of s d letters = AllByRecursion (λ l. is_of_pair s d l ≡ false) letters

module _ (world : Logs) (base : Base world) where
  abbrev layout : Shape
  layout = world.layout

  abbrev scheme : Scheme
  scheme = world.scheme

  pub alone : (rank : ℕ) → Alone (local world rank)
  alone rank = elim (cases_lt rank world.layout.ranks) [
    | inl within ↦ alone_honest (local world rank) (base.honest rank within)
    | inr past ↦
        let P : List Entry → Type 0 = λ log. Alone (local_rank world.layout world.scheme rank log) in
        subst P (sym (get_or_past world.logs rank [] (rw base.all_ranks past))) (alone_nil world.layout world.scheme rank)
  ]

  -- ---- a rank off the path

  -- the ends are on the path
  pub third : (s d j : ℕ) → AreRanks layout s d → passes (path layout scheme s d) j ≡ false → IsThird layout s d j
  third s d j ranks off =
      let start : passes (path layout scheme s d) s ≡ true = link_start layout scheme s d s _ ranks (crosses_first_hop layout scheme s d ranks) in
      let end : passes (path layout scheme s d) d ≡ true = link_end layout scheme s d _ d ranks (some_parent layout scheme s d ranks).1 in
      record {
        from_within = ranks.from_within;
        to_within = ranks.to_within;
        not_sender = λ e. absurd (let P : ℕ → Type 0 = λ x. passes (path layout scheme s d) x ≡ false in let no : P s = subst P e off in cc);
        not_destination = λ e. absurd (let P : ℕ → Type 0 = λ x. passes (path layout scheme s d) x ≡ false in let no : P d = subst P e off in cc);
      }

  -- where it took nothing of the pair, it put nothing of it
  nothing_put : (s d j : ℕ) → IsThird layout s d j → None_of s d (letters_taken (log_of world j)) → None_of s d (letters_put (log_of world j))
  nothing_put s d j t none =
      none_kept (is_of_pair s d) (letters_put (log_of world j)) (prefix_nil (rw (← filter_none (is_of_pair s d) (letters_taken (log_of world j)) none) ((alone j).forward s d t)))

  -- a rank puts a letter of the pair to its next hop alone
  other_link : (s d k j : ℕ) → hop layout scheme k d ≢ j → None_of s d (letters_of (batches_put j (log_of world k)))
  other_link s d k j other =
      let P : ℕ → Type 0 = λ x. j ≡ hop layout scheme k x in
      all_weaker (IsSent layout scheme k j) (λ l. is_of_pair s d l ≡ false) _
      (λ l c. false_from_ne_true (is_of_pair s d l) (λ h. other (sym (subst P (pair_of s d l h).1 (c.next (pair_data s d l h)))))) ((alone k).carry j)

  -- what is no rank puts nothing
  no_rank : (s d k j : ℕ) → layout.ranks ≤ k → None_of s d (letters_of (batches_put j (log_of world k)))
  no_rank s d k j past = all_weaker (IsSent layout scheme k j) (λ l. is_of_pair s d l ≡ false) _ (λ l c. absurd (omega (arith, c.here_within))) ((alone k).carry j)

  -- the rank whose next hop is off the path isn't the destination, is off the path too,
  before_third : (s d k j : ℕ) → IsThird layout s d j → hop layout scheme k d ≡ j → k ≢ d
  before_third s d k j t e same =
      let P : ℕ → Type 0 = λ x. hop layout scheme x d ≡ j in
      t.not_destination (sym (subst P same e) ∙ hop-near layout d d scheme refl)

  before_off : (s d k j : ℕ) → AreRanks layout s d → k ≢ d → hop layout scheme k d ≡ j → passes (path layout scheme s d) j ≡ false → passes (path layout scheme s d) k ≡ false
  before_off s d k j ranks other e off = false_from_ne_true _ (λ on.
      let P : ℕ → Type 0 = λ x. passes (path layout scheme s d) x ≡ true in
      let next : P j = subst P e (link_end layout scheme s d k _ ranks (crosses_hop layout scheme s d k ranks on other)) in
      absurd cc)

  -- and has one more hop to go
  farther : (d k j : ℕ) → AreRanks layout k d → j ≢ d → hop layout scheme k d ≡ j → length (path layout scheme k d) ≡ length (path layout scheme j d) + 1
  farther d k j ranks other e =
      let P : ℕ → Type 0 = λ x. length (path layout scheme k d) ≡ length (k ∷ path layout scheme x d) in
      let more : P j = subst P e (ap length (path_goes_on layout scheme k d ranks (λ f. other (sym e ∙ f)))) in
      omega (arith, more)

  -- A rank off the path puts no letter of the pair: it would have it from a rank that is off the path too and has
  -- one more hop to go, and paths are short. `n` is how many more hops there may be.
  pub off_path : (s d : ℕ) → AreRanks layout s d → (n j : ℕ) → j < layout.ranks → passes (path layout scheme s d) j ≡ false →
      most_links scheme + 2 ≤ n + length (path layout scheme j d) → None_of s d (letters_put (log_of world j))
  off_path s d ranks zero j within off far = absurd (let short = path_short layout j d ranks.laid_out within ranks.to_within scheme in omega (arith, short, far))
  off_path s d ranks (suc n) j within off far =
      let t = third s d j ranks off in
      let from : (k : ℕ) → None_of s d (letters_of (batches_put j (log_of world k))) = λ k. elim (cases_lt k layout.ranks) [
        | inr past ↦ no_rank s d k j past
        | inl k_within ↦ elim (cases_eq (hop layout scheme k d) j) [
          | inr other ↦ other_link s d k j other
          | inl e ↦
              let more = farther d k j (towards layout s d k ranks k_within) t.not_destination e in
              let k_off = before_off s d k j ranks (before_third s d k j t e) e off in
              each_put _ (log_of world k) (off_path s d ranks n k k_within k_off (omega (arith, more, far))) j
        ]
      ] in
      nothing_put s d j t (all_taken _ (log_of world j) (λ k. all_prefix _ (prefix_joined (base.agree k j)) (from k)))

  -- ---- so each letter is on its path

  on_path : (a b : ℕ) (l : Letter) → IsSent layout scheme a b l →
      (AreRanks layout l.from l.to → passes (path layout scheme l.from l.to) a ≡ false → is_of_pair l.from l.to l ≡ false) → IsCarried layout scheme a b l
  on_path a b l c off =
      let ranks : AreRanks layout l.from l.to = record { laid_out = base.laid_out; from_within = c.from_within; to_within = c.to_within } in
      record {
        lawful = c;
        crossed = λ tag. rw (c.next tag) (elim (cases_eq l.from a) [
          | inl own ↦ rw (← own) (crosses_first_hop layout scheme l.from l.to ranks)
          | inr other ↦
              let on = true_from_ne_false _ (λ h. absurd (let pair = own_pair l tag in let none = off ranks h in cc)) in
              crosses_hop layout scheme l.from l.to a ranks on (c.leaves tag other)
        ]);
      }

  all_on_path : (a b : ℕ) (letters : List Letter) → AllByRecursion (IsSent layout scheme a b) letters →
      ((s d : ℕ) → AreRanks layout s d → passes (path layout scheme s d) a ≡ false → None_of s d letters) → AllByRecursion (IsCarried layout scheme a b) letters
  all_on_path a b [] c off = tt
  all_on_path a b (l ∷ letters) c off = (on_path a b l c.0 (λ r h. (off l.from l.to r h).0), all_on_path a b letters c.1 (λ s d r h. (off s d r h).1))

  pub carried_put : (a b : ℕ) → AllByRecursion (IsCarried world.layout world.scheme a b) (letters_of (batches_put b (log_of world a)))
  carried_put a b = elim (cases_lt a layout.ranks) [
    | inl within ↦ all_on_path a b _ ((alone a).carry b) (λ s d ranks off. each_put _ (log_of world a) (off_path s d ranks (most_links scheme + 2) a within off (omega arith)) b)
    | inr past ↦ all_weaker (IsSent layout scheme a b) _ _ (λ l c. absurd (omega (arith, c.here_within))) ((alone a).carry b)
  ]

  pub carried_taken : (a b : ℕ) → AllByRecursion (IsCarried world.layout world.scheme a b) (letters_of (batches_taken a (log_of world b)))
  carried_taken a b = all_prefix _ (prefix_joined (base.agree a b)) (carried_put a b)
