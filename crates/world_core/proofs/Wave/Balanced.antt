-- No more letters ran than were sent, and where as many ran, nothing is on its way.
use Rattle.std.proofs.Common.{◌≡◌, ℕ, ◌≤◌, ◌<◌, Bool, true, false, List, [], ◌∷◌, ◌++◌, length, filter, refl, sym, ap, ◌∙◌, subst, inl, inr, arith, le_trans, length-append}
use Rattle.std.specs.Bool.{IsTrue}
use Rattle.std.specs.List.{AllByRecursion}
use Rattle.std.proofs.lemmas.Bool.{false_from_ne_true, false≢true}
use Rattle.std.proofs.lemmas.List.{append-nil, nil_from_length}
use Rattle.std.proofs.lemmas.List.Elements.{filter-append}
use Rattle.list_facts.specs.Prefix.{IsPrefix}
use Rattle.list_facts.specs.Sums.{sum_upto}
use Rattle.list_facts.proofs.Elements.{all_second, all_weaker}
use Rattle.list_facts.proofs.Filters.{filter_none, none_kept}
use Rattle.list_facts.proofs.Prefix.{prefix_joined, prefix_length, prefix_whole}
use Rattle.list_facts.proofs.Sums.{sum_upto-each_le, sum_upto-equal, sum_upto-swap}
use Rattle.msg_codec.specs.declared.letter.Letter.{Letter}
use Rattle.ygm_route.specs.declared.scheme.Scheme.{Scheme}
use Rattle.ygm_route.specs.Layout.{AreRanks, Shape}
use Rattle.ygm_route.specs.Hop.{hop}
use Rattle.ygm_route.specs.Path.{crosses, passes, path}
use Rattle.ygm_route.proofs.Path.FollowsHops.{crosses_hop}
use Rattle.ygm_route.proofs.Path.JoinedByLinks.{link_end, link_into}
use Rattle.world_core.specs.Local.{to_forward}
use Rattle.world_core.specs.Log.{batches_put, batches_taken, letters_of, letters_put, letters_taken}
use Rattle.world_core.specs.Pairs.{is_data, is_of_pair, of_pair, own_count, pair_put, pair_taken, run_count}
use Rattle.world_core.specs.Wave.{data_of}
use Rattle.world_core.specs.World.{Logs, local, log_of}
use Rattle.world_core.proofs.Deeds.Sent.{IsCarried}
use Rattle.world_core.proofs.Local.Between.{IsThird}
use Rattle.world_core.proofs.Local.ToForward.{none_to_forward}
use Rattle.world_core.proofs.Log.ByLink.{all_taken}
use Rattle.world_core.proofs.Pairs.ByPair.{by_receivers, by_senders}
use Rattle.world_core.proofs.Pairs.OfPair.{own_pair}
use Rattle.world_core.proofs.Sound.AlongPath.{are_ranks, arrived_was_put, got_prefix, link_is_empty, taken_was_sent}
use Rattle.world_core.proofs.Sound.OnPath.{Base, carried_put, carried_taken}
use Rattle.world_core.proofs.Sound.OverLink.{put_of_ranks, put_over_link, taken_off_path, taken_over_link}

-- how many letters all ranks sent, and how many ran at them
abbrev pub all_own : Logs → ℕ
all_own world = sum_upto (λ rank. own_count rank (log_of world rank)) world.layout.ranks

abbrev pub all_run : Logs → ℕ
all_run world = sum_upto (λ rank. run_count rank (log_of world rank)) world.layout.ranks

-- all that was sent arrived
pub record IsSettled (world : Logs) : Type 0 where
  pub got : (from to : ℕ) → pair_taken from to (log_of world to) ≡ pair_put from to (log_of world from)
  pub links : (from to : ℕ) → data_of (batches_taken from (log_of world to)) ≡ data_of (batches_put to (log_of world from))
  pub forwarded : (rank from to : ℕ) → to_forward (local world rank) from to ≡ []

pub record IsBalanced (world : Logs) : Type 0 where
  pub bounded : all_run world ≤ all_own world
  pub settled : all_run world ≡ all_own world → IsSettled world

module _ {X : Type 0} {xs ys : List X} (test : X → Bool) (p : IsPrefix xs ys) where
  -- what a test keeps of a list is what it keeps of a prefix, and of the rest
  kept_both : filter test xs ++ filter test p.rest ≡ filter test ys
  kept_both = sym (filter-append test xs p.rest) ∙ ap (filter test) p.joined

  -- so it keeps none of the rest where it keeps as many of the prefix, and then the same
  kept_no_more : length (filter test ys) ≤ length (filter test xs) → filter test p.rest ≡ []
  kept_no_more le =
      let sum = length-append (filter test xs) (filter test p.rest) in
      nil_from_length (filter test p.rest) (omega (arith, le, sum, ap length kept_both))

  kept_same : filter test p.rest ≡ [] → filter test xs ≡ filter test ys
  kept_same none = sym (append-nil (filter test xs)) ∙ ap (λ more. filter test xs ++ more) (sym none) ∙ kept_both

module _ (world : Logs) (base : Base world) where
  abbrev layout : Shape
  layout = world.layout

  abbrev scheme : Scheme
  scheme = world.scheme

  abbrev n : ℕ
  n = world.layout.ranks

  -- ---- the sums by pairs

  abbrev came : ℕ → ℕ → ℕ
  came s d = length (pair_taken s d (log_of world d))

  abbrev went : ℕ → ℕ → ℕ
  went s d = length (pair_put s d (log_of world s))

  each_le : (s d : ℕ) → came s d ≤ went s d
  each_le s d = prefix_length (got_prefix world base s d)

  -- all that ran at a rank came from ranks
  pub run_by_senders : (d : ℕ) → run_count d (log_of world d) ≤ sum_upto (λ s. came s d) n
  run_by_senders d =
      by_senders d n (letters_taken (log_of world d))
      (all_taken _ (log_of world d) (λ a. all_weaker _ _ _ (λ l c _. c.lawful.from_within) (carried_taken world base a d)))

  abbrev came_to : ℕ → ℕ
  came_to d = sum_upto (λ s. came s d) n

  abbrev went_to : ℕ → ℕ
  went_to d = sum_upto (λ s. went s d) n

  came_to_le : (d : ℕ) → came_to d ≤ went_to d
  came_to_le d = sum_upto-each_le _ _ n (λ s _. each_le s d)

  run_le : all_run world ≤ sum_upto came_to n
  run_le = sum_upto-each_le _ _ n (λ d _. run_by_senders d)

  came_le : sum_upto came_to n ≤ sum_upto went_to n
  came_le = sum_upto-each_le _ _ n (λ d _. came_to_le d)

  went_le : sum_upto went_to n ≤ all_own world
  went_le =
      rw (sum_upto-swap (λ d s. went s d) n n)
      (sum_upto-each_le (λ s. sum_upto (λ d. went s d) n) _ n (λ s _. by_receivers s n (letters_put (log_of world s))))

  bounded : all_run world ≤ all_own world
  bounded = le_trans run_le (le_trans came_le went_le)

  -- ---- where as many ran as were sent

  module _ (equal : all_run world ≡ all_own world) where
    as_many : (s d : ℕ) → s < n → d < n → came s d ≡ went s d
    as_many s d from to =
        let sums : sum_upto came_to n ≡ sum_upto went_to n = omega (arith, equal, run_le, came_le, went_le) in
        let here : came_to d ≡ went_to d = sum_upto-equal came_to went_to n (λ e _. came_to_le e) sums d to in
        sum_upto-equal (λ r. came r d) (λ r. went r d) n (λ r _. each_le r d) here s from

    -- all that was put of a pair arrived
    got : (s d : ℕ) → pair_taken s d (log_of world d) ≡ pair_put s d (log_of world s)
    got s d = elim (are_ranks world base s d) [
      | inl ranks ↦ prefix_whole (got_prefix world base s d) (omega (arith, as_many s d ranks.from_within ranks.to_within))
      | inr other ↦ prefix_whole (got_prefix world base s d) (rw (put_of_ranks world base s d s other) (omega arith))
    ]

    all_arrived : (s d : ℕ) → length (pair_put s d (log_of world s)) ≤ length (pair_taken s d (log_of world d))
    all_arrived s d = omega (arith, ap length (got s d))

    -- a rank that is neither of the two put all that it took
    took_le_put : (r s d : ℕ) → IsThird layout s d r →
        length (pair_taken s d (log_of world r)) ≤ length (pair_put s d (log_of world r))
    took_le_put r s d third = by_path (passes (path layout scheme s d) r) refl
      where
        ranks : AreRanks layout s d
        ranks = record { laid_out = base.laid_out; from_within = third.from_within; to_within = third.to_within }

        by_path : (b : Bool) → passes (path layout scheme s d) r ≡ b →
            length (pair_taken s d (log_of world r)) ≤ length (pair_put s d (log_of world r))
        by_path true on =
            let into = link_into layout scheme s d r ranks on third.not_sender in
            let out = crosses_hop layout scheme s d r ranks on third.not_destination in
            let before = prefix_length (taken_was_sent world base s d ranks into.0 r into.1) in
            let after = prefix_length (arrived_was_put world base s d ranks r (hop layout scheme r d) out) in
            omega (arith, before, after, all_arrived s d)
        by_path false off =
            rw (taken_off_path world base s d r (λ a link. false≢true (sym off ∙ link_end layout scheme s d a r ranks link)))
            (omega arith)

    forwarded : (r s d : ℕ) → to_forward (local world r) s d ≡ []
    forwarded r s d = none_to_forward (local world r) s d (took_le_put r s d)

    -- over a link of the path of a pair, all that was put of it was taken
    all_taken_over : (s d a b : ℕ) → AreRanks layout s d → IsTrue (crosses (path layout scheme s d) a b) →
        length (of_pair s d (letters_of (batches_put b (log_of world a))))
        ≤ length (of_pair s d (letters_of (batches_taken a (log_of world b))))
    all_taken_over s d a b ranks link =
        omega (
          arith,
          ap length (put_over_link world base s d a b ranks link),
          ap length (taken_over_link world base s d a b ranks link),
          link_is_empty world base s d ranks a b link (all_arrived s d),
        )

    -- letters that crossed a link are no data, where none of them is of a pair whose path the link is on
    no_data : (a b : ℕ) (xs : List Letter) → AllByRecursion (IsCarried layout scheme a b) xs →
        ((s d : ℕ) → AreRanks layout s d → IsTrue (crosses (path layout scheme s d) a b) →
        AllByRecursion (λ l. is_of_pair s d l ≡ false) xs) →
        AllByRecursion (λ l. is_data l ≡ false) xs
    no_data a b [] carried none = tt
    no_data a b (l ∷ xs) carried none =
        let later = no_data a b xs carried.1 (λ s d ranks link. (none s d ranks link).1) in
        (false_from_ne_true (is_data l) (never carried.0), later)
      where
        never : IsCarried layout scheme a b l → is_data l ≡ true → ⊥
        never c is =
            let ranks : AreRanks layout l.from l.to =
            record { laid_out = base.laid_out; from_within = c.lawful.from_within; to_within = c.lawful.to_within } in
            false≢true (sym (none l.from l.to ranks (c.crossed is)).0 ∙ own_pair l is)

    links : (a b : ℕ) → data_of (batches_taken a (log_of world b)) ≡ data_of (batches_put b (log_of world a))
    links a b =
        let p = prefix_joined (base.agree a b) in
        let Q : List Letter → Type 0 = AllByRecursion (IsCarried layout scheme a b) in
        let carried : Q p.rest = all_second _ _ p.rest (subst Q (sym p.joined) (carried_put world base a b)) in
        let none = no_data a b p.rest carried (λ s d ranks link.
        none_kept (is_of_pair s d) p.rest (kept_no_more (is_of_pair s d) p (all_taken_over s d a b ranks link))) in
        kept_same is_data p (filter_none is_data p.rest none)

  pub balanced : IsBalanced world
  balanced = record {
    bounded = bounded;
    settled = λ equal. record { got = got equal; links = links equal; forwarded = forwarded equal };
  }
