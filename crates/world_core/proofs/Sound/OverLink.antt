-- In honest logs that agree about each link, what a log put and took of a pair is what it put and took over a link of the
-- path of that pair.
use Rattle.std.proofs.Common.{◌≡◌, ℕ, ◌<◌, true, [], sym, ◌∙◌, subst}
use Rattle.std.specs.Bool.{IsTrue}
use Rattle.std.proofs.lemmas.Bool.{false_from_ne_true}
use Rattle.list_facts.specs.Prefix.{IsPrefix}
use Rattle.list_facts.proofs.Elements.{all_weaker}
use Rattle.list_facts.proofs.Filters.{filter_none}
use Rattle.list_facts.proofs.Prefix.{prefix_filter, prefix_joined}
use Rattle.msg_codec.specs.declared.letter.Letter.{Letter}
use Rattle.ygm_route.specs.declared.scheme.Scheme.{Scheme}
use Rattle.ygm_route.specs.Layout.{Shape, AreRanks}
use Rattle.ygm_route.specs.Path.{crosses, path}
use Rattle.ygm_route.proofs.Path.FollowsHops.{crosses_next_hops}
use Rattle.ygm_route.proofs.Path.Tree.{one_parent}
use Rattle.world_core.specs.Log.{batches_put, batches_taken, letters_of, letters_put, letters_taken}
use Rattle.world_core.specs.Pairs.{is_of_pair, of_pair, pair_put, pair_taken}
use Rattle.world_core.specs.World.{Logs, log_of}
use Rattle.world_core.proofs.Deeds.Sent.{IsCarried}
use Rattle.world_core.proofs.Log.ByLink.{all_put, all_taken, only_put, only_taken}
use Rattle.world_core.proofs.Pairs.OfPair.{pair_data, pair_of}
use Rattle.world_core.proofs.Sound.OnPath.{Base, carried_put, carried_taken}

module _ (world : Logs) (base : Base world) where
  abbrev layout : Shape
  layout = world.layout

  abbrev scheme : Scheme
  scheme = world.scheme

  -- ---- a letter of a pair

  -- crosses a link of the path of the pair
  crossing_pair : (s d a b : ℕ) (l : Letter) → IsCarried layout scheme a b l → is_of_pair s d l ≡ true →
      IsTrue (crosses (path layout scheme s d) a b)
  crossing_pair s d a b l c h =
      let P : ℕ → ℕ → Type 0 = λ x y. IsTrue (crosses (path layout scheme x y) a b) in
      let pair = pair_of s d l h in
      subst (λ y. P s y) pair.1 (subst (λ x. P x l.to) pair.0 (c.crossed (pair_data s d l h)))

  -- and is between ranks
  pair_within : (s d a b : ℕ) (l : Letter) → IsCarried layout scheme a b l → is_of_pair s d l ≡ true → AreRanks layout s d
  pair_within s d a b l c h =
      let P : ℕ → Type 0 = λ x. x < layout.ranks in
      let pair = pair_of s d l h in
      record {
        laid_out = base.laid_out;
        from_within = subst P pair.0 c.lawful.from_within;
        to_within = subst P pair.1 c.lawful.to_within;
      }

  -- ---- over a link of the path

  module _ (s d a b : ℕ) (ranks : AreRanks layout s d) (link : IsTrue (crosses (path layout scheme s d) a b)) where
    pub put_over_link : pair_put s d (log_of world a) ≡ of_pair s d (letters_of (batches_put b (log_of world a)))
    put_over_link =
        let next = crosses_next_hops layout scheme s d a in
        only_put (is_of_pair s d) b (λ r l. IsCarried layout scheme a r l)
        (λ r l c h. next r ranks (crossing_pair s d a r l c h) ∙ sym (next b ranks link))
        (log_of world a) (λ r. carried_put world base a r)

    pub taken_over_link : pair_taken s d (log_of world b) ≡ of_pair s d (letters_of (batches_taken a (log_of world b)))
    taken_over_link =
        only_taken (is_of_pair s d) a (λ r l. IsCarried layout scheme r b l)
        (λ r l c h. one_parent layout scheme s d d r a b ranks ranks (crossing_pair s d r b l c h) link)
        (log_of world b) (λ r. carried_taken world base r b)

    -- so what its end took of the pair is a prefix of what its start put of it
    pub link_carries : IsPrefix (pair_taken s d (log_of world b)) (pair_put s d (log_of world a))
    link_carries = rw (put_over_link, taken_over_link) (prefix_filter (is_of_pair s d) (prefix_joined (base.agree a b)))

  -- ---- nothing of a pair

  module _ (s d r : ℕ) where
    -- where no letter of it goes to the rank, the rank takes none
    taken_none : ((a : ℕ) (l : Letter) → IsCarried layout scheme a r l → is_of_pair s d l ≡ true → ⊥) →
        pair_taken s d (log_of world r) ≡ []
    taken_none never =
        filter_none (is_of_pair s d) (letters_taken (log_of world r)) (all_taken _ (log_of world r) (λ a.
        all_weaker _ _ _ (λ l c. false_from_ne_true (is_of_pair s d l) (never a l c)) (carried_taken world base a r)))

    put_none : ((b : ℕ) (l : Letter) → IsCarried layout scheme r b l → is_of_pair s d l ≡ true → ⊥) →
        pair_put s d (log_of world r) ≡ []
    put_none never =
        filter_none (is_of_pair s d) (letters_put (log_of world r)) (all_put _ (log_of world r) (λ b.
        all_weaker _ _ _ (λ l c. false_from_ne_true (is_of_pair s d l) (never b l c)) (carried_put world base r b)))

    -- a rank that no link of the path ends at takes none
    pub taken_off_path : ((a : ℕ) → IsTrue (crosses (path layout scheme s d) a r) → ⊥) →
        pair_taken s d (log_of world r) ≡ []
    taken_off_path off = taken_none (λ a l c h. off a (crossing_pair s d a r l c h))

    -- there are none where not both are ranks
    pub taken_of_ranks : (AreRanks layout s d → ⊥) → pair_taken s d (log_of world r) ≡ []
    taken_of_ranks other = taken_none (λ a l c h. other (pair_within s d a r l c h))

    pub put_of_ranks : (AreRanks layout s d → ⊥) → pair_put s d (log_of world r) ≡ []
    put_of_ranks other = put_none (λ b l c h. other (pair_within s d r b l c h))
