-- Along its path the letters of a pair only become fewer: from what the sender put, over each link of the path, to what
-- the destination took. What arrived of a pair is a prefix of what its sender put.
use Rattle.std.proofs.Common.{◌≢◌, ◌⊎◌, ℕ, zero, suc, ◌≤◌, ◌<◌, List, [], ◌∷◌, length, sym, ap, ◌∙◌, subst, inl, inr, arith, length-append}
use Rattle.std.specs.Bool.{IsTrue}
use Rattle.std.proofs.lemmas.Bool.{cases_eq, cases_lt}
use Rattle.list_facts.specs.Prefix.{IsPrefix}
use Rattle.list_facts.proofs.Prefix.{prefix_append, prefix_length, prefix_refl, prefix_trans}
use Rattle.msg_codec.specs.declared.letter.Letter.{Letter}
use Rattle.ygm_route.specs.declared.scheme.Scheme.{Scheme}
use Rattle.ygm_route.specs.Layout.{Shape, AreRanks}
use Rattle.ygm_route.specs.Hop.{hop}
use Rattle.ygm_route.specs.Path.{crosses, path}
use Rattle.ygm_route.proofs.Layouts.AreRanks.{towards}
use Rattle.ygm_route.proofs.Path.FollowsHops.{crosses_hop}
use Rattle.ygm_route.proofs.Path.GoesOn.{path_goes_on}
use Rattle.ygm_route.proofs.Path.JoinedByLinks.{link_end, link_into, link_start}
use Rattle.ygm_route.proofs.Path.Places.{crossing, is_whole, into_one, out_of_one, into_first, first_to_second, out_of_second}
use Rattle.ygm_route.proofs.Path.Tree.{path_by_parent, root, some_parent}
use Rattle.ygm_route.proofs.Path.Within.{passes_within}
use Rattle.world_core.specs.Pairs.{pair_put, pair_taken}
use Rattle.world_core.specs.World.{Logs, log_of}
use Rattle.world_core.proofs.Local.Between.{IsThird}
use Rattle.world_core.proofs.Sound.OnPath.{Base, alone}
use Rattle.world_core.proofs.Sound.OverLink.{link_carries, taken_of_ranks}

module _ (world : Logs) (base : Base world) where
  abbrev layout : Shape
  layout = world.layout

  abbrev scheme : Scheme
  scheme = world.scheme

  module _ (s d : ℕ) (ranks : AreRanks layout s d) where
    abbrev took : ℕ → List Letter
    took r = pair_taken s d (log_of world r)

    abbrev gave : ℕ → List Letter
    gave r = pair_put s d (log_of world r)

    abbrev link : ℕ → ℕ → Type 0
    link a b = IsTrue (crosses (path layout scheme s d) a b)

    -- a rank that is neither of the two puts a prefix of what it took
    hands_on : (r : ℕ) → r ≢ s → r ≢ d → IsPrefix (gave r) (took r)
    hands_on r not_s not_d =
        let third : IsThird layout s d r = record {
          from_within = ranks.from_within;
          to_within = ranks.to_within;
          not_sender = not_s;
          not_destination = not_d;
        } in
        (alone world base r).forward s d third

    -- ---- from the sender on

    -- a link that doesn't start at the sender doesn't start at the destination
    starts_before : (a b : ℕ) → link a b → a ≢ s → a ≢ d
    starts_before a b over later = elim (crossing layout scheme s d ranks a b over) [
      | is_whole _ f _ ↦ absurd (later (sym f))
      | into_one f _ ↦ absurd (later (sym f))
      | out_of_one o _ ↦ o.m_d
      | into_first k f _ ↦ absurd (later (sym f))
      | first_to_second o ↦ o.m_d
      | out_of_second m o _ ↦ o.k_d
    ]

    from_sender : (n a b : ℕ) → link a b → a ≢ s → length (path layout scheme s a) < n → IsPrefix (gave a) (gave s)
    from_sender zero a b over later short = absurd (omega (arith, short))
    from_sender (suc n) a b over later short =
        let parent = link_into layout scheme s d a ranks (link_start layout scheme s d a b ranks over) later in
        let before = parent.0 in
        let into : link before a = parent.1 in
        let passed : IsPrefix (gave a) (gave before) =
        prefix_trans (hands_on a later (starts_before a b over later)) (link_carries world base s d before a ranks into) in
        elim (cases_eq before s) [
          | inl first ↦ subst (λ x. IsPrefix (gave a) (gave x)) first passed
          | inr far ↦
              let fewer = ap length (path_by_parent layout scheme s d before a ranks into far) in
              let more = length-append (path layout scheme s before) (a ∷ []) in
              prefix_trans passed (from_sender n before a into far (omega (arith, short, fewer, more)))
        ]

    -- what the start of a link put is a prefix of what the sender put
    put_was_sent : (a b : ℕ) → link a b → IsPrefix (gave a) (gave s)
    put_was_sent a b over = elim (cases_eq a s) [
      | inl first ↦ subst (λ x. IsPrefix (gave x) (gave s)) (sym first) (prefix_refl (gave s))
      | inr later ↦ from_sender (suc (length (path layout scheme s a))) a b over later (omega arith)
    ]

    -- and so is what the end of the link took
    pub taken_was_sent : (a b : ℕ) → link a b → IsPrefix (took b) (gave s)
    taken_was_sent a b over = prefix_trans (link_carries world base s d a b ranks over) (put_was_sent a b over)

    -- ---- on to the destination

    -- a link that doesn't end at the destination doesn't end at the sender
    ends_after : (a b : ℕ) → link a b → b ≢ d → b ≢ s
    ends_after a b over before e = before (e ∙ root layout scheme s d a ranks (subst (λ x. link a x) e over))

    to_destination : (n a b : ℕ) → link a b → b ≢ d → length (path layout scheme b d) < n → IsPrefix (took d) (took b)
    to_destination zero a b over before short = absurd (omega (arith, short))
    to_destination (suc n) a b over before short =
        let on = link_end layout scheme s d a b ranks over in
        let next = hop layout scheme b d in
        let out : link b next = crosses_hop layout scheme s d b ranks on before in
        let passed : IsPrefix (took next) (took b) =
        prefix_trans (link_carries world base s d b next ranks out) (hands_on b (ends_after a b over before) before) in
        elim (cases_eq next d) [
          | inl last ↦ subst (λ x. IsPrefix (took x) (took b)) last passed
          | inr far ↦
              let b_to_d = towards layout s d b ranks (passes_within layout scheme s d b ranks on) in
              let fewer = ap length (path_goes_on layout scheme b d b_to_d far) in
              prefix_trans (to_destination n b next out far (omega (arith, short, fewer))) passed
        ]

    -- what the destination took is a prefix of what the end of a link took
    arrived_was_taken : (a b : ℕ) → link a b → IsPrefix (took d) (took b)
    arrived_was_taken a b over = elim (cases_eq b d) [
      | inl last ↦ subst (λ x. IsPrefix (took d) (took x)) (sym last) (prefix_refl (took d))
      | inr before ↦ to_destination (suc (length (path layout scheme b d))) a b over before (omega arith)
    ]

    -- and of what the start of the link put
    pub arrived_was_put : (a b : ℕ) → link a b → IsPrefix (took d) (gave a)
    arrived_was_put a b over = prefix_trans (arrived_was_taken a b over) (link_carries world base s d a b ranks over)

    -- Where all that was sent arrived, all that was put over a link of the path was taken.
    pub link_is_empty : (a b : ℕ) → link a b → length (gave s) ≤ length (took d) → length (gave a) ≤ length (took b)
    link_is_empty a b over all =
        omega (arith, all, prefix_length (put_was_sent a b over), prefix_length (arrived_was_taken a b over))

    arrived_of_ranks : IsPrefix (took d) (gave s)
    arrived_of_ranks = let last = some_parent layout scheme s d ranks in taken_was_sent last.0 d last.1

  -- ---- what arrived, and whether or not both are ranks

  pub are_ranks : (s d : ℕ) → AreRanks layout s d ⊎ (AreRanks layout s d → ⊥)
  are_ranks s d = elim (cases_lt s layout.ranks) [
    | inr past ↦ inr (λ ranks. absurd (omega (arith, past, ranks.from_within)))
    | inl from ↦ elim (cases_lt d layout.ranks) [
      | inr past ↦ inr (λ ranks. absurd (omega (arith, past, ranks.to_within)))
      | inl to ↦ inl (record { laid_out = base.laid_out; from_within = from; to_within = to })
    ]
  ]

  pub got_prefix : (s d : ℕ) → IsPrefix (pair_taken s d (log_of world d)) (pair_put s d (log_of world s))
  got_prefix s d = elim (are_ranks s d) [
    | inl ranks ↦ arrived_of_ranks s d ranks
    | inr other ↦ rw (taken_of_ranks world base s d d other) (prefix_append [] (pair_put s d (log_of world s)))
  ]
