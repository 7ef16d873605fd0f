-- The barriers that a rank left, and their cuts, stay as its log grows. So do its phases.
use Rattle.std.proofs.Common.{◌≡◌, ℕ, pred, ◌<◌, List, length, refl, sym, ap, ◌∙◌, subst, arith}
use Rattle.list_facts.specs.Prefix.{IsPrefix}
use Rattle.msg_codec.specs.declared.letter.Letter.{Letter}
use Rattle.world_core.specs.declared.entry.Entry.{Entry}
use Rattle.world_core.specs.Counts.{before_count, counts}
use Rattle.world_core.specs.Modest.{IsModest}
use Rattle.world_core.proofs.Counts.BeforeCount.{before_stands}
use Rattle.comm_rank.specs.Rank.{IsSameRank, Rank, local_of}
use Rattle.term_barrier.specs.Account.{Account, RankHandler}
use Rattle.term_barrier.specs.Carried.{own_cuts}
use Rattle.term_barrier.specs.CountedPlace.{AreCountedPlaces}
use Rattle.term_barrier.specs.Cuts.{phase_start}
use Rattle.term_barrier.specs.Left.{HasLeft, gained, left_cut}
use Rattle.term_barrier.proofs.Account.Kept.{account_same, same_start}
use Rattle.term_barrier.proofs.Left.Grown.{left_stays}
use Rattle.term_barrier.proofs.Left.SameSums.{pred_within}
use Rattle.term_barrier.proofs.Left.Since.{counted_known}

module _ {C : Type 0} (me now : Rank C) (before after : List Entry) (same : IsSameRank me now)
    (modest : IsModest (local_of me before)) (grows : IsPrefix before after) where
  pub grown_there : gained (local_of me before) grows.rest ≡ local_of now after
  grown_there =
      let same_rank : local_of me after ≡ local_of now after = rw (same.layout, same.scheme, same.here) refl in
      ap (local_of me) grows.joined ∙ same_rank

  pub left_grown : (barrier round : ℕ) → HasLeft (local_of me before) barrier round → HasLeft (local_of now after) barrier round
  left_grown barrier round left =
      subst (λ l. HasLeft l barrier round) grown_there (left_stays (local_of me before) grows.rest barrier round left)

  pub cut_grown : (barrier round : ℕ) → HasLeft (local_of me before) barrier round →
      left_cut (local_of now after) round ≡ left_cut (local_of me before) round
  cut_grown barrier round left =
      let put : round < counts before = counted_known (local_of me before) modest round left.known in
      ap length (ap (before_count (pred round)) (sym grows.joined)
      ∙ before_stands (pred round) before grows.rest (omega (arith, put, pred_within round)))

  -- ---- the phases before this one

  module _ (rounds : ℕ → ℕ) (phase : ℕ) (left : (k : ℕ) → k < phase → HasLeft (local_of me before) k (rounds k)) where
    abbrev cuts : ℕ → ℕ
    cuts = own_cuts (local_of me before) rounds

    abbrev cuts_now : ℕ → ℕ
    cuts_now = own_cuts (local_of now after) rounds

    pub cuts_grown : (k : ℕ) → k < phase → cuts_now k ≡ cuts k
    cuts_grown k lt = cut_grown k (rounds k) (left k lt)

    module _ (handler : RankHandler C) (own : ℕ → ℕ → List Letter) (held : List Letter) where
      pub account_recut : Account handler own cuts phase held after → Account handler own cuts_now phase held after
      account_recut account = account_same handler own own cuts cuts_now phase held after cuts_grown (λ k to le. refl) account

      pub places_recut : (first : ℕ) → AreCountedPlaces handler (own phase) (phase_start cuts phase) first held after →
          AreCountedPlaces handler (own phase) (phase_start cuts_now phase) first held after
      places_recut first places =
          let start = same_start handler own own cuts cuts_now phase held after cuts_grown (λ k to le. refl) phase (omega arith) in
          subst (λ begin. AreCountedPlaces handler (own phase) begin first held after) (sym start) places
