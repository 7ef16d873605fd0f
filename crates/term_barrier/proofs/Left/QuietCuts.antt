-- The cuts of the barriers that all ranks have left are quiet, in order and within the logs.
use Rattle.std.proofs.Common.{◌≡◌, ℕ, zero, suc, pred, ◌≤◌, ◌<◌, true, nat_lt, ltb-true, List, length, take, sym, subst, le_trans, inl, inr, arith}
use Rattle.std.proofs.lemmas.Bool.{cases_lt}
use Rattle.list_facts.proofs.Prefix.{prefix_is_take, prefix_length}
use Rattle.list_facts.proofs.Tests.{and_first}
use Rattle.world_core.specs.declared.entry.Entry.{Entry}
use Rattle.world_core.specs.Counts.{before_count}
use Rattle.world_core.specs.Local.{Local}
use Rattle.world_core.specs.Pairs.{pair_put, pair_taken}
use Rattle.world_core.specs.Rounds.{ends, first_round}
use Rattle.world_core.specs.Sound.{IsSound}
use Rattle.world_core.specs.Wave.{EndsBarrier, IsComplete, IsQuiet, sums_at}
use Rattle.world_core.specs.World.{Logs, local, log_of}
use Rattle.world_core.proofs.Counts.BeforeCount.{before_next, before_part}
use Rattle.term_barrier.specs.Cuts.{AreQuietCuts, phase_start}
use Rattle.term_barrier.specs.Left.{HaveLeft, left_cut, left_cuts}
use Rattle.term_barrier.proofs.Left.Known.{left_ends}
use Rattle.term_barrier.proofs.Left.OneRound.{one_round, rounds_rise}
use Rattle.term_barrier.proofs.Passed.FromWorld.{quiet_round}

-- a round that ends a barrier isn't the first, and the cut at the round before is quiet
pub ended_cut : (world : Logs) (barrier round : ℕ) → IsSound world → EndsBarrier world barrier round → (0 < round) × IsQuiet world (pred round)
ended_cut world barrier round sound ended = by_round round ended.complete ended.ends
  where
    by_round : (q : ℕ) → IsComplete world q → ends (sums_at world) q ≡ true → (0 < q) × IsQuiet world (pred q)
    by_round zero complete e =
        absurd (let less : first_round (sums_at world) 0 < 0 = ltb-true _ _ (and_first (nat_lt (first_round (sums_at world) 0) 0) _ e) in omega (arith, less))
    by_round (suc q) complete e = (omega arith, sound.rounds.ended q complete e)

-- ---- places

-- the Counts of later rounds are at later places
before_rises : (log : List Entry) (q m : ℕ) → q ≤ m → length (before_count q log) ≤ length (before_count m log)
before_rises log zero zero le = omega arith
before_rises log (suc q) zero le = absurd (omega (arith, le))
before_rises log q (suc m) le = elim (cases_lt m q) [
  | inl past ↦
      let same : suc m ≡ q = omega (arith, past, le) in
      let P : ℕ → Type 0 = λ n. length (before_count n log) ≤ length (before_count (suc m) log) in
      subst P same (omega arith)
  | inr within ↦ le_trans (before_rises log q m within) (prefix_length (before_next m log))
]

pred_rises : (q p : ℕ) → suc q < p → pred q ≤ pred p
pred_rises zero p lt = omega arith
pred_rises q zero lt = absurd (omega (arith, lt))
pred_rises (suc q) (suc p) lt = omega (arith, lt)

pub cut_within : (me : Local) (round : ℕ) → left_cut me round ≤ length me.log
cut_within me round = prefix_length (before_part (pred round) me.log)

pub cut_part : (me : Local) (round : ℕ) → take (left_cut me round) me.log ≡ before_count (pred round) me.log
cut_part me round = sym (prefix_is_take (before_part (pred round) me.log))

-- ---- all ranks

module _ (world : Logs) (barriers : ℕ) (rounds : ℕ → ℕ → ℕ) (sound : IsSound world) (left : HaveLeft world barriers rounds) where
  ended : (rank barrier : ℕ) → rank < world.layout.ranks → barrier < barriers → EndsBarrier world barrier (rounds rank barrier)
  ended rank barrier r b = left_ends world sound rank barrier (rounds rank barrier) (left rank barrier r b)

  pub quiet_cuts : AreQuietCuts world.layout.ranks barriers (log_of world) (left_cuts world rounds)
  quiet_cuts barrier b from to f t =
      let q = rounds from barrier in
      let same : q ≡ rounds to barrier = one_round world barrier q (rounds to barrier) (ended from barrier f b) (ended to barrier t b) in
      let P : ℕ → Type 0 = λ n. pair_put from to (take (left_cut (local world from) q) (log_of world from)) ≡ pair_taken from to (take (left_cut (local world to) n) (log_of world to)) in
      subst P same (quiet_round world (pred q) (ended_cut world barrier q sound (ended from barrier f b)).1 from to f t)

  pub cuts_in_order : (rank barrier : ℕ) → rank < world.layout.ranks → barrier < barriers →
      phase_start (left_cuts world rounds rank) barrier ≤ left_cuts world rounds rank barrier
  cuts_in_order rank zero r b = omega arith
  cuts_in_order rank (suc barrier) r b =
      before_rises (log_of world rank) _ _
      (pred_rises _ _ (rounds_rise world barrier (suc barrier) _ _ (ended rank barrier r (omega (arith, b))) (ended rank (suc barrier) r b) (omega arith)))
