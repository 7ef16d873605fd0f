-- Where a round ends a barrier, the cut at the round before is quiet: the two agree, so no letter was sent between them.
use Rattle.std.proofs.Common.{◌≡◌, ℕ, suc, ◌&&◌, true, nat_lt, nat_eq, eqb-true, arith}
use Rattle.list_facts.proofs.Tests.{and_first, and_second}
use Rattle.world_core.specs.Rounds.{agree, ends, first_round}
use Rattle.world_core.specs.Wave.{sent_at, run_at, sums_at, IsComplete, IsQuiet, IsWave}
use Rattle.world_core.specs.World.{Logs}

pub ended_is_quiet : (world : Logs) → ((q : ℕ) → IsComplete world q → sent_at world q ≡ run_at world q → IsWave world q) →
    (q : ℕ) → IsComplete world (suc q) → ends (sums_at world) (suc q) ≡ true → IsQuiet world q
ended_is_quiet world waves q complete ended =
    let complete_before : IsComplete world q = λ rank within. omega (arith, complete rank within) in
    let agreed : agree (sums_at world q) (sums_at world (suc q)) ≡ true =
    and_second (nat_lt (first_round (sums_at world) (suc q)) (suc q)) _ ended in
    let both_ran : (nat_eq (sent_at world q) (run_at world q) && nat_eq (sent_at world (suc q)) (run_at world (suc q))) ≡ true =
    and_first _ _ agreed in
    (waves q complete_before (eqb-true _ _ (and_first _ _ both_ran))).quiet (eqb-true _ _ (and_second _ _ agreed))
