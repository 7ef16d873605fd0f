-- Where a barrier ended and each log is served, what handlers gave by letters before its cut arrived before it too.
use Rattle.std.proofs.Common.{ℕ, pred, ◌<◌, sym, subst, ◌∙◌, arith}
use Rattle.list_facts.specs.Sublist.{IsSublist}
use Rattle.world_core.specs.Counts.{counts}
use Rattle.world_core.specs.Log.{letters_taken}
use Rattle.world_core.specs.Sound.{IsSound}
use Rattle.world_core.specs.Wave.{EndsBarrier, IsQuiet, cut}
use Rattle.world_core.specs.World.{Logs, log_of}
use Rattle.comm_rank.specs.Agrees.{IsServed}
use Rattle.comm_rank.specs.Fold.{Applies}
use Rattle.comm_rank.proofs.Rank.RanFrom.{pair_of_rank}
use Rattle.term_barrier.specs.Served.{IsSettledCut}
use Rattle.term_barrier.proofs.Left.QuietCuts.{ended_cut}
use Rattle.term_barrier.proofs.Left.SameSums.{pred_within}

pub settled_cut : {C : Type 0} (apply : Applies C) (start : ℕ → C) (world : Logs) (barrier round : ℕ) → IsSound world → EndsBarrier world barrier round →
    ((rank : ℕ) → rank < world.layout.ranks → IsServed apply rank world.layout.ranks (start rank) (log_of world rank)) →
    IsSettledCut apply start world (pred round)
settled_cut apply start world barrier round sound ended served =
    let quiet : IsQuiet world (pred round) = (ended_cut world barrier round sound ended).1 in
    record {
      letters = quiet;
      offspring = λ from to within.
          let put : round < counts (log_of world from) = ended.complete from within in
          subst (IsSublist _) (quiet from to ∙ sym (pair_of_rank from to (letters_taken (cut world (pred round) to))))
          (served from within (pred round) to (omega (arith, put, pred_within round)));
    }
