use Rattle.std.proofs.Common.{◌≡◌, length}
use Rattle.term_barrier.specs.Barriers.{HasRoom, with_letters}
use Rattle.term_barrier.proofs.barrier.Barrier.hear_all.Given as goal

abbrev pub invariant-loop-control : goal.invariant-loop-control
invariant-loop-control g l = record {
  room : HasRoom l.self l.comm.controls;
  heard : with_letters l.self l.comm.controls ≡ with_letters l.fn.self l.fn.comm.controls;
  comm : l.comm ≡ record l.fn.comm { controls = l.comm.controls };
}

abbrev pub decreases-loop-control : goal.decreases-loop-control
decreases-loop-control g l = length l.comm.controls
