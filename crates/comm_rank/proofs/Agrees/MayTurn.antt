-- A rank that has put data letters alone may take a turn.
use Rattle.std.proofs.Common.{List, inl}
use Rattle.world_core.specs.declared.entry.Entry.{Entry}
use Rattle.world_core.proofs.Counts.StaysFree.{free_uncounted, no_counts}
use Rattle.comm_rank.specs.Agrees.{MayTurn, PutsData}
use Rattle.comm_rank.specs.Rank.{Rank, local_of}

-- it has no Count, and so it is free
pub may_turn_data : {C : Type 0} (me : Rank C) (log : List Entry) → PutsData log → MayTurn me log
may_turn_data me log alone = inl (free_uncounted (local_of me log) (no_counts log alone))
