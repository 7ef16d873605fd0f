use Rattle.std.proofs.Common.{◌≡◌, ◌-◌, ◌≤◌, length, take}
use Rattle.ygm_io.specs.Content.{AppendedTo}
use Rattle.ygm_io.proofs.writing.write_all.Given as goal

-- the first bytes were appended to what was held, and no call has failed
abbrev pub invariant-loop-written : goal.invariant-loop-written
invariant-loop-written g l = record {
  within : l.written ≤ length l.bytes;
  appended : AppendedTo (take l.written l.bytes) (g.K.Sink.holds l.initial.sink) (g.K.Sink.holds l.sink);
  stands : g.K.Sink.faults l.sink ≡ g.K.Sink.faults l.initial.sink;
}

abbrev pub decreases-loop-written : goal.decreases-loop-written
decreases-loop-written g l = length l.bytes - l.written
