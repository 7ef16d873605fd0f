use Rattle.std.proofs.Common.{◌≡◌}
use Rattle.std.specs.Io.KnownBytes.{Keeps}
use Rattle.ygm_io.proofs.std_sink.StdSinkSink.write.Given as goal

-- no try has written a byte or counted a fault
abbrev pub invariant-loop : goal.invariant-loop
invariant-loop g l = record {
  stands : l.self.faults ≡ l.initial.self.faults;
  kept : Keeps (g.W.Write.contents l.initial.self.writer) (g.W.Write.contents l.self.writer);
}
