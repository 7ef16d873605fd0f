use Rattle.std.proofs.Common.{◌≡◌}
use Rattle.std.specs.Io.KnownBytes.{Keeps}
use Rattle.ygm_io.proofs.std_source.StdSourceSource.read.Given as goal

-- no try has read a byte or counted a fault
abbrev pub invariant-loop : goal.invariant-loop
invariant-loop g l = record {
  stands : l.self.faults ≡ l.initial.self.faults;
  kept : Keeps (g.R.Read.remaining l.initial.self.reader) (g.R.Read.remaining l.self.reader);
}
