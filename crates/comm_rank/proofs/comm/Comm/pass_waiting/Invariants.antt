use Rattle.std.proofs.Common.{◌≡◌, ◌++◌, List, length}
use Rattle.msg_codec.specs.declared.letter.Letter.{Letter}
use Rattle.comm_rank.specs.Rank.{OnlyRan}
use Rattle.comm_rank.specs.Running.{HasPassed}
use Rattle.comm_rank.proofs.comm.Comm.pass_waiting.Given as goal

-- so many letters passed
abbrev pub invariant-loop : goal.invariant-loop
invariant-loop g l = record {
  letters : List Letter;
  waits : l.fn.self.waiting ≡ letters ++ l.self.waiting;
  long : length letters ≡ l.counter;
  passed : HasPassed g.H.Handler.apply l.fn.self l.self letters;
  count : l.end ≡ length l.fn.self.waiting;
  rank : OnlyRan l.fn.self l.self;
}
