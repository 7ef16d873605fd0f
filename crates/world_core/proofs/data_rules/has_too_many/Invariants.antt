use Rattle.std.proofs.Common.{◌≡◌, ◌+◌, false, [], take}
use Rattle.world_core.specs.Pairs.{own_count, sent_number}
use Rattle.world_core.specs.Rules.{some_letter_after, too_many_sent}
use Rattle.world_core.specs.Trial.{local_tried}
use Rattle.world_core.proofs.data_rules.has_too_many.Given as goal

abbrev pub invariant-loop-k : goal.invariant-loop-k
invariant-loop-k l = record {
  none : some_letter_after too_many_sent [] (take l.k l.letters) (local_tried l.me) l.to ≡ false;
  sent : l.sent ≡ own_count l.me.here l.me.log.now + sent_number l.me.here (take l.k l.letters);
}
