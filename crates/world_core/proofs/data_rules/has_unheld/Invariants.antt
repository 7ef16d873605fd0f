use Rattle.std.proofs.Common.{◌≡◌, false, [], take}
use Rattle.world_core.specs.Rules.{some_letter_after, not_held}
use Rattle.world_core.specs.Trial.{local_tried}
use Rattle.world_core.proofs.data_rules.has_unheld.Given as goal

abbrev pub invariant-loop-k : goal.invariant-loop-k
invariant-loop-k l = some_letter_after not_held [] (take l.k l.letters) (local_tried l.me) l.to ≡ false
