use Rattle.std.proofs.Common.{◌≡◌, ◌*◌, ◌≤◌, length, take}
use Rattle.world_core.specs.Log.{letters_taken}
use Rattle.world_core.proofs.known_rounds.taken_len.Given as goal

abbrev pub invariant-loop-entry : goal.invariant-loop-entry
invariant-loop-entry l = record {
  value : l.count ≡ length (letters_taken (take l.entry-index l.log));
  few : l.count ≤ l.entry-index * 0xffff_ffff_ffff_ffff;
}
