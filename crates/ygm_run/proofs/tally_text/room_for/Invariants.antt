use Rattle.std.proofs.Common.{◌≡◌, ◌+◌, ◌-◌, ◌^◌, length, min, sum_by, take}
use Rattle.ygm_run.proofs.tally_text.room_for.Given as goal

-- the room for the rows so far
abbrev pub invariant-loop-item : goal.invariant-loop-item
invariant-loop-item l = l.room ≡ min (sum_by (λ entry. length entry.0.now + 22) (take l.item-index l.entries)) (2 ^ 64 - 1)
