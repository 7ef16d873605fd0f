use Rattle.std.proofs.Common.{◌≡◌, nat_eq, true, false, eq-eqb, ne_eqb, refl, append-nil}
use Rattle.msg_codec.specs.declared.letter.Letter.{Letter}
use Rattle.world_core.specs.Counts.{total_taken}
use Rattle.world_core.proofs.control_letters.total_by.Goals as goal

pub returns-in-Put : goal.returns-in-Put
unfolding total_taken
returns-in-Put c = rw c.in-Put.is refl

pub returns-then-from-ne0 : goal.returns-then-from-ne0
unfolding total_taken
returns-then-from-ne0 c =
    let other : nat_eq c.in-Took.from 0 ≡ false = ne_eqb _ _ c.if-from-ne0.true in
    rw (c.in-Took.is, other) refl

pub returns-else-from-ne0 : goal.returns-else-from-ne0
unfolding total_taken
returns-else-from-ne0 c =
    let same : nat_eq c.in-Took.from 0 ≡ true = eq-eqb _ _ c.if-from-ne0.false in
    rw (c.in-Took.is, same, append-nil {A = Letter}) c.total_in.ensures
