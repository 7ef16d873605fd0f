use Rattle.std.proofs.Common.{◌≡◌, nat_eq, true, false, eq-eqb, ne_eqb, refl, append-nil}
use Rattle.msg_codec.specs.declared.letter.Letter.{Letter}
use Rattle.world_core.specs.Counts.{count_taken}
use Rattle.world_core.proofs.control_letters.count_by.Goals as goal

pub returns-in-Put : goal.returns-in-Put
unfolding count_taken
returns-in-Put c = rw c.in-Put.is refl

pub returns-then-from-rank : goal.returns-then-from-rank
unfolding count_taken
returns-then-from-rank c =
    let other : nat_eq c.in-Took.from c.args.rank ≡ false = ne_eqb _ _ c.if-from-rank.true in
    rw (c.in-Took.is, other) refl

pub returns-else-from-rank : goal.returns-else-from-rank
unfolding count_taken
returns-else-from-rank c =
    let same : nat_eq c.in-Took.from c.args.rank ≡ true = eq-eqb _ _ c.if-from-rank.false in
    rw (c.in-Took.is, same, append-nil {A = Letter}) c.count_in.ensures
