-- The test of the same letter.
use Rattle.std.proofs.Common.{◌≡◌, ℕ, true, eqb-true, List}
use lib.Pointwise.{bytes_decides}
use Rattle.msg_codec.specs.declared.letter.Letter.{Letter}
use Rattle.world_core.specs.Rules.{same_letter}
use Rattle.list_facts.proofs.Tests.{and_first, and_second}

equal_fields : (to to' from from' tag tag' : ℕ) (body body' : List ℕ) → to ≡ to' → from ≡ from' → tag ≡ tag' → body ≡ body' →
    (let l : Letter = record { to = to; from = from; tag = tag; body = body } in l) ≡ record { to = to'; from = from'; tag = tag'; body = body' }
equal_fields to to' from from' tag tag' body body' a b c d = cc

pub same_letter-is : (a b : Letter) → same_letter a b ≡ true → a ≡ b
same_letter-is a b h =
    let x = and_first _ _ h in
    let y = and_first _ _ x in
    equal_fields a.to b.to a.from b.from a.tag b.tag a.body b.body
    (eqb-true _ _ (and_first _ _ y)) (eqb-true _ _ (and_second _ _ y)) (eqb-true _ _ (and_second _ _ x)) ((bytes_decides a.body b.body).0 (and_second _ _ h))
