-- The letters of a pair.
use Rattle.std.proofs.Common.{◌≡◌, ℕ, ◌≤◌, true, nat_eq, eqb-true, eq-eqb, List, length, refl, ◌&&◌}
use Rattle.msg_codec.specs.declared.letter.Letter.{Letter}
use Rattle.world_core.specs.Pairs.{is_data, is_of_pair, of_pair, of_sender}
use Rattle.list_facts.proofs.Elements.{every}
use Rattle.list_facts.proofs.Tests.{and_first, and_second}
use Rattle.list_facts.proofs.Filters.{fewer}

-- the pair of a letter
pub pair_of : (s d : ℕ) (l : Letter) → is_of_pair s d l ≡ true → (l.from ≡ s) × (l.to ≡ d)
pair_of s d l h = (eqb-true _ _ (and_second _ _ (and_first _ _ h)), eqb-true _ _ (and_second _ _ h))

-- which is a data letter
pub pair_data : (s d : ℕ) (l : Letter) → is_of_pair s d l ≡ true → is_data l ≡ true
pair_data s d l h = and_first _ _ (and_first _ _ h)

pub own_pair : (l : Letter) → is_data l ≡ true → is_of_pair l.from l.to l ≡ true
own_pair l tag =
    let from : nat_eq l.from l.from ≡ true = eq-eqb l.from l.from refl in
    let to : nat_eq l.to l.to ≡ true = eq-eqb l.to l.to refl in
    rw (tag, from, to) refl

-- a sender has no more letters to one rank than to all
pub pair_of_sender : (from to : ℕ) (letters : List Letter) → length (of_pair from to letters) ≤ length (of_sender from letters)
pair_of_sender from to letters = fewer (is_of_pair from to) (λ l. is_data l && nat_eq l.from from) letters (every _ _ (λ l h. and_first _ _ h))
