-- A batch that breaks no rule holds one letter, or no control letter.
use Rattle.std.proofs.Common.{◌≡◌, ℕ, suc, Bool, true, false, not, ◌&&◌, nat_eq, ne_eqb, eqb-true, List, [], ◌∷◌, length, ap, arith}
use Rattle.std.specs.List.{AllByRecursion, list_any}
use Rattle.std.proofs.lemmas.Bool.{false_from_ne_true}
use Rattle.list_facts.proofs.Elements.{all_weaker}
use Rattle.list_facts.proofs.Tests.{and_first, or_false_first, or_false_second}
use Rattle.msg_codec.specs.Control.{is_control, is_count, is_total}
use Rattle.msg_codec.specs.declared.letter.Letter.{Letter}
use Rattle.world_core.specs.Local.{Local}
use Rattle.world_core.specs.Rules.{mixed_control}
use Rattle.world_core.specs.Rules.Deed.{Puts}

several : (b : Bool) (n : ℕ) → (b && not (nat_eq (suc (suc n)) 1)) ≡ false → b ≡ false
several true n h = absurd (
    let other : nat_eq (suc (suc n)) 1 ≡ false = ne_eqb (suc (suc n)) 1 (λ e. absurd (omega (arith, e))) in
    let mixed : not (nat_eq (suc (suc n)) 1) ≡ true = ap not other in
    cc)
several false n h = h

pub each_fails : (test : Letter → Bool) (letters : List Letter) → list_any test letters ≡ false → AllByRecursion (λ l. test l ≡ false) letters
each_fails test [] h = tt
each_fails test (l ∷ letters) h =
    let here : test l ≡ false = or_false_first (test l) (list_any test letters) h in
    (here, each_fails test letters (or_false_second (test l) (list_any test letters) h))

pub no_control : (me : Local) (to : ℕ) (l m : Letter) (more : List Letter) → mixed_control me (Puts to (l ∷ m ∷ more)) ≡ false →
    AllByRecursion (λ x. is_control x ≡ false) (l ∷ m ∷ more)
no_control me to l m more unmixed = each_fails is_control (l ∷ m ∷ more) (several (list_any is_control (l ∷ m ∷ more)) (length more) unmixed)

pub no_count : (letters : List Letter) → AllByRecursion (λ l. is_control l ≡ false) letters → AllByRecursion (λ l. is_count l ≡ false) letters
no_count letters = all_weaker (λ l. is_control l ≡ false) (λ l. is_count l ≡ false) letters (λ l h. or_false_first (is_count l) (is_total l) h)

pub no_total : (letters : List Letter) → AllByRecursion (λ l. is_control l ≡ false) letters → AllByRecursion (λ l. is_total l ≡ false) letters
no_total letters = all_weaker (λ l. is_control l ≡ false) (λ l. is_total l ≡ false) letters (λ l h. or_false_second (is_count l) (is_total l) h)

-- no letter is a Count and a Total
pub not_both : (l : Letter) → is_count l ≡ true → is_total l ≡ false
not_both l count = false_from_ne_true (is_total l) (λ total.
    let one : l.tag ≡ 240 = eqb-true _ _ (and_first _ _ count) in
    let other : l.tag ≡ 241 = eqb-true _ _ (and_first _ _ total) in
    absurd (omega (arith, one, other)))
