-- Numbers that texts are.
use Rattle.std.proofs.Common.{◌≡◌, ℕ, zero, suc, ◌+◌, ◌-◌, ◌*◌, ◌<◌, ◌≤◌, ◌||◌, Bool, true, false, cond, List, [], ◌∷◌, Option, None, Some, drop, get_or, length, option_and_then, refl, ap, subst, arith}
use Rattle.std.specs.Prelude.{nat_lt, unwrap_or}
use Rattle.std.specs.Char.{is_ascii_digit}
use Rattle.std.proofs.lemmas.Bool.{lt-ltb, ltb-false}
use Rattle.ygm_run.specs.Words.{if_within, number_after}

or_true : (a : Bool) (x : Option ℕ) → cond (a || true) None x ≡ None
or_true true x = refl
or_true false x = refl

-- a number that is above `most` stays so by more digits
pub above_most : (digits : List ℕ) (number least most : ℕ) → most < number
    → option_and_then (if_within least most) (number_after number digits) ≡ None
above_most [] number least most above = rw (lt-ltb most number above) (or_true (nat_lt number least) (Some number))
above_most (byte ∷ bytes) number least most above = elim (is_ascii_digit byte) as (λ digit. option_and_then (if_within least most) (cond digit (number_after (number * 10 + (byte - 48)) bytes) None) ≡ None) [
  | true ↦ above_most bytes (number * 10 + (byte - 48)) least most (omega (arith, above))
  | false ↦ refl
]

-- one digit more is read
pub digit_more : (digits : List ℕ) (place number : ℕ) → place < length digits → is_ascii_digit (get_or digits place 0) ≡ true
    → number_after number (drop place digits) ≡ number_after (number * 10 + (get_or digits place 0 - 48)) (drop (place + 1) digits)
digit_more [] place number within digit = absurd (omega (arith, within))
digit_more (byte ∷ bytes) zero number within digit = ap (λ b. cond b (number_after (number * 10 + (byte - 48)) bytes) None) digit
digit_more (byte ∷ bytes) (suc place) number within digit =
    let e : suc (place + 1) ≡ suc place + 1 = omega arith in
    subst (λ k. number_after number (drop place bytes) ≡ number_after (number * 10 + (get_or bytes place 0 - 48)) (drop k (byte ∷ bytes))) e
    (digit_more bytes place number (omega (arith, within)) digit)

-- a number within bounds, or else a default within them
pub default_within : (least most other : ℕ) → least ≤ other → other ≤ most → (found : Option ℕ)
    → let number = unwrap_or (option_and_then (if_within least most) found) other in (least ≤ number) × (number ≤ most)
default_within least most other low high None = (low, high)
default_within least most other low high (Some number) = of (nat_lt number least) (nat_lt most number) refl refl where
  of : (below above : Bool) → nat_lt number least ≡ below → nat_lt most number ≡ above
      → let one = unwrap_or (cond (below || above) None (Some number)) other in (least ≤ one) × (one ≤ most)
  of true above below_is above_is = (low, high)
  of false true below_is above_is = (low, high)
  of false false below_is above_is = (ltb-false number least below_is, ltb-false most number above_is)
