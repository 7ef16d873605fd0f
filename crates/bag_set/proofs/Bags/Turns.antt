-- The ranks to which items go, one after another, round the world.
use Rattle.std.proofs.Common.{◌≡◌, ◌≢◌, inl, inr, ◌-◌, ◌≤◌, ℕ, zero, suc, ◌+◌, ◌*◌, ◌/◌, ◌%◌, ◌<◌, sym, ap, ◌∙◌, arith}
use Rattle.std.proofs.lemmas.Bool.{cases_lt}
use Rattle.std.proofs.Math.Nat.{mul-le-mul_left, add-mul-mod_self_left, div-add-mod, mod-eq_of_lt, mod-lt}
use Rattle.bag_set.specs.Bags.{next_turn, turn_after}

-- a remainder may be taken at once or at the end
mod-add : (a b n : ℕ) → (a % n + b) % n ≡ (a + b) % n
mod-add a b n =
    let whole : a + b ≡ (a % n + b) + n * (a / n) = omega (arith, div-add-mod a n) in
    sym (ap (λ k. k % n) whole ∙ add-mul-mod_self_left (a % n + b) n (a / n))

pub goes_round : (ranks next count : ℕ) → next < ranks → turn_after ranks next count ≡ (next + count) % ranks
goes_round ranks next zero lt = sym (ap (λ k. k % ranks) (omega arith) ∙ mod-eq_of_lt lt)
goes_round ranks next (suc count) lt =
    goes_round ranks (next_turn ranks next) count (mod-lt (next + 1) (omega (arith, lt)))
    ∙ mod-add (next + 1) count ranks
    ∙ ap (λ k. k % ranks) (omega arith)

-- numbers that differ by less than the divisor have different remainders
other_remainder : (a d n : ℕ) → 0 < d → d < n → a % n ≢ (a + d) % n
other_remainder a d n some few same =
    let first = div-add-mod a n in
    let second = div-add-mod (a + d) n in
    elim (cases_lt (a / n) ((a + d) / n)) [
      | inl lt ↦
          let more : n * (a / n + 1) ≤ n * ((a + d) / n) = mul-le-mul_left n (omega (arith, lt)) in
          omega (arith, first, second, same, more, few)
      | inr le ↦
          let less : n * ((a + d) / n) ≤ n * (a / n) = mul-le-mul_left n le in
          omega (arith, first, second, same, less, some)
    ]

pub goes_apart : (ranks here count later : ℕ) → here < ranks → count < later → later < count + ranks → turn_after ranks here count ≢ turn_after ranks here later
goes_apart ranks here count later lt less near same =
    other_remainder (here + count) (later - count) ranks (omega (arith, less)) (omega (arith, less, near))
    (sym (goes_round ranks here count lt) ∙ same ∙ goes_round ranks here later lt ∙ ap (λ k. k % ranks) (omega (arith, less)))
