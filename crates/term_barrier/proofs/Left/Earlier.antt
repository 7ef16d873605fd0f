-- A rank that has left a barrier has left each one before it.
use Rattle.std.proofs.Common.{◌≡◌, ℕ, zero, suc, ◌≤◌, ◌<◌, Bool, true, false, cond, ◌+◌, refl, arith, inl, inr}
use Rattle.std.proofs.lemmas.Bool.{cases_lt}
use Rattle.world_core.specs.Local.{Local}
use Rattle.world_core.specs.Rounds.{Sums, ended_below, ends, sums_told}
use Rattle.term_barrier.specs.Left.{HasLeft}

module _ (sums : ℕ → Sums) (k : ℕ) where
  record Ended (bound : ℕ) : Type 0 where
    round : ℕ
    before : round < bound
    ended : ends sums round ≡ true
    number : ended_below sums round ≡ k

  last : (q : ℕ) (b : Bool) → ends sums q ≡ b → ended_below sums q ≤ k → k < ended_below sums q + cond b 1 0 → Ended (suc q)
  last q true e few more = record { round = q; before = omega arith; ended = e; number = omega (arith, few, more) }
  last q false e few more = absurd (omega (arith, few, more))

  ended_at : (q : ℕ) → k < ended_below sums q → Ended q
  unfolding ended_below
  ended_at zero more = absurd (omega (arith, more))
  ended_at (suc q) more = elim (cases_lt k (ended_below sums q)) [
    | inl earlier ↦
        let found = ended_at q earlier in
        record { round = found.round; before = omega (arith, found.before); ended = found.ended; number = found.number }
    | inr few ↦ last q (ends sums q) refl few more
  ]

pub left_earlier : (me : Local) (barrier round earlier : ℕ) → HasLeft me barrier round → earlier < barrier →
    (q : ℕ) × (q < round) × HasLeft me earlier q
left_earlier me barrier round earlier left lt =
    let found = ended_at (sums_told me.here me.log) earlier round (omega (arith, lt, left.number)) in (
      found.round,
      found.before,
      record { known = omega (arith, found.before, left.known); ended = found.ended; number = found.number },
    )
