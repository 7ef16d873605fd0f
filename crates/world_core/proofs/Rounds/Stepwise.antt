-- Barriers, round by round.
use Rattle.std.proofs.Common.{◌≡◌, ℕ, zero, suc, pred, ◌+◌, ◌≤◌, ◌<◌, true, false, ◌&&◌, nat_lt, is_some, List, length, refl, ap, add-one, arith, if◌then◌else◌}
use Rattle.list_facts.proofs.Below.{row_is}
use Rattle.world_core.specs.declared.entry.Entry.{Entry}
use Rattle.world_core.specs.Counts.{total_taken}
use Rattle.world_core.specs.Log.{letters_taken}
use Rattle.world_core.specs.Rounds.{Sums, agree, barrier_start, ended_below, ends, first_round, rounds_known, sums_told}

-- the round after the last one that ended a barrier, and how many did
module _ (sums : ℕ → Sums) (q : ℕ) where
  pub first_next : first_round sums (q + 1) ≡ (if ends sums q then q + 1 else first_round sums q)
  unfolding first_round
  first_next = rw (add-one q) refl

  pub ended_next : ended_below sums (q + 1) ≡ ended_below sums q + (if ends sums q then 1 else 0)
  unfolding ended_below
  ended_next = ap (ended_below sums) (add-one q)

-- whether a round ends a barrier, as it is tried with what is known of the rounds before
pub ends_now : (sums : ℕ → Sums) (q : ℕ) (first : ℕ) (before now : Sums) → first ≡ first_round sums q → (0 < q → before ≡ sums (pred q)) → now ≡ sums q →
    (nat_lt first q && agree before now) ≡ ends sums q
unfolding first_round
ends_now sums zero first before now is last this = rw is refl
ends_now sums (suc q) first before now is last this =
    let earlier : before ≡ sums q = last (omega arith) in
    rw (is, earlier, this) refl

-- a rank knows the rounds up to one whose Total it didn't take, or up to the number of letters that it took
pub start_is : (here : ℕ) (log : List Entry) (q : ℕ) → q ≤ length (letters_taken log) → ((j : ℕ) → j < q → is_some (total_taken here j log) ≡ true) →
    (q < length (letters_taken log) → is_some (total_taken here q log) ≡ false) → barrier_start here log ≡ first_round (sums_told here log) q
unfolding barrier_start rounds_known
start_is here log q within known ends_here =
    ap (first_round (sums_told here log)) (row_is (λ j. is_some (total_taken here j log)) (length (letters_taken log)) q within known ends_here)
