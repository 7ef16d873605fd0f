-- The first round of the barrier that a rank is in.
use Rattle.std.proofs.Common.{◌≡◌, ℕ, zero, suc, pred, ◌≤◌, ◌<◌, Bool, true, false, ◌&&◌, nat_eq, cond, is_some, Option, Some, None, List, [], ◌∷◌, ◌++◌, length, refl, sym, ap, ◌∙◌, inl, inr, arith, le_trans, length-append}
use Rattle.std.specs.Bool.{IsTrue}
use Rattle.std.specs.List.{find}
use Rattle.std.specs.Option.{option_or}
use Rattle.std.proofs.lemmas.Bool.{cases_lt}
use Rattle.std.proofs.lemmas.Grind.{flat_map-append}
use Rattle.std.proofs.lemmas.List.Folds.{find-append}
use Rattle.list_facts.specs.Below.{in_a_row}
use Rattle.list_facts.proofs.Below.{row_grows, row_passes, row_stops}
use Rattle.msg_codec.specs.Control.{round_of}
use Rattle.msg_codec.specs.declared.letter.Letter.{Letter}
use Rattle.world_core.specs.declared.entry.Entry.{Entry}
use Rattle.world_core.specs.declared.entry.Entry.TheVariants.{Put, Took}
use Rattle.world_core.specs.Counts.{is_total_to, total_taken}
use Rattle.world_core.specs.Log.{letters_of, letters_taken, letters_taken_by}
use Rattle.world_core.specs.Rounds.{Sums, sums_in, sums_told, ends_from, first_round, barrier_start, rounds_known}
use Rattle.world_core.proofs.Log.Appended.{batches_taken-put, batches_taken-took}

some_stays : (a b : Option Letter) → IsTrue (is_some a) → option_or a b ≡ a
some_stays (Some x) b told = refl
some_stays None b told = absurd cc

next_within : (b : Bool) (q first : ℕ) → first ≤ q → cond b (suc q) first ≤ suc q
next_within true q first le = omega arith
next_within false q first le = omega (arith, le)

pub first_within : (sums : ℕ → Sums) (q : ℕ) → first_round sums q ≤ q
unfolding first_round
first_within sums zero = omega arith
first_within sums (suc q) = next_within (ends_from (first_round sums q) sums q) q (first_round sums q) (first_within sums q)

-- A rank that hasn't taken the Total of a round is in no barrier past that round.
pub start_within : (here q : ℕ) (log : List Entry) → is_some (total_taken here q log) ≡ false → barrier_start here log ≤ q
unfolding barrier_start rounds_known
start_within here q log untold = le_trans (first_within _ _) (row_stops _ q _ untold)

-- ---- what a rank learns

next_grows : (b : Bool) (q first : ℕ) → first ≤ q → first ≤ cond b (suc q) first
next_grows true q first le = omega (arith, le)
next_grows false q first le = omega arith

-- later rounds are in no earlier barrier
pub first_grows : (sums : ℕ → Sums) (q m : ℕ) → q ≤ m → first_round sums q ≤ first_round sums m
unfolding first_round
first_grows sums q zero le = let at : q ≡ 0 = omega (arith, le) in rw at (omega arith)
first_grows sums q (suc m) le = elim (cases_lt m q) [
  | inl less ↦ let at : q ≡ suc m = omega (arith, le, less) in rw at (omega arith)
  | inr within ↦
      let here : first_round sums m ≤ cond (ends_from (first_round sums m) sums m) (suc m) (first_round sums m) =
      next_grows (ends_from (first_round sums m) sums m) m (first_round sums m) (first_within sums m) in
      le_trans (first_grows sums q m within) here
]

-- sums that are equal below a round give it the same barrier
pub first_same : (sums other : ℕ → Sums) (q : ℕ) → ((k : ℕ) → k < q → sums k ≡ other k) → first_round sums q ≡ first_round other q
unfolding first_round
first_same sums other zero same = refl
first_same sums other (suc q) same =
    let here : sums q ≡ other q = same q (omega arith) in
    let last : sums (pred q) ≡ other (pred q) = same (pred q) (omega arith) in
    let first : first_round sums q ≡ first_round other q = first_same sums other q (λ k less. same k (omega (arith, less))) in
    rw (here, last, first) refl

-- a Total that was taken is still the first of its round
pub told_same : (here q : ℕ) (log : List Entry) (entry : Entry) → IsTrue (is_some (total_taken here q log)) →
    total_taken here q (log ++ entry ∷ []) ≡ total_taken here q log
unfolding total_taken
told_same here q log (Put to batch) told = ap (λ batches. find (λ l. is_total_to here l && nat_eq (round_of l) q) (letters_of batches)) (batches_taken-put log to 0 batch)
told_same here q log (Took from batch) told =
    rw (batches_taken-took log from 0 batch, flat_map-append, find-append (λ l. is_total_to here l && nat_eq (round_of l) q)) (some_stays _ _ told)

-- A rank that takes more is in no earlier barrier.
pub start_grows : (here : ℕ) (log : List Entry) (entry : Entry) → barrier_start here log ≤ barrier_start here (log ++ entry ∷ [])
unfolding barrier_start rounds_known
start_grows here log entry =
    let now : List Entry = log ++ entry ∷ [] in
    let has : ℕ → Bool = λ q. is_some (total_taken here q log) in
    let known : ℕ = in_a_row has (length (letters_taken log)) in
    let taken : length (letters_taken log) ≤ length (letters_taken now) =
    omega (arith, ap length (flat_map-append letters_taken_by log (entry ∷ [])), length-append (letters_taken log) (letters_taken (entry ∷ []))) in
    let more : known ≤ in_a_row (λ q. is_some (total_taken here q now)) (length (letters_taken now)) =
    row_grows has (λ q. is_some (total_taken here q now)) (length (letters_taken log)) (length (letters_taken now)) (λ q told. ap is_some (told_same here q log entry told) ∙ told) taken in
    let same : first_round (sums_told here log) known ≡ first_round (sums_told here now) known =
    first_same (sums_told here log) (sums_told here now) known (λ q less. sym (ap sums_in (told_same here q log entry (row_passes has (length (letters_taken log)) q less)))) in
    le_trans (omega (arith, same)) (first_grows (sums_told here now) known _ more)
