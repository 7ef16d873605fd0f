-- The numbers that the rules look at, after a put. Each rule tries the first letter of a batch after a put of an empty batch.
use Rattle.std.proofs.Common.{◌≡◌, ℕ, zero, suc, ◌+◌, pred, Bool, true, false, cond, not, ◌&&◌, ◌||◌, nat_eq, nat_lt, is_some, List, [], ◌∷◌, ◌++◌, length, filter, refl, ap, ◌∙◌, append-nil, if◌then◌else◌, arith}
use Rattle.std.specs.List.{find, list_any}
use Rattle.std.proofs.lemmas.Grind.{flat_map-append}
use Rattle.list_facts.proofs.Below.{some_below-same}
use Rattle.list_facts.proofs.Sums.{sum_upto-same}
use Rattle.list_facts.specs.Below.{some_below}
use Rattle.msg_codec.specs.Control.{is_count, is_total, round_of}
use Rattle.msg_codec.specs.declared.letter.Letter.{Letter}
use Rattle.world_core.specs.declared.entry.Entry.{Entry}
use Rattle.world_core.specs.declared.entry.Entry.TheVariants.{Put}
use Rattle.world_core.specs.ControlRules.{count_early, count_unforwarded, count_wrong, has_to_forward, is_counted, is_free, is_idle, run_taken, sent_taken, sent_while_counted, total_early, total_wrong}
use Rattle.world_core.specs.Counts.{before_count, count_taken, counts, is_total_to, puts_count, total_taken, totals}
use Rattle.world_core.specs.Local.{Local, having_put, to_forward}
use Rattle.world_core.specs.Log.{batches_put, letters_of, letters_put, letters_taken, letters_taken_by}
use Rattle.world_core.specs.Pairs.{own_count, pair_put, run_count, run_number, sent_number}
use Rattle.world_core.specs.Rounds.{barrier_start, first_round, rounds_known, sums_in, sums_told}
use Rattle.world_core.proofs.Counts.BeforeCount.{counts-append}
use Rattle.world_core.proofs.Log.Appended.{batches_put-put, batches_taken-put, letters_put-put, letters_taken-put}
use Rattle.world_core.proofs.Pairs.Appended.{pair_put-put, pair_taken-put}
use Rattle.world_core.proofs.Pairs.Numbers.{run_count-put}

-- ---- the Counts of a log with one entry more

pub counts-none : (log : List Entry) (entry : Entry) → puts_count entry ≡ false → counts (log ++ entry ∷ []) ≡ counts log
counts-none log entry none = let alone : counts (entry ∷ []) ≡ 0 = rw none refl in omega (arith, counts-append log (entry ∷ []))

pub counts-one : (log : List Entry) (entry : Entry) → puts_count entry ≡ true → counts (log ++ entry ∷ []) ≡ counts log + 1
counts-one log entry one = let alone : counts (entry ∷ []) ≡ 1 = rw one refl in omega (arith, counts-append log (entry ∷ []))

-- ---- after any put

pub count_taken-put : (rank q : ℕ) (log : List Entry) (to : ℕ) (batch : List Letter) → count_taken rank q (log ++ Put to batch ∷ []) ≡ count_taken rank q log
unfolding count_taken
count_taken-put rank q log to batch = rw (batches_taken-put log to rank batch) refl

pub total_taken-put : (here q : ℕ) (log : List Entry) (to : ℕ) (batch : List Letter) → total_taken here q (log ++ Put to batch ∷ []) ≡ total_taken here q log
unfolding total_taken
total_taken-put here q log to batch = rw (batches_taken-put log to 0 batch) refl

pub rounds_known-put : (here : ℕ) (log : List Entry) (to : ℕ) (batch : List Letter) → rounds_known here (log ++ Put to batch ∷ []) ≡ rounds_known here log
unfolding rounds_known total_taken
rounds_known-put here log to batch = rw (batches_taken-put log to 0 batch, letters_taken-put log to batch) refl

pub sums_told-put : (here : ℕ) (log : List Entry) (to : ℕ) (batch : List Letter) → sums_told here (log ++ Put to batch ∷ []) ≡ sums_told here log
unfolding total_taken
sums_told-put here log to batch =
    ap (λ batches q. sums_in (find (λ l. is_total_to here l && nat_eq (round_of l) q) (letters_of batches))) (batches_taken-put log to 0 batch)

pub barrier_start-put : (here : ℕ) (log : List Entry) (to : ℕ) (batch : List Letter) → barrier_start here (log ++ Put to batch ∷ []) ≡ barrier_start here log
unfolding barrier_start
barrier_start-put here log to batch =
    ap (first_round (sums_told here (log ++ Put to batch ∷ []))) (rounds_known-put here log to batch)
    ∙ ap (λ sums. first_round sums (rounds_known here log)) (sums_told-put here log to batch)

put_first : (to : ℕ) (batch : List Letter) (b : Bool) → letters_taken (cond b [] (Put to batch ∷ [])) ≡ []
put_first to batch true = refl
put_first to batch false = refl

put_alone : (to : ℕ) (batch : List Letter) (b : Bool) → letters_taken (Put to batch ∷ cond b [] []) ≡ []
put_alone to batch true = refl
put_alone to batch false = refl

taken_here : (b : Bool) (entry : Entry) (xs ys : List Entry) → letters_taken xs ≡ letters_taken ys →
    letters_taken (cond b [] (entry ∷ xs)) ≡ letters_taken (cond b [] (entry ∷ ys))
taken_here true entry xs ys same = refl
taken_here false entry xs ys same = ap (λ zs. letters_taken_by entry ++ zs) same

taken_later : (b : Bool) (xs ys next_xs next_ys : List Entry) → letters_taken xs ≡ letters_taken ys → letters_taken next_xs ≡ letters_taken next_ys →
    letters_taken (cond b xs next_xs) ≡ letters_taken (cond b ys next_ys)
taken_later true xs ys next_xs next_ys same next_same = same
taken_later false xs ys next_xs next_ys same next_same = next_same

taken_before : (q : ℕ) (log : List Entry) (to : ℕ) (batch : List Letter) →
    letters_taken (before_count q (log ++ Put to batch ∷ [])) ≡ letters_taken (before_count q log)
taken_before zero [] to batch = put_first to batch (puts_count (Put to batch))
taken_before (suc q) [] to batch = put_alone to batch (puts_count (Put to batch))
taken_before zero (entry ∷ log) to batch = taken_here (puts_count entry) entry _ _ (taken_before zero log to batch)
taken_before (suc q) (entry ∷ log) to batch =
    ap (λ zs. letters_taken_by entry ++ zs)
    (taken_later (puts_count entry) _ _ _ _ (taken_before q log to batch) (taken_before (suc q) log to batch))

-- what ran before a Count
pub run_before-put : (rank q : ℕ) (log : List Entry) (to : ℕ) (batch : List Letter) →
    run_count rank (before_count q (log ++ Put to batch ∷ [])) ≡ run_count rank (before_count q log)
run_before-put rank q log to batch = ap (run_number rank) (taken_before q log to batch)

-- ---- after a put without a Count

module _ (me : Local) (to : ℕ) (batch : List Letter) (none : list_any is_count batch ≡ false) where
  pub is_counted-put : is_counted (having_put me to batch) ≡ is_counted me
  is_counted-put = rw (barrier_start-put me.here me.log to batch, counts-none me.log (Put to batch) none) refl

  pub is_idle-put : is_idle (having_put me to batch) ≡ is_idle me
  is_idle-put =
      rw (run_count-put me.here me.log to batch, counts-none me.log (Put to batch) none, run_before-put me.here (pred (counts me.log)) me.log to batch) refl

  pub is_free-put : is_free (having_put me to batch) ≡ is_free me
  is_free-put = rw (is_counted-put, is_idle-put) refl

  pub sent_while_counted-put : (l : Letter) → sent_while_counted (having_put me to batch) to l ≡ sent_while_counted me to l
  sent_while_counted-put l = rw is_free-put refl

-- ---- after a put of an empty batch

pub counts-empty : (log : List Entry) (to : ℕ) → counts (log ++ Put to [] ∷ []) ≡ counts log
counts-empty log to = counts-none log (Put to []) refl

pub own_count-empty : (rank : ℕ) (log : List Entry) (to : ℕ) → own_count rank (log ++ Put to [] ∷ []) ≡ own_count rank log
own_count-empty rank log to = ap (sent_number rank) (letters_put-put log to [] ∙ append-nil (letters_put log))

nothing_given : (b : Bool) → letters_of (if b then [] ∷ [] else []) ≡ []
nothing_given true = refl
nothing_given false = refl

letters_of-empty : (rank : ℕ) (log : List Entry) (to : ℕ) → letters_of (batches_put rank (log ++ Put to [] ∷ [])) ≡ letters_of (batches_put rank log)
letters_of-empty rank log to =
    ap letters_of (batches_put-put log to rank [])
    ∙ flat_map-append (λ batch. batch) (batches_put rank log) (if nat_eq to rank then [] ∷ [] else [])
    ∙ ap (λ xs. letters_of (batches_put rank log) ++ xs) (nothing_given (nat_eq to rank))
    ∙ append-nil (letters_of (batches_put rank log))

pub totals-empty : (rank : ℕ) (log : List Entry) (to : ℕ) → totals rank (log ++ Put to [] ∷ []) ≡ totals rank log
totals-empty rank log to = ap (λ xs. length (filter is_total xs)) (letters_of-empty rank log to)

pub to_forward-empty : (me : Local) (to s d : ℕ) → to_forward (having_put me to []) s d ≡ to_forward me s d
unfolding to_forward
to_forward-empty me to s d = rw (pair_put-put s d me.log to [], append-nil (pair_put s d me.log), pair_taken-put s d me.log to []) refl

-- ---- the rules on the first letter of a batch

pub count_early-first : (me : Local) (to : ℕ) (l : Letter) → count_early (having_put me to []) to l ≡ count_early me to l
count_early-first me to l = rw (counts-empty me.log to, total_taken-put me.here (pred (round_of l)) me.log to []) refl

pub has_to_forward-first : (me : Local) (to : ℕ) → has_to_forward (having_put me to []) ≡ has_to_forward me
has_to_forward-first me to =
    some_below-same _ _ me.layout.ranks (λ s _. some_below-same _ _ me.layout.ranks (λ d _. ap (λ xs. nat_lt 0 (length xs)) (to_forward-empty me to s d)))

pub count_unforwarded-first : (me : Local) (to : ℕ) (l : Letter) → count_unforwarded (having_put me to []) to l ≡ count_unforwarded me to l
count_unforwarded-first me to l = ap (λ b. is_count l && b) (has_to_forward-first me to)

pub count_wrong-first : (me : Local) (to : ℕ) (l : Letter) → count_wrong (having_put me to []) to l ≡ count_wrong me to l
count_wrong-first me to l = rw (own_count-empty me.here me.log to, run_count-put me.here me.log to []) refl

pub total_early-first : (me : Local) (to : ℕ) (l : Letter) → total_early (having_put me to []) to l ≡ total_early me to l
total_early-first me to l =
    let taken : some_below (λ j. not (is_some (count_taken j (round_of l) (me.log ++ Put to [] ∷ [])))) me.layout.ranks
    ≡ some_below (λ j. not (is_some (count_taken j (round_of l) me.log))) me.layout.ranks =
    some_below-same _ _ me.layout.ranks (λ j _. ap (λ o. not (is_some o)) (count_taken-put j (round_of l) me.log to [])) in
    rw (totals-empty to me.log to) (ap (λ b. is_total l && (not (nat_eq (round_of l) (totals to me.log)) || b)) taken)

pub sent_taken-first : (me : Local) (to q : ℕ) → sent_taken (having_put me to []) q ≡ sent_taken me q
sent_taken-first me to q = sum_upto-same _ _ me.layout.ranks (λ j _. ap (λ o. (sums_in o).sent) (count_taken-put j q me.log to []))

pub run_taken-first : (me : Local) (to q : ℕ) → run_taken (having_put me to []) q ≡ run_taken me q
run_taken-first me to q = sum_upto-same _ _ me.layout.ranks (λ j _. ap (λ o. (sums_in o).run) (count_taken-put j q me.log to []))

pub total_wrong-first : (me : Local) (to : ℕ) (l : Letter) → total_wrong (having_put me to []) to l ≡ total_wrong me to l
total_wrong-first me to l = rw (sent_taken-first me to (round_of l), run_taken-first me to (round_of l)) refl
