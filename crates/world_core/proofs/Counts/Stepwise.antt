-- The Counts and Totals of a log, entry by entry, and of a batch, letter by letter.
use Rattle.std.proofs.Common.{◌≡◌, ℕ, ◌+◌, ◌≤◌, Bool, true, false, cond, is_some, Option, Some, None, List, [], ◌∷◌, ◌++◌, length, filter, take, drop, slice_get, refl, sym, ap, ◌∙◌, append_assoc, arith, length-append}
use Rattle.std.specs.List.{find}
use Rattle.std.specs.Option.{option_or}
use Rattle.std.proofs.lemmas.Grind.{flat_map-append}
use Rattle.std.proofs.lemmas.List.{take_all}
use Rattle.std.proofs.lemmas.List.Elements.{filter-append, filter_map-append}
use Rattle.std.proofs.lemmas.List.Folds.{find-append}
use Rattle.list_facts.proofs.Filters.{count_more}
use Rattle.list_facts.proofs.Steps.{split_at, taken_more}
use Rattle.msg_codec.specs.Control.{is_total}
use Rattle.msg_codec.specs.declared.letter.Letter.{Letter}
use Rattle.world_core.specs.declared.entry.Entry.{Entry}
use Rattle.world_core.specs.Counts.{before_count, counts, puts_count, totals}
use Rattle.world_core.specs.Log.{batches_put, batches_taken, letters_of, put_to, took_from}
use Rattle.world_core.proofs.Counts.AfterPut.{counts-one}
use Rattle.world_core.proofs.Counts.BeforeCount.{before_all, before_stands, before_this}

-- ---- Counts

pub counts_next : (log : List Entry) (i : ℕ) (e : Entry) → slice_get log i ≡ Some e → counts (take (i + 1) log) ≡ counts (take i log) + cond (puts_count e) 1 0
counts_next log i e here = count_more puts_count log i e here

-- the log before an entry that puts the Count of this round
pub before_here : (q : ℕ) (log : List Entry) (i : ℕ) (e : Entry) → slice_get log i ≡ Some e → puts_count e ≡ true → counts (take i log) ≡ q →
    before_count q log ≡ take i log
before_here q log i e here one before =
    let whole : log ≡ (take i log ++ e ∷ []) ++ drop (i + 1) log = split_at log i e here ∙ sym (append_assoc (take i log) (e ∷ []) (drop (i + 1) log)) in
    ap (before_count q) whole
    ∙ before_stands q (take i log ++ e ∷ []) (drop (i + 1) log) (omega (arith, counts-one (take i log) e one))
    ∙ before_this q (take i log) e before one

-- a log that doesn't put it
pub before_past : (q : ℕ) (log : List Entry) (i : ℕ) → length log ≤ i → counts (take i log) ≤ q → before_count q log ≡ take i log
before_past q log i past few = let whole : take i log ≡ log = take_all i log past in rw whole (before_all q log (rw whole at few))

-- ---- Totals

totals-append : (to : ℕ) (xs ys : List Entry) → totals to (xs ++ ys) ≡ totals to xs + totals to ys
totals-append to xs ys =
    ap (λ bs. length (filter is_total (letters_of bs))) (filter_map-append (put_to to) xs ys)
    ∙ ap (λ ls. length (filter is_total ls)) (flat_map-append (λ b. b) (batches_put to xs) (batches_put to ys))
    ∙ ap length (filter-append is_total (letters_of (batches_put to xs)) (letters_of (batches_put to ys)))
    ∙ length-append (filter is_total (letters_of (batches_put to xs))) (filter is_total (letters_of (batches_put to ys)))

pub totals_next : (to : ℕ) (log : List Entry) (i : ℕ) (e : Entry) → slice_get log i ≡ Some e → totals to (take (i + 1) log) ≡ totals to (take i log) + totals to (e ∷ [])
totals_next to log i e here = ap (totals to) (taken_more log i e here) ∙ totals-append to (take i log) (e ∷ [])

-- ---- the first letter that passes a test

found_first : {X : Type 0} (o rest : Option X) → is_some o ≡ true → option_or o rest ≡ o
found_first None rest h = absurd cc
found_first (Some x) rest h = refl

-- of a batch
module _ (p : Letter → Bool) (letters : List Letter) (k : ℕ) (l : Letter) (here : slice_get letters k ≡ Some l) (none : find p (take k letters) ≡ None) where
  pub find_here : p l ≡ true → find p letters ≡ Some l
  find_here passes = ap (find p) (split_at letters k l here) ∙ find-append p (take k letters) (l ∷ drop (k + 1) letters) ∙ rw (none, passes) refl

  pub find_next : p l ≡ false → find p (take (k + 1) letters) ≡ None
  find_next fails = ap (find p) (taken_more letters k l here) ∙ find-append p (take k letters) (l ∷ []) ∙ rw (none, fails) refl

-- of what a log took from a rank
abbrev pub find_taken : (Letter → Bool) → ℕ → List Entry → Option Letter
find_taken p rank log = find p (letters_of (batches_taken rank log))

taken-append : (p : Letter → Bool) (rank : ℕ) (xs ys : List Entry) → find_taken p rank (xs ++ ys) ≡ option_or (find_taken p rank xs) (find_taken p rank ys)
taken-append p rank xs ys =
    ap (λ bs. find p (letters_of bs)) (filter_map-append (took_from rank) xs ys)
    ∙ ap (find p) (flat_map-append (λ b. b) (batches_taken rank xs) (batches_taken rank ys))
    ∙ find-append p (letters_of (batches_taken rank xs)) (letters_of (batches_taken rank ys))

taken_nothing : (p : Letter → Bool) (rank : ℕ) (xs ys : List Entry) → find_taken p rank xs ≡ None → find_taken p rank (xs ++ ys) ≡ find_taken p rank ys
taken_nothing p rank xs ys none = taken-append p rank xs ys ∙ rw none refl

module _ (p : Letter → Bool) (rank : ℕ) (log : List Entry) (i : ℕ) (e : Entry) (here : slice_get log i ≡ Some e) (none : find_taken p rank (take i log) ≡ None) where
  pub taken_here : is_some (find_taken p rank (e ∷ [])) ≡ true → find_taken p rank log ≡ find_taken p rank (e ∷ [])
  taken_here h =
      ap (find_taken p rank) (split_at log i e here)
      ∙ taken_nothing p rank (take i log) (e ∷ drop (i + 1) log) none
      ∙ taken-append p rank (e ∷ []) (drop (i + 1) log)
      ∙ found_first (find_taken p rank (e ∷ [])) _ h

  pub taken_next : find_taken p rank (e ∷ []) ≡ None → find_taken p rank (take (i + 1) log) ≡ None
  taken_next h = ap (find_taken p rank) (taken_more log i e here) ∙ taken_nothing p rank (take i log) (e ∷ []) none ∙ h
