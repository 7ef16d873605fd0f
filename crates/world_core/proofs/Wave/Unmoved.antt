-- A still world in which a log gained an entry without data letters is still.
use Rattle.std.proofs.Common.{◌≡◌, ℕ, ◌<◌, Bool, true, false, nat_eq, List, [], ◌∷◌, ◌++◌, length, filter, refl, sym, ap, ◌∙◌, arith, append-nil, if◌then◌else◌}
use Rattle.std.proofs.lemmas.Grind.{flat_map-append}
use Rattle.std.proofs.lemmas.List.Elements.{filter-append}
use Rattle.list_facts.proofs.Elements.{all_weaker}
use Rattle.list_facts.proofs.Filters.{filter_none, none_kept}
use Rattle.msg_codec.specs.declared.letter.Letter.{Letter}
use Rattle.world_core.specs.declared.entry.Entry.{Entry}
use Rattle.world_core.specs.declared.entry.Entry.TheVariants.{Put, Took}
use Rattle.world_core.specs.Local.{to_forward}
use Rattle.world_core.specs.Log.{batches_put, batches_taken, letters_of, letters_put_by, letters_taken_by}
use Rattle.world_core.specs.Pairs.{is_data, is_of_pair, of_pair, own_count, pair_put, pair_taken, run_count, run_number, sent_number}
use Rattle.world_core.specs.Wave.{data_of, IsComplete, IsStill}
use Rattle.world_core.specs.World.{Logs, gaining, local, log_of}
use Rattle.world_core.proofs.Log.Appended.{batches_put-put, batches_put-took, batches_taken-put, batches_taken-took}
use Rattle.world_core.proofs.Pairs.Numbers.{own_count-append, run_count-append, run_number-none, sent_number-none}
use Rattle.world_core.proofs.Pairs.Unchanged.{pair_put-append, pair_taken-append}
use Rattle.world_core.proofs.Wave.Grown.{each, cut_stays}

pub record HasNoData (e : Entry) : Type 0 where
  pub put : filter is_data (letters_put_by e) ≡ []
  pub taken : filter is_data (letters_taken_by e) ≡ []

-- ---- letters without a data letter

module _ (letters : List Letter) (none : filter is_data letters ≡ []) where
  none_sent : (rank : ℕ) → sent_number rank (letters ++ []) ≡ 0
  none_sent rank = ap (sent_number rank) (append-nil letters)
      ∙ sent_number-none rank letters (all_weaker _ _ letters (λ l h. rw h refl) (none_kept is_data letters none))

  none_run : (rank : ℕ) → run_number rank (letters ++ []) ≡ 0
  none_run rank = ap (run_number rank) (append-nil letters)
      ∙ run_number-none rank letters (all_weaker _ _ letters (λ l h. rw h refl) (none_kept is_data letters none))

  none_of_pair : (s d : ℕ) → of_pair s d (letters ++ []) ≡ []
  none_of_pair s d = ap (of_pair s d) (append-nil letters)
      ∙ filter_none (is_of_pair s d) letters (all_weaker _ _ letters (λ l h. rw h refl) (none_kept is_data letters none))

  data_if : (b : Bool) (batches : List (List Letter)) → data_of (batches ++ (if b then letters ∷ [] else [])) ≡ data_of batches
  data_if true batches =
      ap (filter is_data) (flat_map-append _ batches (letters ∷ []))
      ∙ filter-append is_data (letters_of batches) (letters ++ [])
      ∙ ap (λ xs. data_of batches ++ filter is_data xs) (append-nil letters)
      ∙ ap (λ xs. data_of batches ++ xs) none ∙ append-nil _
  data_if false batches = ap data_of (append-nil batches)

-- ---- the log that gained the entry

module _ (log : List Entry) (e : Entry) (no_data : HasNoData e) where
  own_kept : (rank : ℕ) → own_count rank (log ++ e ∷ []) ≡ own_count rank log
  own_kept rank = omega (arith, own_count-append rank log (e ∷ []), none_sent (letters_put_by e) no_data.put rank)

  run_kept : (rank : ℕ) → run_count rank (log ++ e ∷ []) ≡ run_count rank log
  run_kept rank = omega (arith, run_count-append rank log (e ∷ []), none_run (letters_taken_by e) no_data.taken rank)

  pair_put_kept : (s d : ℕ) → pair_put s d (log ++ e ∷ []) ≡ pair_put s d log
  pair_put_kept s d =
      pair_put-append s d log (e ∷ []) ∙ ap (λ xs. pair_put s d log ++ xs) (none_of_pair (letters_put_by e) no_data.put s d) ∙ append-nil _

  pair_taken_kept : (s d : ℕ) → pair_taken s d (log ++ e ∷ []) ≡ pair_taken s d log
  pair_taken_kept s d =
      pair_taken-append s d log (e ∷ []) ∙ ap (λ xs. pair_taken s d log ++ xs) (none_of_pair (letters_taken_by e) no_data.taken s d) ∙ append-nil _

data_put_kept : (log : List Entry) (e : Entry) → HasNoData e → (to : ℕ) → data_of (batches_put to (log ++ e ∷ [])) ≡ data_of (batches_put to log)
data_put_kept log (Put rank letters) none to =
    ap data_of (batches_put-put log rank to letters) ∙ data_if letters none.put (nat_eq rank to) (batches_put to log)
data_put_kept log (Took rank letters) none to = ap data_of (batches_put-took log rank to letters)

data_taken_kept : (log : List Entry) (e : Entry) → HasNoData e → (from : ℕ) →
    data_of (batches_taken from (log ++ e ∷ [])) ≡ data_of (batches_taken from log)
data_taken_kept log (Put rank letters) none from = ap data_of (batches_taken-put log rank from letters)
data_taken_kept log (Took rank letters) none from =
    ap data_of (batches_taken-took log rank from letters) ∙ data_if letters none.taken (nat_eq rank from) (batches_taken from log)

-- ---- the world

module _ (world : Logs) (i : ℕ) (e : Entry) (inside : i < world.layout.ranks) (all : length world.logs ≡ world.layout.ranks) (none : HasNoData e) where
  abbrev new : Logs
  new = gaining world i e

  -- what a log has, where it doesn't change by entries without data letters
  same : {X : Type 0} (f : ℕ → List Entry → X) → f i (log_of world i ++ e ∷ []) ≡ f i (log_of world i) → (r : ℕ) → f r (log_of new r) ≡ f r (log_of world r)
  same f kept = each world i e inside all (λ r log. f r log ≡ f r (log_of world r)) (λ r. refl) kept

  same_data_put : (r to : ℕ) → data_of (batches_put to (log_of new r)) ≡ data_of (batches_put to (log_of world r))
  same_data_put r to = same (λ _ log. data_of (batches_put to log)) (data_put_kept (log_of world i) e none to) r

  same_data_taken : (r from : ℕ) → data_of (batches_taken from (log_of new r)) ≡ data_of (batches_taken from (log_of world r))
  same_data_taken r from = same (λ _ log. data_of (batches_taken from log)) (data_taken_kept (log_of world i) e none from) r

  same_pair_put : (r s d : ℕ) → pair_put s d (log_of new r) ≡ pair_put s d (log_of world r)
  same_pair_put r s d = same (λ _ log. pair_put s d log) (pair_put_kept (log_of world i) e none s d) r

  same_pair_taken : (r s d : ℕ) → pair_taken s d (log_of new r) ≡ pair_taken s d (log_of world r)
  same_pair_taken r s d = same (λ _ log. pair_taken s d log) (pair_taken_kept (log_of world i) e none s d) r

  same_own : (r : ℕ) → own_count r (log_of new r) ≡ own_count r (log_of world r)
  same_own = same own_count (own_kept (log_of world i) e none i)

  same_run : (r : ℕ) → run_count r (log_of new r) ≡ run_count r (log_of world r)
  same_run = same run_count (run_kept (log_of world i) e none i)

  none_to_forward : (r s d : ℕ) → to_forward (local world r) s d ≡ [] → to_forward (local new r) s d ≡ []
  unfolding to_forward
  none_to_forward r s d h = rw (same_pair_put r s d, same_pair_taken r s d) h

  pub still_stays : (q : ℕ) → IsComplete world q → IsStill world q → IsStill new q
  still_stays q complete still = record {
    links = λ from to. same_data_taken to from ∙ still.links from to ∙ sym (same_data_put from to);
    forwarded = λ r s d. none_to_forward r s d (still.forwarded r s d);
    sent = λ r. same_own r ∙ still.sent r ∙ ap (own_count r) (sym (cut_stays world i e inside all q complete r));
    run = λ r. same_run r ∙ still.run r ∙ ap (run_count r) (sym (cut_stays world i e inside all q complete r));
  }
