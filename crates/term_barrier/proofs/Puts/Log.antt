-- What a log has after one control letter was put: one Count more, or one Total more to its rank. What it took is
-- unchanged.
use Rattle.std.proofs.Common.{◌≡◌, ◌≢◌, ℕ, ◌+◌, Bool, true, false, cond, ◌||◌, nat_eq, eq-eqb, ne_eqb, List, [], ◌∷◌, ◌++◌, refl, ap, ◌∙◌, arith}
use Rattle.std.specs.List.{filter}
use Rattle.list_facts.proofs.Sums.{sum_upto-same}
use Rattle.msg_codec.specs.Control.{is_control, is_count, is_total}
use Rattle.msg_codec.specs.declared.letter.Letter.{Letter}
use Rattle.world_core.specs.declared.entry.Entry.{Entry}
use Rattle.world_core.specs.declared.entry.Entry.TheVariants.{Put}
use Rattle.world_core.specs.ControlRules.{is_free, run_taken, sent_taken}
use Rattle.world_core.specs.Counts.{counts, totals}
use Rattle.world_core.specs.Local.{Local, having_put}
use Rattle.world_core.specs.Rounds.{sums_in}
use Rattle.world_core.proofs.Counts.AfterPut.{count_taken-put, counts-none, counts-one, is_free-put}
use Rattle.world_core.proofs.Deeds.Unmixed.{not_both}
use Rattle.world_core.proofs.Log.Appended.{letters_taken-put}
use Rattle.comm_rank.proofs.Agrees.AfterControl.{not_count}
use Rattle.term_barrier.specs.Barriers.{control_letters}
use Rattle.term_barrier.proofs.Barriers.Agrees.{totals-append}

-- ---- Counts

alone : (b : Bool) → (b || false) ≡ b
alone true = refl
alone false = refl

pub counts-count : (log : List Entry) (to : ℕ) (l : Letter) → is_count l ≡ true → counts (log ++ Put to (l ∷ []) ∷ []) ≡ counts log + 1
counts-count log to l count = counts-one log (Put to (l ∷ [])) (alone (is_count l) ∙ count)

pub counts-total : (log : List Entry) (to : ℕ) (l : Letter) → is_total l ≡ true → counts (log ++ Put to (l ∷ []) ∷ []) ≡ counts log
counts-total log to l total = counts-none log (Put to (l ∷ [])) (alone (is_count l) ∙ not_count l total)

-- ---- Totals

totals_of : (rank to : ℕ) (l : Letter) (here total : Bool) → nat_eq to rank ≡ here → is_total l ≡ total →
    totals rank (Put to (l ∷ []) ∷ []) ≡ cond here (cond total 1 0) 0
totals_of rank to l true true h t = rw (h, t) refl
totals_of rank to l true false h t = rw (h, t) refl
totals_of rank to l false total h t = rw h refl

-- one more to its rank,
pub totals-total : (rank to : ℕ) (log : List Entry) (l : Letter) → is_total l ≡ true →
    totals rank (log ++ Put to (l ∷ []) ∷ []) ≡ totals rank log + cond (nat_eq to rank) 1 0
totals-total rank to log l total =
    totals-append rank log (Put to (l ∷ []) ∷ []) ∙ ap (λ n. totals rank log + n) (totals_of rank to l (nat_eq to rank) true refl total)

pub totals-there : (to : ℕ) (log : List Entry) (l : Letter) → is_total l ≡ true → totals to (log ++ Put to (l ∷ []) ∷ []) ≡ totals to log + 1
totals-there to log l total = totals-total to to log l total ∙ ap (λ b. totals to log + cond b 1 0) (eq-eqb to to refl)

none_more : (n : ℕ) → n + 0 ≡ n
none_more n = omega arith

-- and no more to others
pub totals-other : (rank to : ℕ) (log : List Entry) (l : Letter) → is_total l ≡ true → to ≢ rank →
    totals rank (log ++ Put to (l ∷ []) ∷ []) ≡ totals rank log
totals-other rank to log l total other =
    totals-total rank to log l total ∙ ap (λ b. totals rank log + cond b 1 0) (ne_eqb to rank other) ∙ none_more (totals rank log)

same_either : (b : Bool) (n : ℕ) → cond b n n ≡ n
same_either true n = refl
same_either false n = refl

pub totals-count : (rank to : ℕ) (log : List Entry) (l : Letter) → is_count l ≡ true → totals rank (log ++ Put to (l ∷ []) ∷ []) ≡ totals rank log
totals-count rank to log l count =
    let none : totals rank (Put to (l ∷ []) ∷ []) ≡ 0 =
    totals_of rank to l (nat_eq to rank) false refl (not_both l count) ∙ same_either (nat_eq to rank) 0 in
    omega (arith, totals-append rank log (Put to (l ∷ []) ∷ []), none)

-- ---- what it took

pub control_letters-put : (log : List Entry) (to : ℕ) (batch : List Letter) → control_letters (log ++ Put to batch ∷ []) ≡ control_letters log
control_letters-put log to batch = ap (filter is_control) (letters_taken-put log to batch)

pub sent_taken-put : (me : Local) (to : ℕ) (batch : List Letter) (q : ℕ) → sent_taken (having_put me to batch) q ≡ sent_taken me q
sent_taken-put me to batch q = sum_upto-same _ _ me.layout.ranks (λ j _. ap (λ o. (sums_in o).sent) (count_taken-put j q me.log to batch))

pub run_taken-put : (me : Local) (to : ℕ) (batch : List Letter) (q : ℕ) → run_taken (having_put me to batch) q ≡ run_taken me q
run_taken-put me to batch q = sum_upto-same _ _ me.layout.ranks (λ j _. ap (λ o. (sums_in o).run) (count_taken-put j q me.log to batch))

-- ---- whether it may put own letters

pub is_free-total : (me : Local) (to : ℕ) (l : Letter) → is_total l ≡ true → is_free (having_put me to (l ∷ [])) ≡ is_free me
is_free-total me to l total = is_free-put me to (l ∷ []) (alone (is_count l) ∙ not_count l total)
