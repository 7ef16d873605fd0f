-- A pass is one again after a put and after a take, and at the start.
use Rattle.std.proofs.Common.{◌≡◌, ◌≢◌, ℕ, ◌+◌, ◌<◌, Bool, List, [], ◌∷◌, ◌++◌, length, get_or, set, None, refl, sym, ap, ◌∙◌, subst, length-append, length-set, append-nil, if◌then◌else◌}
use Rattle.std.proofs.lemmas.Bool.{eq-eqb, ne_eqb}
use Rattle.std.proofs.lemmas.List.{get_or-set_same, get_or-set_other}
use Rattle.std.proofs.lemmas.Option.{same_Some, slice_get-get_or}
use native.Mathlib.Decide.{ℕ_discrete}
use Rattle.msg_codec.specs.declared.letter.Letter.{Letter}
use Rattle.world_core.specs.declared.entry.Entry.{Entry}
use Rattle.world_core.specs.declared.entry.Entry.TheVariants.{Put, Took}
use Rattle.world_core.specs.Log.{batches_put, batches_taken}
use Rattle.world_core.proofs.Log.Appended.{batches_put-put, batches_put-took, batches_taken-put, batches_taken-took}
use Rattle.mail_table.specs.declared.views.RankView.{RankView}
use Rattle.mail_table.specs.Seats.{AreCounts, IsAt, IsPass, SeatPut, SeatTook, after_call}
use Rattle.mail_table.specs.Steps.{Seated, put_in, taken_in}
use Rattle.mail_table.specs.Views.{loaded_at, mine}

-- ---- counts

counts_same : (ranks : ℕ) (count count' : ℕ → ℕ) (counts : List ℕ) → ((k : ℕ) → count' k ≡ count k) → AreCounts ranks count counts → AreCounts ranks count' counts
counts_same ranks count count' counts same are = record { all = are.all; each = λ k below. are.each k below ∙ sym (same k) }

counts_more : (ranks : ℕ) (count count' : ℕ → ℕ) (counts : List ℕ) (k made : ℕ) → k < ranks → made ≡ count k → count' k ≡ count k + 1 → ((j : ℕ) → j ≢ k → count' j ≡ count j) → AreCounts ranks count counts →
    AreCounts ranks count' (set counts k (made + 1))
counts_more ranks count count' counts k made within is more others are = record { all = length-set counts k (made + 1) ∙ are.all; each = λ j below. each_of j below (ℕ_discrete j k) }
  where
    each_of : (j : ℕ) → j < ranks → Dec (j ≡ k) → get_or (set counts k (made + 1)) j 0 ≡ count' j
    each_of j below (yes e) =
        ap (λ (n : ℕ). get_or (set counts k (made + 1)) n 0) e ∙ get_or-set_same counts k (made + 1) 0 (subst (λ (n : ℕ). k < n) (sym are.all) within)
        ∙ ap (λ (n : ℕ). n + 1) is ∙ sym more ∙ ap count' (sym e)
    each_of j below (no other) = get_or-set_other counts k j (made + 1) 0 other ∙ are.each j below ∙ sym (others j other)

put_more : (log : List Entry) (to k : ℕ) (batch : List Letter) → to ≡ k → length (batches_put k (log ++ Put to batch ∷ [])) ≡ length (batches_put k log) + 1
put_more log to k batch e =
    ap length (batches_put-put log to k batch ∙ ap (λ (b : Bool). batches_put k log ++ (if b then batch ∷ [] else [])) (eq-eqb to k e)) ∙ length-append (batches_put k log) (batch ∷ [])

put_same : (log : List Entry) (to k : ℕ) (batch : List Letter) → to ≢ k → length (batches_put k (log ++ Put to batch ∷ [])) ≡ length (batches_put k log)
put_same log to k batch other =
    ap length (batches_put-put log to k batch ∙ ap (λ (b : Bool). batches_put k log ++ (if b then batch ∷ [] else [])) (ne_eqb to k other) ∙ append-nil (batches_put k log))

taken_more : (log : List Entry) (from k : ℕ) (batch : List Letter) → from ≡ k → length (batches_taken k (log ++ Took from batch ∷ [])) ≡ length (batches_taken k log) + 1
taken_more log from k batch e =
    ap length (batches_taken-took log from k batch ∙ ap (λ (b : Bool). batches_taken k log ++ (if b then batch ∷ [] else [])) (eq-eqb from k e)) ∙ length-append (batches_taken k log) (batch ∷ [])

taken_same : (log : List Entry) (from k : ℕ) (batch : List Letter) → from ≢ k → length (batches_taken k (log ++ Took from batch ∷ [])) ≡ length (batches_taken k log)
taken_same log from k batch other =
    ap length (batches_taken-took log from k batch ∙ ap (λ (b : Bool). batches_taken k log ++ (if b then batch ∷ [] else [])) (ne_eqb from k other) ∙ append-nil (batches_taken k log))

-- the count that a rank has in a list, as the code reads it
count_read : (ranks : ℕ) (count : ℕ → ℕ) (counts : List ℕ) (k made : ℕ) → k < ranks → made ≡ get_or counts k made → AreCounts ranks count counts → made ≡ count k
count_read ranks count counts k made below read are =
    let there : k < length counts = subst (λ (n : ℕ). k < n) (sym are.all) below in
    read ∙ same_Some (get_or counts k made) (get_or counts k 0) (sym (slice_get-get_or counts k made there) ∙ slice_get-get_or counts k 0 there) ∙ are.each k below

-- ---- passes

module _ (rank made other : ℕ) (puts takes : List ℕ) (batch : List Letter) (old new : Seated) (was : IsPass rank puts takes old) (within : other < old.0.settings.layout.ranks) where
  -- the seat is idle again, whatever is known of its rank
  at_again : (r : RankView) → r.filling ≡ None → r.emptying ≡ None → IsAt old.0.settings rank (after_call old r)
  at_again r f e = record { of = record { first = was.at.of.first; one = refl; settings_are = refl; within = was.at.of.within }; fills_none = f; empties_none = e; hand = refl }

  pub pass_after_put : made ≡ get_or puts other made → SeatPut other batch old new → IsPass rank (set puts other (made + 1)) takes new
  pass_after_put is put = subst (IsPass rank (set puts other (made + 1)) takes) (sym put.after) (record {
    at = at_again (record (mine old.0) { log = (mine old.0).log ++ Put other batch ∷ []; heads = loaded_at (mine old.0).heads other put.found }) was.at.fills_none was.at.empties_none;
    puts_are = counts_more old.0.settings.layout.ranks (put_in old.0) (λ k. length (batches_put k ((mine old.0).log ++ Put other batch ∷ []))) puts other made within (count_read old.0.settings.layout.ranks (put_in old.0) puts other made within is was.puts_are)
        (put_more (mine old.0).log other other batch refl) (λ k apart. put_same (mine old.0).log other k batch (λ e. apart (sym e))) was.puts_are;
    takes_are = counts_same old.0.settings.layout.ranks (taken_in old.0) (λ k. length (batches_taken k ((mine old.0).log ++ Put other batch ∷ []))) takes (λ k. ap length (batches_taken-put (mine old.0).log other k batch)) was.takes_are;
    heads = length-set (mine old.0).heads other _ ∙ was.heads;
    tails = was.tails;
  })

  pub pass_after_take : made ≡ get_or takes other made → SeatTook other batch old new → IsPass rank puts (set takes other (made + 1)) new
  pass_after_take is took = subst (IsPass rank puts (set takes other (made + 1))) (sym took.after) (record {
    at = at_again (record (mine old.0) { log = (mine old.0).log ++ Took other batch ∷ []; tails = loaded_at (mine old.0).tails other took.found }) was.at.fills_none was.at.empties_none;
    puts_are = counts_same old.0.settings.layout.ranks (put_in old.0) (λ k. length (batches_put k ((mine old.0).log ++ Took other batch ∷ []))) puts (λ k. ap length (batches_put-took (mine old.0).log other k batch)) was.puts_are;
    takes_are = counts_more old.0.settings.layout.ranks (taken_in old.0) (λ k. length (batches_taken k ((mine old.0).log ++ Took other batch ∷ []))) takes other made within (count_read old.0.settings.layout.ranks (taken_in old.0) takes other made within is was.takes_are)
        (taken_more (mine old.0).log other other batch refl) (λ k apart. taken_same (mine old.0).log other k batch (λ e. apart (sym e))) was.takes_are;
    heads = was.heads;
    tails = length-set (mine old.0).tails other _ ∙ was.tails;
  })
