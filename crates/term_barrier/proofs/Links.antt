-- What holds of the letters of each batch that a log took holds of the letters of each link.
use Rattle.std.proofs.Common.{◌≡◌, ℕ, suc, Bool, true, false, nat_eq, eqb-true, Some, None, List, [], ◌∷◌, slice_get, refl, subst, if◌then◌else◌}
use Rattle.std.specs.List.{AllByRecursion, cons_option}
use Rattle.list_facts.proofs.Elements.{all_append}
use Rattle.msg_codec.specs.declared.letter.Letter.{Letter}
use Rattle.world_core.specs.declared.entry.Entry.{Entry}
use Rattle.world_core.specs.declared.entry.Entry.TheVariants.{Put, Took}
use Rattle.world_core.specs.Log.{batches_taken, letters_of}

-- of the letters of a batch that was taken, by the rank that it came from
abbrev pub AllTook : (ℕ → Letter → Type 0) → Entry → Type 0
AllTook Q (Put to letters) = Unit {0}
AllTook Q (Took from letters) = AllByRecursion (Q from) letters

pub each_link : (Q : ℕ → Letter → Type 0) (rank : ℕ) (log : List Entry) → AllByRecursion (AllTook Q) log →
    AllByRecursion (Q rank) (letters_of (batches_taken rank log))
each_link Q rank [] all = tt
each_link Q rank (Put to letters ∷ log) all = each_link Q rank log all.1
each_link Q rank (Took from letters ∷ log) all = by_link (nat_eq from rank) refl all.0 (each_link Q rank log all.1)
  where
    by_link : (b : Bool) → nat_eq from rank ≡ b → AllByRecursion (Q from) letters → AllByRecursion (Q rank) (letters_of (batches_taken rank log)) →
        AllByRecursion (Q rank) (letters_of (cons_option (if b then Some letters else None) (batches_taken rank log)))
    by_link true same first later =
        all_append (Q rank) letters (letters_of (batches_taken rank log)) (subst (λ r. AllByRecursion (Q r) letters) (eqb-true from rank same) first) later
    by_link false other first later = later

-- by the places of the batches in the log
pub each_batch : (Q : ℕ → Letter → Type 0) (log : List Entry) →
    ((k from : ℕ) (letters : List Letter) → slice_get log k ≡ Some (Took from letters) → AllByRecursion (Q from) letters) →
    AllByRecursion (AllTook Q) log
each_batch Q [] each = tt
each_batch Q (Put to letters ∷ log) each = (tt, each_batch Q log (λ k. each (suc k)))
each_batch Q (Took from letters ∷ log) each = (each 0 from letters refl, each_batch Q log (λ k. each (suc k)))
