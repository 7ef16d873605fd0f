-- The letters of one entry, among those of a log.
use Rattle.std.proofs.Common.{◌≡◌, ℕ, zero, suc, ◌+◌, Bool, Some, List, [], ◌∷◌, ◌++◌, length, take, drop, slice_get, filter, flat_map, ap, ◌∙◌, subst}
use Rattle.list_facts.proofs.Places.{item_right, item_still}
use Rattle.list_facts.proofs.Steps.{split_at}
use Rattle.std.proofs.lemmas.Grind.{flat_map-append}
use Rattle.std.proofs.lemmas.List.Elements.{filter-append}
use Rattle.msg_codec.specs.declared.letter.Letter.{Letter}
use Rattle.world_core.specs.declared.entry.Entry.{Entry}

module _ (p : Letter → Bool) (of : Entry → List Letter) (log : List Entry) (i : ℕ) (e : Entry) (here : slice_get log i ≡ Some e) where
  parts : filter p (flat_map of log) ≡ filter p (flat_map of (take i log)) ++ (filter p (of e) ++ filter p (flat_map of (drop (i + 1) log)))
  parts =
      ap (λ es. filter p (flat_map of es)) (split_at log i e here)
      ∙ ap (filter p) (flat_map-append of (take i log) (e ∷ drop (i + 1) log))
      ∙ filter-append p (flat_map of (take i log)) (of e ++ flat_map of (drop (i + 1) log))
      ∙ ap (λ ys. filter p (flat_map of (take i log)) ++ ys) (filter-append p (of e) (flat_map of (drop (i + 1) log)))

  pub entry_at : (m : ℕ) (x : Letter) → slice_get (filter p (of e)) m ≡ Some x →
      slice_get (filter p (flat_map of log)) (length (filter p (flat_map of (take i log))) + m) ≡ Some x
  entry_at m x h =
      rw parts (item_right (filter p (flat_map of (take i log))) (filter p (of e) ++ filter p (flat_map of (drop (i + 1) log))) m
      ∙ item_still (filter p (of e)) (filter p (flat_map of (drop (i + 1) log))) m x h)

-- what holds of each entry and the log before it, after one entry more
pub entry_more : (P : List Entry → Entry → Type 0) (log : List Entry) (new : Entry) →
    ((k : ℕ) (e : Entry) → slice_get log k ≡ Some e → P (take k log) e) → P log new →
    (k : ℕ) (e : Entry) → slice_get (log ++ new ∷ []) k ≡ Some e → P (take k (log ++ new ∷ [])) e
entry_more P [] new each new_too zero e at = let same : new ≡ e = cc in subst (P []) same new_too
entry_more P [] new each new_too (suc k) e at = absurd cc
entry_more P (first ∷ log) new each new_too zero e at = each zero e at
entry_more P (first ∷ log) new each new_too (suc k) e at =
    entry_more (λ before. P (first ∷ before)) log new (λ j x there. each (suc j) x there) new_too k e at
