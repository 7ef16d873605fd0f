-- Links of which one changes, and counts of which one rises.
use Rattle.std.proofs.Common.{◌≡◌, ℕ, ◌+◌, ◌<◌, Option, Some, None, List, [], ◌∷◌, ◌++◌, length, drop, get_or, set, sym, ap, ◌∙◌, subst, MatchOption}
use Rattle.std.proofs.lemmas.List.{get_or-map}
use Rattle.msg_codec.specs.declared.letter.Letter.{Letter}
use Rattle.world_core.specs.Kept.{Kept, LinkGave, LinkGot, SameLinks, batches_at, Counted}
use Rattle.list_facts.proofs.Fields.{field_kept, field_set}

pub same_links : (links : List Kept) (place : ℕ) (x now : Kept) → place < length links → now.batches ≡ (get_or links place x).batches →
    now.carried ≡ (get_or links place x).carried → SameLinks links (set links place now)
same_links links place x now within batches carried = record {
  batches = field_kept (λ k. k.batches) links place x now within batches;
  carried = field_kept (λ k. k.carried) links place x now within carried;
}

pub got : (links middle : List Kept) (place : ℕ) (batch : List Letter) (x now : Kept) → SameLinks links middle → place < length middle →
    now.batches ≡ (get_or middle place x).batches ++ batch ∷ [] → now.carried ≡ (get_or middle place x).carried + 1 → LinkGot place batch links (set middle place now)
got links middle place batch x now same within batches carried = record {
  batches = field_set (λ k. k.batches) middle place x now [] (λ b. b ++ batch ∷ []) within batches ∙ ap (λ all. set all place (get_or all place [] ++ batch ∷ [])) same.batches;
  carried = field_set (λ k. k.carried) middle place x now 0 (λ n. n + 1) within carried ∙ ap (λ all. set all place (get_or all place 0 + 1)) same.carried;
}

pub gave : (links : List Kept) (place : ℕ) (x now : Kept) (result : Option (List Letter)) → place < length links →
    MatchOption result (((get_or links place x).batches ≡ []) × (now.batches ≡ [])) (λ batch. (get_or links place x).batches ≡ batch ∷ now.batches) →
    now.carried ≡ (get_or links place x).carried →
    MatchOption result ((batches_at links place ≡ []) × SameLinks links (set links place now)) (λ batch. LinkGave place batch links (set links place now))
gave links place x now None within batches carried =
    (get_or-map (λ (k : Kept). k.batches) links place x [] within ∙ batches.0, same_links links place x now within (batches.1 ∙ sym batches.0) carried)
gave links place x now (Some batch) within batches carried =
    let at : batches_at links place ≡ (get_or links place x).batches = get_or-map (λ (k : Kept). k.batches) links place x [] within in
    record {
      oldest = at ∙ batches ∙ ap (λ b. batch ∷ drop 1 b) (sym (at ∙ batches));
      batches = field_set (λ k. k.batches) links place x now [] (drop 1) within (ap (drop 1) (sym batches));
      carried = field_kept (λ k. k.carried) links place x now within carried;
    }

-- the same, of equal lists
pub counted_as : (rank : ℕ) (before old new after : List ℕ) → Counted rank old new → old ≡ before → after ≡ new → Counted rank before after
counted_as rank before old new after counted is now =
    let P : List ℕ → Type 0 = λ counts. Counted rank counts new in
    let Q : List ℕ → Type 0 = λ counts. Counted rank before counts in
    subst Q (sym now) (subst P is counted)
