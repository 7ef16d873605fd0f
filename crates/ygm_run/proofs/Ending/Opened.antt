-- Files that were opened, one after another.
use Rattle.std.proofs.Common.{◌≡◌, ℕ, zero, suc, ◌+◌, ◌++◌, ◌<◌, List, [], ◌∷◌, Option, Some, length, map, take, slice_get, refl, ap, sym, ◌∙◌, subst, arith, inl, inr}
use Rattle.std.specs.Option.{option_map}
use Rattle.std.proofs.lemmas.List.{map-append}
use Rattle.std.proofs.lemmas.Option.{slice_get-map, slice_get_cases, slice_get_within}
use Rattle.list_facts.proofs.Places.{same_item}
use Rattle.list_facts.proofs.Steps.{taken_more}
use Rattle.ygm_io.specs.Content.{ExposedBytes, NothingLeft}
use Rattle.line_input.specs.declared.why.LineWhy.{LineWhy}
use Rattle.ygm_run.specs.Inputs.{AllRead, AreRests, IsRest}
use Rattle.ygm_run.proofs.Inputs.IsRest.{rest_none}

module _ {S : Type 0} (left : S → ExposedBytes) where
  -- one more of the names was opened
  pub opened_more : (content : List ℕ → ExposedBytes) (names : List (List ℕ)) (k : ℕ) (old now : List S) (source : S) (name : List ℕ)
      → now ≡ old ++ source ∷ [] → map left old ≡ map content (take k names) → slice_get names k ≡ Some name → left source ≡ content name
      → map left now ≡ map content (take (k + 1) names)
  opened_more content names k old now source name pushed before at is =
      ap (map left) pushed ∙ map-append left old (source ∷ []) ∙ ap (λ w. w ++ left source ∷ []) before ∙ ap (λ x. map content (take k names) ++ x ∷ []) is
      ∙ sym (ap (map content) (taken_more names k name at) ∙ map-append content (take k names) (name ∷ []))

  -- if nothing was read of a source, all of its content remains
  pub rests_unread : (contents : List ExposedBytes) (sources : List S) (k : ℕ) → map left sources ≡ take k contents → AreRests left contents sources
  rests_unread contents sources k same r file source is at =
      let front : slice_get (take k contents) r ≡ Some (left source) = ap (λ (w : List ExposedBytes). slice_get w r) (sym same) ∙ slice_get-map left sources r ∙ ap (option_map left) at in
      let whole = in_front contents k r (left source) front in
      let e : file ≡ left source = same_item contents r file (left source) is whole in
      subst (λ t. IsRest t (left source)) (sym e) (rest_none (left source)) where
        in_front : (xs : List ExposedBytes) (i j : ℕ) (x : ExposedBytes) → slice_get (take i xs) j ≡ Some x → slice_get xs j ≡ Some x
        in_front [] zero j x e = e
        in_front [] (suc i) j x e = e
        in_front (y ∷ ys) zero j x e = cc
        in_front (y ∷ ys) (suc i) zero x e = e
        in_front (y ∷ ys) (suc i) (suc j) x e = in_front ys i j x e

  -- the content of a source's file
  pub content_of : (contents : List ExposedBytes) (sources : List S) (rank : ℕ) (source : S) → length sources ≡ length contents
      → slice_get sources rank ≡ Some source → (file : ExposedBytes) × (slice_get contents rank ≡ Some file)
  content_of contents sources rank source all at =
      let within : rank < length sources = slice_get_within sources rank source at in
      elim (slice_get_cases contents rank).1 [
        | inl (file, lt, is, get) ↦ (file, is)
        | inr (past, is) ↦ absurd (omega (arith, past, within, all))
      ]

  -- where all files were read to their ends, nothing remains
  pub nothing_left_of : (wrong : List ℕ → Option LineWhy) (faults : S → ℕ) (contents : List ExposedBytes) (sources : List S)
      → length sources ≡ length contents → AllRead wrong left faults contents sources
      → (rank : ℕ) (source : S) → slice_get sources rank ≡ Some source → NothingLeft (left source)
  nothing_left_of wrong faults contents sources all read rank source at =
      let file = content_of contents sources rank source all at in
      (read rank file.0 source file.1 at).to_its_end refl
