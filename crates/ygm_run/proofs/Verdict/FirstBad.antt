-- The lowest rank whose file has a bad line.
use Rattle.std.proofs.Common.{◌≡◌, ◌↔◌, ℕ, zero, suc, ◌+◌, ◌<◌, List, [], ◌∷◌, Some, None, Option, slice_get, refl, ap, sym, ◌∙◌, subst, arith}
use Rattle.std.specs.Option.{option_map, option_or}
use Rattle.line_input.specs.declared.why.LineWhy.{LineWhy}
use Rattle.ygm_run.specs.BadLines.{first_wrong}
use Rattle.line_input.specs.Lines.{raw_lines}
use Rattle.ygm_run.specs.Verdict.{AreGood, Bad, IsLowestBad, Text, bad_or_text, first_bad}

-- a bad line, with the first rank
abbrev first_rank : ℕ × LineWhy → ℕ × (ℕ × LineWhy)
first_rank found = (0, found)

-- the same, with the next rank
abbrev next_rank : ℕ × (ℕ × LineWhy) → ℕ × (ℕ × LineWhy)
next_rank found = (found.0 + 1, found.1)

-- where no file has a bad line, none is found
pub none_bad : (wrong : List ℕ → Option LineWhy) (files : List (List ℕ)) → ((rank : ℕ) (file : List ℕ) → slice_get files rank ≡ Some file
    → first_wrong wrong (raw_lines file) ≡ None) → first_bad wrong files ≡ None
none_bad wrong [] none = refl
none_bad wrong (file ∷ files) none =
    ap (λ found. option_or (option_map first_rank found) (option_map next_rank (first_bad wrong files))) (none 0 file refl)
    ∙ ap (option_map next_rank) (none_bad wrong files (λ rank other at. none (suc rank) other at))

-- a file has this bad line, and those of the ranks below have none
pub first_bad_at : (wrong : List ℕ → Option LineWhy) (files : List (List ℕ)) (rank : ℕ) (file : List ℕ) (found : ℕ × LineWhy)
    → ((lower : ℕ) (other : List ℕ) → lower < rank → slice_get files lower ≡ Some other → first_wrong wrong (raw_lines other) ≡ None)
    → slice_get files rank ≡ Some file → first_wrong wrong (raw_lines file) ≡ Some found → first_bad wrong files ≡ Some (rank, found)
first_bad_at wrong [] rank file found below at is = cc
first_bad_at wrong (first ∷ files) zero file found below at is =
    let same : first ≡ file = cc in
    ap (λ w. option_or (option_map first_rank w) (option_map next_rank (first_bad wrong files))) (ap (λ b. first_wrong wrong (raw_lines b)) same ∙ is)
first_bad_at wrong (first ∷ files) (suc rank) file found below at is =
    let next : rank + 1 ≡ suc rank = omega arith in
    ap (λ w. option_or (option_map first_rank w) (option_map next_rank (first_bad wrong files))) (below 0 first (omega arith) refl)
    ∙ ap (option_map next_rank) (first_bad_at wrong files rank file found (λ lower other lt other_at. below (suc lower) other (omega (arith, lt)) other_at) at is)
    ∙ ap (λ k. Some (k, found)) next

map_none : {A B : Type 0} (f : A → B) (o : Option A) → option_map f o ≡ None → o ≡ None
map_none f None e = refl
map_none f (Some x) e = cc

both_none : {A : Type 0} (a b : Option A) → option_or a b ≡ None → (a ≡ None) × (b ≡ None)
both_none None b e = (refl, e)
both_none (Some x) b e = cc

-- where none is found, no file has a bad line
pub none_at : (wrong : List ℕ → Option LineWhy) (files : List (List ℕ)) → first_bad wrong files ≡ None → (rank : ℕ) (file : List ℕ)
    → slice_get files rank ≡ Some file → first_wrong wrong (raw_lines file) ≡ None
none_at wrong [] none rank file at = cc
none_at wrong (first ∷ files) none zero file at =
    let same : first ≡ file = cc in
    ap (λ b. first_wrong wrong (raw_lines b)) (sym same) ∙ map_none first_rank (first_wrong wrong (raw_lines first)) (both_none (option_map first_rank (first_wrong wrong (raw_lines first))) (option_map next_rank (first_bad wrong files)) none).0
none_at wrong (first ∷ files) none (suc rank) file at =
    none_at wrong files (map_none next_rank (first_bad wrong files) (both_none (option_map first_rank (first_wrong wrong (raw_lines first))) (option_map next_rank (first_bad wrong files)) none).1) rank file at

-- a verdict that is a text finds no bad line
pub none_of_text : (found : Option (ℕ × (ℕ × LineWhy))) (text other : List ℕ) → bad_or_text found text ≡ Text other → found ≡ None
none_of_text None text other is = refl
none_of_text (Some found) text other is = absurd (let e : Bad found.0 found.1.0 found.1.1 ≡ Text other = is in cc)

-- a verdict that is a bad line finds it
bad_of_verdict : (found : Option (ℕ × (ℕ × LineWhy))) (text : List ℕ) (rank line : ℕ) (why : LineWhy) → bad_or_text found text ≡ Bad rank line why
    → found ≡ Some (rank, (line, why))
bad_of_verdict None text rank line why is = absurd (let e : Text text ≡ Bad rank line why = is in cc)
bad_of_verdict (Some (r, (l, w))) text rank line why is =
    let e : Bad r l w ≡ Bad rank line why = is in
    let same_rank : r ≡ rank = cc in
    let same_line : l ≡ line = cc in
    let same_why : w ≡ why = cc in
    ap (λ k. Some (k, (l, w))) same_rank ∙ ap (λ k. Some (rank, (k, w))) same_line ∙ ap (λ k. Some (rank, (line, k))) same_why

-- before a file without a bad line, each rank is one less
later_rank : (wrong : List ℕ → Option LineWhy) (file : List ℕ) (files : List (List ℕ)) (rank line : ℕ) (why : LineWhy)
    → first_wrong wrong (raw_lines file) ≡ None
    → IsLowestBad wrong files rank line why → IsLowestBad wrong (file ∷ files) (suc rank) line why
later_rank wrong file files rank line why none low = record { file = low.file; file_is = low.file_is; bad = low.bad; good_below = below } where
  below : (lower : ℕ) (other : List ℕ) → lower < suc rank → slice_get (file ∷ files) lower ≡ Some other → first_wrong wrong (raw_lines other) ≡ None
  below zero other lt at = let same : file ≡ other = cc in ap (λ b. first_wrong wrong (raw_lines b)) (sym same) ∙ none
  below (suc lower) other lt at = low.good_below lower other (omega (arith, lt)) at

unwrapped : (a b : ℕ × (ℕ × LineWhy)) → Some a ≡ Some b → a ≡ b
unwrapped a b same = cc

lowest_by : (wrong : List ℕ
    → Option LineWhy) (file : List ℕ) (files : List (List ℕ)) (here : Option (ℕ × LineWhy)) (rest : Option (ℕ × (ℕ × LineWhy))) (rank line : ℕ) (why : LineWhy)
    → first_wrong wrong (raw_lines file) ≡ here → ((r l : ℕ) (w : LineWhy) → rest ≡ Some (r, (l, w)) → IsLowestBad wrong files r l w)
    → option_or (option_map first_rank here) (option_map next_rank rest) ≡ Some (rank, (line, why)) → IsLowestBad wrong (file ∷ files) rank line why
lowest_by wrong file files (Some (l, w)) rest rank line why is below e =
    let pair = unwrapped (0, (l, w)) (rank, (line, why)) e in
    subst (λ k. IsLowestBad wrong (file ∷ files) k line why) (ap (λ (p : ℕ × (ℕ × LineWhy)). p.0) pair) (record {
      file = file;
      file_is = refl;
      bad = is ∙ ap (λ (p : ℕ × (ℕ × LineWhy)). Some p.1) pair;
      good_below = λ lower other lt at. absurd (omega (arith, lt));
    })
lowest_by wrong file files None None rank line why is below e = absurd (let f : None ≡ Some (rank, (line, why)) = e in cc)
lowest_by wrong file files None (Some (r, (l, w))) rank line why is below e =
    let pair = unwrapped (r + 1, (l, w)) (rank, (line, why)) e in
    let next : suc r ≡ rank = omega (arith, ap (λ (p : ℕ × (ℕ × LineWhy)). p.0) pair) in
    let low = later_rank wrong file files r l w is (below r l w refl) in
    subst (λ k. IsLowestBad wrong (file ∷ files) k line why) next
    (subst (λ (p : ℕ × LineWhy). IsLowestBad wrong (file ∷ files) (suc r) p.0 p.1) (ap (λ (p : ℕ × (ℕ × LineWhy)). p.1) pair) low)

-- the bad line that is found is the first of the lowest rank that has one
lowest_of : (wrong : List ℕ → Option LineWhy) (files : List (List ℕ)) (rank line : ℕ) (why : LineWhy)
    → first_bad wrong files ≡ Some (rank, (line, why)) → IsLowestBad wrong files rank line why
lowest_of wrong [] rank line why e = cc
lowest_of wrong (file ∷ files) rank line why e =
    lowest_by wrong file files (first_wrong wrong (raw_lines file)) (first_bad wrong files) rank line why refl (λ r l w is. lowest_of wrong files r l w is) e

-- the verdict is the first bad line of the lowest rank that has one
pub verdict_bad : (wrong : List ℕ → Option LineWhy) (files : List (List ℕ)) (text : List ℕ) (rank line : ℕ) (why : LineWhy)
    → (bad_or_text (first_bad wrong files) text ≡ Bad rank line why) ↔ IsLowestBad wrong files rank line why
verdict_bad wrong files text rank line why = (
  (λ is. lowest_of wrong files rank line why (bad_of_verdict (first_bad wrong files) text rank line why is)),
  (λ low. ap (λ found. bad_or_text found text) (first_bad_at wrong files rank low.file (line, why) low.good_below low.file_is low.bad)),
)

text_is : (found : Option (ℕ × (ℕ × LineWhy))) (text other : List ℕ) → bad_or_text found text ≡ Text other → other ≡ text
text_is None text other is = let e : Text text ≡ Text other = is in cc
text_is (Some found) text other is = absurd (let e : Bad found.0 found.1.0 found.1.1 ≡ Text other = is in cc)

-- the verdict is the text where no file has a bad line
pub verdict_text : (wrong : List ℕ → Option LineWhy) (files : List (List ℕ)) (text other : List ℕ)
    → (bad_or_text (first_bad wrong files) text ≡ Text other) ↔ (AreGood wrong files × (other ≡ text))
verdict_text wrong files text other = (
  (λ is. (none_at wrong files (none_of_text (first_bad wrong files) text other is), text_is (first_bad wrong files) text other is)),
  (λ good. ap (λ found. bad_or_text found text) (none_bad wrong files good.0) ∙ ap Text (sym good.1)),
)
