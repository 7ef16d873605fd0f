-- Slices of a list, by where they begin and end.
use Rattle.std.proofs.Common.{◌≡◌, ◌+◌, ◌-◌, ◌≤◌, ℕ, List, [], ◌++◌, length, take, drop, ap, ◌∙◌, sym, arith}
use Rattle.std.proofs.Math.Seq.{take-length}
use Rattle.std.proofs.lemmas.List.{append-nil, drop_all, drop-take, drop-drop}
use Rattle.std.specs.Prelude.{slice_range}

-- without the first n elements
pub drop-slice_range : {X : Type 0} (n start end : ℕ) (xs : List X) → n ≤ end - start → drop n (slice_range xs start end) ≡ slice_range xs (start + n) end
drop-slice_range n start end xs h =
    let e : end - start ≡ n + (end - (start + n)) = omega arith in
    ap (λ m. drop n (take m (drop start xs))) e
    ∙ drop-take n (end - (start + n)) (drop start xs)
    ∙ ap (take (end - (start + n))) (drop-drop n start xs)

pub slice_range-empty : {X : Type 0} (xs : List X) (start end : ℕ) → end ≤ start → slice_range xs start end ≡ []
slice_range-empty xs start end h =
    let e : end - start ≡ 0 = omega arith in
    ap (λ n. take n (drop start xs)) e

-- from the first element on
pub slice_range-front : {X : Type 0} (xs : List X) (start end : ℕ) → start ≡ 0 → slice_range xs start end ≡ take end xs
slice_range-front xs start end z =
    let e : end - 0 ≡ end = omega arith in
    ap (λ from. slice_range xs from end) z ∙ ap (λ n. take n xs) e

-- up to a count of elements
pub slice_range-behind : {X : Type 0} (n count : ℕ) (xs : List X) → n ≤ count → slice_range xs n count ≡ drop n (take count xs)
slice_range-behind n count xs h =
    let e : n + (count - n) ≡ count = omega arith in
    sym (drop-take n (count - n) xs) ∙ ap (λ m. drop n (take m xs)) e

-- a whole list was written over one that is as long
pub written_back : {X : Type 0} (len : ℕ) (xs ys : List X) → len ≡ length ys → length xs ≡ length ys → take len (xs ++ drop (length xs) ys) ≡ xs
written_back len xs ys all same =
    ap (λ k. take k (xs ++ drop (length xs) ys)) (all ∙ sym same) ∙ ap (λ w. take (length xs) (xs ++ w)) (drop_all (length xs) ys (omega (arith, same)))
    ∙ ap (take (length xs)) (append-nil xs) ∙ take-length xs
