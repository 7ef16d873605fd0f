-- Words and slots of different links are apart, and within the table.
use Rattle.std.proofs.Common.{◌≡◌, ◌≢◌, ℕ, suc, ◌+◌, ◌*◌, ◌<◌, ◌≤◌, sym, ap, arith, mul-le-mul_right, suc-mul, lt_of_not-le}
use native.Mathlib.Decide.{dec_le}
use Rattle.ygm_route.specs.Layout.{max_ranks}
use Rattle.mail_table.specs.Words.{base, head_at, place, slots_of, tail_at, words_of}

-- ---- words

pub one_tail : (from to from' to' : ℕ) → to < max_ranks → to' < max_ranks → tail_at from to ≡ tail_at from' to' → (from ≡ from') × (to ≡ to')
one_tail from to from' to' a b e = (omega (arith, a, b, e), omega (arith, a, b, e))

pub one_head : (from to from' to' : ℕ) → from < max_ranks → from' < max_ranks → head_at from to ≡ head_at from' to' → (from ≡ from') × (to ≡ to')
one_head from to from' to' a b e = (omega (arith, a, b, e), omega (arith, a, b, e))

pub no_head : (from to from' to' : ℕ) → to < max_ranks → from' < max_ranks → tail_at from to ≢ head_at from' to'
no_head from to from' to' a b e = omega (arith, a, b, e)

pub tail_some : (from to : ℕ) → tail_at from to ≢ 0
tail_some from to e = omega (arith, e)

pub head_some : (from to : ℕ) → head_at from to ≢ 0
head_some from to e = omega (arith, e)

pub tail_within : (ranks from to : ℕ) → from < ranks → to < max_ranks → tail_at from to < words_of ranks
tail_within ranks from to a b = omega (arith, a, b)

pub head_within : (ranks from to : ℕ) → to < ranks → from < max_ranks → head_at from to < words_of ranks
head_within ranks from to a b = omega (arith, a, b)

-- ---- slots

-- numbers in different rows are apart
further : (x y n a b : ℕ) → x < y → a < n → x * n + a ≡ y * n + b → ⊥
further x y n a b lt near e =
    let m : suc x * n ≤ y * n = mul-le-mul_right n lt in
    let s : suc x * n ≡ x * n + n = suc-mul x n in
    let p : ℕ = x * n in let q : ℕ = y * n in let r : ℕ = suc x * n in
    let e' : p + a ≡ q + b = e in let m' : r ≤ q = m in let s' : r ≡ p + n = s in absurd (omega arith)

same_row : (x y n a b : ℕ) → a < n → b < n → x * n + a ≡ y * n + b → x ≡ y
same_row x y n a b na nb e = go (dec_le x y) (dec_le y x)
  where
    go : Dec (x ≤ y) → Dec (y ≤ x) → x ≡ y
    go (yes p) (yes q) = omega arith
    go (no p) _ = absurd (further y x n b a (lt_of_not-le p) nb (sym e))
    go (yes p) (no q) = absurd (further x y n a b (lt_of_not-le q) na e)

pub one_place : (ranks from to from' to' : ℕ) → to < ranks → to' < ranks → place ranks from to ≡ place ranks from' to' → (from ≡ from') × (to ≡ to')
one_place ranks from to from' to' a b e =
    let f = same_row from from' ranks to to' a b e in
    let p : ℕ = from * ranks in let q : ℕ = from' * ranks in let same : p ≡ q = ap (λ (k : ℕ). k * ranks) f in let e' : p + to ≡ q + to' = e in
    (f, omega arith)

pub one_slot : (ranks ring from to from' to' x y : ℕ) → to < ranks → to' < ranks → x < ring → y < ring →
    base ranks ring from to + x ≡ base ranks ring from' to' + y → (from ≡ from') × (to ≡ to')
one_slot ranks ring from to from' to' x y a b c d e = one_place ranks from to from' to' a b (same_row (place ranks from to) (place ranks from' to') ring x y c d e)

-- the place of a link is within those of all links
place_within : (ranks from to : ℕ) → from < ranks → to < ranks → place ranks from to < ranks * ranks
place_within ranks from to a b =
    let m : suc from * ranks ≤ ranks * ranks = mul-le-mul_right ranks a in let s : suc from * ranks ≡ from * ranks + ranks = suc-mul from ranks in
    let p : ℕ = from * ranks in let q : ℕ = ranks * ranks in let r : ℕ = suc from * ranks in
    let m' : r ≤ q = m in let s' : r ≡ p + ranks = s in let below : p + to < q = omega arith in below

pub base_within : (ranks ring from to : ℕ) → from < ranks → to < ranks → base ranks ring from to + ring ≤ slots_of ranks ring
base_within ranks ring from to a b =
    let within = place_within ranks from to a b in
    let m : suc (place ranks from to) * ring ≤ ranks * ranks * ring = mul-le-mul_right ring within in
    let s : suc (place ranks from to) * ring ≡ place ranks from to * ring + ring = suc-mul (place ranks from to) ring in
    let p : ℕ = place ranks from to * ring in let q : ℕ = ranks * ranks * ring in let r : ℕ = suc (place ranks from to) * ring in
    let m' : r ≤ q = m in let s' : r ≡ p + ring = s in let below : p + ring ≤ q = omega arith in below
