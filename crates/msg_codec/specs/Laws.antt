-- The laws of the encodings: what was encoded is decoded again, and what is decoded was encoded so.
use Rattle.std.proofs.Common.{◌≡◌, lit<, ℕ, ◌+◌, ◌^◌, ◌<◌, ◌≤◌, Bool, true, false, cond, ltb, eqb, Some, None, List, ◌++◌, length, get_or, take, drop, Result, Ok, Err, refl, sym, subst, ◌∙◌, append_assoc, arith, eq-eqb, length-append, length-drop, inl, inr}
use Rattle.std.specs.Int.{w32, w64, to_le_bytes, from_le_bytes}
use Rattle.std.proofs.lemmas.Bool.{eqb-true, cases_lt, ltb-false, le-ltb}
use Rattle.std.proofs.lemmas.List.{take_at, drop_at, length-take, get_or-take, get_or_past}
use Rattle.std.proofs.lemmas.List.Elements.{All-take, All-drop}
use Rattle.std.proofs.Math.Seq.{take-add}
use Rattle.std.proofs.lemmas.Nat.{le_bytes_4, le_bytes_8, from_le_bytes-to_le_bytes_4, from_le_bytes-to_le_bytes_8}
use Rattle.list_facts.proofs.Outcomes.{guard_ok, same_ok}
use Rattle.msg_codec.specs.declared.wire.WireFault.{WireFault}
use Rattle.msg_codec.specs.declared.wire.WireFault.TheVariants.{Short, TooLong}
use Rattle.msg_codec.specs.Bytes.{AreBytes}
use Rattle.msg_codec.specs.Limits.{max_body}
use Rattle.msg_codec.specs.Reading.{◌>>=◌, number_reading, stated, body_reading, pair_reading, if_whole, whole}
use Rattle.msg_codec.specs.Spelling.{spelled_number, spelled_body}

-- past the end `get_or` gives 0, which is a byte too
each_byte : (bytes : List ℕ) → AreBytes bytes → (i : ℕ) → get_or bytes i 0 < 256
each_byte bytes fit i =
    elim (cases_lt i (length bytes)) [
      | inl lt ↦ fit i 0 lt
      | inr le ↦ rw (get_or_past bytes i 0 le) (omega arith)
    ]

-- the value of a step that didn't fail
bind_ok : {A B : Type 0} (r : Result A WireFault) (f : A → Result B WireFault) (y : B) → (r >>= f) ≡ Ok y → (x : A) × (r ≡ Ok x) × (f x ≡ Ok y)
bind_ok (Ok x) f y e = (x, refl, e)
bind_ok (Err d) f y e = absurd cc

abbrev found : {A : Type 0} → A → ℕ → Result (A × ℕ) WireFault
found x len = Ok (x, len)

same_found : {A : Type 0} (x y : A) (i j : ℕ) → x ≡ y → i ≡ j → found x i ≡ found y j
same_found x y i j e f = cc

some_if : {A : Type 0} (b : Bool) (x v : A) (i len : ℕ) → b ≡ eqb i len → cond b (Some x) None ≡ Some v → found x i ≡ found v len
some_if true x v i len is e = same_found x v i len (cc) (eqb-true _ _ (sym is))
some_if false x v i len is e = absurd cc

-- ---- numbers

pub number_again : (n : ℕ) (rest : List ℕ) → n < 2 ^ 64 → number_reading (spelled_number n ++ rest) ≡ Ok (n, length (spelled_number n))
unfolding number_reading
number_again n rest lt =
    let long : ltb (length (spelled_number n ++ rest)) 8 ≡ false = le-ltb _ _ (omega (arith, length-append (spelled_number n) rest)) in
    let number : from_le_bytes w64 (spelled_number n ++ rest) ≡ n = from_le_bytes-to_le_bytes_8 n lt in
    rw (long, number) refl

front_8 : (bytes : List ℕ) → from_le_bytes w64 bytes ≡ from_le_bytes w64 (take 8 bytes)
front_8 bytes =
    sym (simp (get_or-take 8 bytes 0 0 (lit< tt), get_or-take 8 bytes 1 0 (lit< tt), get_or-take 8 bytes 2 0 (lit< tt), get_or-take 8 bytes 3 0 (lit< tt), get_or-take 8 bytes 4 0 (lit< tt), get_or-take 8 bytes 5 0 (lit< tt), get_or-take 8 bytes 6 0 (lit< tt), get_or-take 8 bytes 7 0 (lit< tt)))

pub front_4 : (bytes : List ℕ) → from_le_bytes w32 bytes ≡ from_le_bytes w32 (take 4 bytes)
front_4 bytes = sym (simp (get_or-take 4 bytes 0 0 (lit< tt), get_or-take 4 bytes 1 0 (lit< tt), get_or-take 4 bytes 2 0 (lit< tt), get_or-take 4 bytes 3 0 (lit< tt)))

pub number_spelled : (bytes : List ℕ) (n len : ℕ) → AreBytes bytes → number_reading bytes ≡ Ok (n, len) → (n < 2 ^ 64) × (take len bytes ≡ spelled_number n) × (len ≤ length bytes)
unfolding number_reading
number_spelled bytes n len fit e =
    let g = guard_ok (ltb (length bytes) 8) Short (Ok (from_le_bytes w64 bytes, 8)) (n, len) e in
    let long : 8 ≤ length bytes = ltb-false _ _ g.0 in
    let same = same_ok _ (from_le_bytes w64 bytes, 8) (n, len) refl g.1 in
    let each = each_byte bytes fit in
    let front = each_byte (take 8 bytes) (All-take (λ b. b < 2 ^ 8) 8 bytes fit) in
    let below : from_le_bytes w64 bytes < 2 ^ 64 = omega (arith, each 0, each 1, each 2, each 3, each 4, each 5, each 6, each 7) in
    let bytes-are : take 8 bytes ≡ spelled_number (from_le_bytes w64 bytes) = sym (le_bytes_8 (take 8 bytes) (from_le_bytes w64 bytes) (omega (arith, length-take 8 bytes)) front (front_8 bytes)) in
    subst (λ (x : ℕ × ℕ). (x.0 < 2 ^ 64) × (take x.1 bytes ≡ spelled_number x.0) × (x.1 ≤ length bytes)) same (below, bytes-are, long)

-- ---- bodies

pub stated_is : (body rest : List ℕ) → length body ≤ max_body → stated (spelled_body body ++ rest) ≡ length body
unfolding stated
stated_is body rest short = from_le_bytes-to_le_bytes_4 (length body) (omega (arith, short))

pub body_again : (body rest : List ℕ) → length body ≤ max_body → body_reading (spelled_body body ++ rest) ≡ Ok (body, length (spelled_body body))
unfolding body_reading
body_again body rest short =
    let is = stated_is body rest short in
    let four : ltb (length (spelled_body body ++ rest)) 4 ≡ false = le-ltb _ _ (omega (arith, length-append (spelled_body body) rest)) in
    let most : ltb max_body (length body) ≡ false = le-ltb _ _ short in
    let whole : ltb (length (body ++ rest)) (length body) ≡ false = le-ltb _ _ (omega (arith, length-append body rest)) in
    let len : 4 + length body ≡ length (spelled_body body) = omega arith in
    rw (four, is, most, whole, take_at body rest (length body) refl, len) refl

pub body_spelled : (bytes body : List ℕ) (len : ℕ) → AreBytes bytes → body_reading bytes ≡ Ok (body, len)
    → ((length body ≤ max_body) × AreBytes body) × (take len bytes ≡ spelled_body body) × (len ≤ length bytes)
unfolding body_reading stated
body_spelled bytes body len fit e =
    let n = stated bytes in
    let rest = drop 4 bytes in
    let third : Result (List ℕ × ℕ) WireFault = cond (ltb (length rest) n) (Err Short) (Ok (take n rest, 4 + n)) in
    let a = guard_ok (ltb (length bytes) 4) Short (cond (ltb max_body n) (Err TooLong) third) (body, len) e in
    let b = guard_ok (ltb max_body n) TooLong third (body, len) a.1 in
    let d = guard_ok (ltb (length rest) n) Short (Ok (take n rest, 4 + n)) (body, len) b.1 in
    let four : 4 ≤ length bytes = ltb-false _ _ a.0 in
    let most : n ≤ max_body = ltb-false _ _ b.0 in
    let whole : n ≤ length rest = ltb-false _ _ d.0 in
    let same = same_ok _ (take n rest, 4 + n) (body, len) refl d.1 in
    let size : length (take n rest) ≡ n = omega (arith, length-take n rest) in
    let front = each_byte (take 4 bytes) (All-take (λ b. b < 2 ^ 8) 4 bytes fit) in
    let field : take 4 bytes ≡ to_le_bytes w32 n = sym (le_bytes_4 (take 4 bytes) n (omega (arith, length-take 4 bytes)) front (front_4 bytes)) in
    let fits : AreBytes (take n rest) = All-take (λ b. b < 2 ^ 8) n rest (All-drop (λ b. b < 2 ^ 8) 4 bytes fit) in
    let bytes-are : take (4 + n) bytes ≡ spelled_body (take n rest) = take-add 4 n bytes ∙ rw (field, size) refl in
    subst (λ (x : List ℕ × ℕ). ((length x.0 ≤ max_body) × AreBytes x.0) × (take x.1 bytes ≡ spelled_body x.0) × (x.1 ≤ length bytes)) same ((rw size most, fits), bytes-are, omega (arith, length-drop 4 bytes))

-- ---- pairs

pub pair_again : {A B : Type 0} (first : List ℕ → Result (A × ℕ) WireFault) (second : List ℕ → Result (B × ℕ) WireFault) (a : A) (b : B) (front back rest : List ℕ)
    → first (front ++ (back ++ rest)) ≡ Ok (a, length front) → second (back ++ rest) ≡ Ok (b, length back) → pair_reading first second ((front ++ back) ++ rest) ≡ Ok ((a, b), length (front ++ back))
unfolding pair_reading
pair_again {A} {B} first second a b front back rest one two =
    let after : drop (length front) (front ++ (back ++ rest)) ≡ back ++ rest = drop_at front (back ++ rest) (length front) refl in
    rw (append_assoc front back rest, one, after, two, length-append front back) refl

pair_parts : {A B : Type 0} (P : A → Type 0) (Q : B → Type 0) (s : A → List ℕ) (t : B → List ℕ) (bytes : List ℕ) (a : A) (b : B) (m n : ℕ) (pair : A × B) (len : ℕ)
    → P a × (take m bytes ≡ s a) × (m ≤ length bytes) → Q b × (take n (drop m bytes) ≡ t b) × (n ≤ length (drop m bytes)) → found (a, b) (m + n) ≡ found pair len
    → (P pair.0 × Q pair.1) × (take len bytes ≡ s pair.0 ++ t pair.1) × (len ≤ length bytes)
pair_parts {A} {B} P Q s t bytes a b m n pair len p q e =
    let spelled : take (m + n) bytes ≡ s a ++ t b = take-add m n bytes ∙ rw (p.1, q.1) refl in
    subst (λ (x : (A × B) × ℕ). (P x.0.0 × Q x.0.1) × (take x.1 bytes ≡ s x.0.0 ++ t x.0.1) × (x.1 ≤ length bytes)) (same_ok _ ((a, b), m + n) (pair, len) refl e) ((p.0, q.0), spelled, omega (arith, p.2, q.2, length-drop m bytes))

pub pair_spelled : {A B : Type 0} (first : List ℕ → Result (A × ℕ) WireFault) (second : List ℕ → Result (B × ℕ) WireFault) (P : A → Type 0) (Q : B → Type 0) (s : A → List ℕ) (t : B → List ℕ)
    → ((bytes : List ℕ) (a : A) (len : ℕ) → AreBytes bytes → first bytes ≡ Ok (a, len) → P a × (take len bytes ≡ s a) × (len ≤ length bytes))
    → ((bytes : List ℕ) (b : B) (len : ℕ) → AreBytes bytes → second bytes ≡ Ok (b, len) → Q b × (take len bytes ≡ t b) × (len ≤ length bytes))
    → (bytes : List ℕ) (pair : A × B) (len : ℕ) → AreBytes bytes → pair_reading first second bytes ≡ Ok (pair, len) → (P pair.0 × Q pair.1) × (take len bytes ≡ s pair.0 ++ t pair.1) × (len ≤ length bytes)
unfolding pair_reading
pair_spelled {A} {B} first second P Q s t one two bytes pair len fit e =
    let a = bind_ok (first bytes) (λ a. second (drop a.1 bytes) >>= λ b. Ok ((a.0, b.0), a.1 + b.1)) (pair, len) e in
    let b = bind_ok (second (drop a.0.1 bytes)) (λ b. Ok ((a.0.0, b.0), a.0.1 + b.1)) (pair, len) a.2 in
    let p = one bytes a.0.0 a.0.1 fit a.1 in
    let q = two (drop a.0.1 bytes) b.0.0 b.0.1 (All-drop (λ b. b < 2 ^ 8) a.0.1 bytes fit) b.1 in
    pair_parts P Q s t bytes a.0.0 b.0.0 a.0.1 b.0.1 pair len p q b.2

-- ---- all of the bytes

if_whole_some : {A : Type 0} (len : ℕ) (r : Result (A × ℕ) WireFault) (v : A) → if_whole len r ≡ Some v → r ≡ Ok (v, len)
if_whole_some len (Ok (x, i)) v e = some_if (eqb i len) x v i len refl e
if_whole_some len (Err d) v e = absurd cc

-- What all of the bytes encode is decoded from their beginning, and nothing remains.
pub whole_is : {A : Type 0} (reading : List ℕ → Result (A × ℕ) WireFault) (bytes : List ℕ) (v : A) → whole reading bytes ≡ Some v → reading bytes ≡ Ok (v, length bytes)
whole_is reading bytes v e = if_whole_some (length bytes) (reading bytes) v e

pub whole_again : {A : Type 0} (reading : List ℕ → Result (A × ℕ) WireFault) (bytes : List ℕ) (v : A) → reading bytes ≡ Ok (v, length bytes) → whole reading bytes ≡ Some v
whole_again reading bytes v e = rw (e, eq-eqb (length bytes) (length bytes) refl) refl
