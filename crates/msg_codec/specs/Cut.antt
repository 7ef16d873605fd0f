-- The laws of the faults of decoding: an encoding that is cut is too short, bytes are too short only where more would help, and what is
-- too long stays so.
use Rattle.std.proofs.Common.{◌≡◌, ◌≢◌, ℕ, ◌+◌, ◌^◌, ◌<◌, ◌≤◌, Bool, true, false, cond, ltb, List, [], ◌++◌, length, take, drop, Result, Ok, Err, refl, sym, ap, ◌∙◌, append_assoc, arith, replicate, length-append, length-drop, ◌⊎◌, inl, inr}
use Rattle.std.specs.Int.{w32, w64, from_le_bytes}
use Rattle.std.proofs.lemmas.Bool.{cases_lt, ltb-false, le-ltb, lt-ltb}
use Rattle.std.proofs.lemmas.List.{append-nil, length-replicate, length-take, take-append-drop, take-append-le, drop-append-le}
use Rattle.std.proofs.lemmas.List.Elements.{All-drop, All-append, All-replicate}
use Rattle.list_facts.proofs.Cuts.{cut_first, cut_second, shorter_part, some_dropped}
use Rattle.list_facts.proofs.Outcomes.{ok_or_err}
use Rattle.msg_codec.specs.declared.wire.WireFault.{WireFault}
use Rattle.msg_codec.specs.declared.wire.WireFault.TheVariants.{Short, TooLong, NoMemory}
use Rattle.msg_codec.specs.Bytes.{AreBytes}
use Rattle.msg_codec.specs.Laws.{front_4, stated_is}
use Rattle.msg_codec.specs.Limits.{max_body}
use Rattle.msg_codec.specs.Reading.{◌>>=◌, number_reading, stated, body_reading, pair_reading}
use Rattle.msg_codec.specs.Spelling.{spelled_number, spelled_body}

-- ---- short

pub number_cut : (n : ℕ) (front back : List ℕ) → spelled_number n ≡ front ++ back → back ≢ [] → number_reading front ≡ Err Short
unfolding number_reading
number_cut n front back e ne =
    let cut : ltb (length front) 8 ≡ true = lt-ltb _ _ (shorter_part (spelled_number n) front back e ne) in
    rw cut refl

stated_front : (front back : List ℕ) → 4 ≤ length front → stated (front ++ back) ≡ stated front
unfolding stated
stated_front front back long = front_4 (front ++ back) ∙ ap (from_le_bytes w32) (take-append-le 4 front back long) ∙ sym (front_4 front)

pub body_cut : (body front back : List ℕ) → length body ≤ max_body → spelled_body body ≡ front ++ back → back ≢ [] → body_reading front ≡ Err Short
unfolding body_reading
body_cut body front back short e ne =
    elim (cases_lt (length front) 4) [
      | inl lt ↦ let cut : ltb (length front) 4 ≡ true = lt-ltb _ _ lt in rw cut refl
      | inr le ↦
          let is : stated front ≡ length body = sym (stated_front front back le) ∙ ap stated (sym e ∙ sym (append-nil (spelled_body body))) ∙ stated_is body [] short in
          let four : ltb (length front) 4 ≡ false = le-ltb _ _ le in
          let most : ltb max_body (length body) ≡ false = le-ltb _ _ short in
          let cut : ltb (length (drop 4 front)) (length body) ≡ true = lt-ltb _ _ (omega (arith, length-drop 4 front, shorter_part (spelled_body body) front back e ne)) in
          rw (four, is, most, cut) refl
    ]

pub pair_cut : {A B : Type 0} (first : List ℕ → Result (A × ℕ) WireFault) (second : List ℕ → Result (B × ℕ) WireFault) (a : A) (s t front back : List ℕ)
    → ((x y : List ℕ) → s ≡ x ++ y → y ≢ [] → first x ≡ Err Short) → ((x y : List ℕ) → t ≡ x ++ y → y ≢ [] → second x ≡ Err Short)
    → ((rest : List ℕ) → first (s ++ rest) ≡ Ok (a, length s)) → s ++ t ≡ front ++ back → back ≢ [] → pair_reading first second front ≡ Err Short
unfolding pair_reading
pair_cut first second a s t front back one two again e ne =
    elim (cases_lt (length front) (length s)) [
      | inl lt ↦ rw (one front (drop (length front) s) (cut_first s t front back e (omega (arith, lt))) (some_dropped s (length front) lt)) refl
      | inr le ↦
          let rest = drop (length s) front in
          let read : first front ≡ Ok (a, length s) = ap first (cut_first front back s t (sym e) le) ∙ again rest in
          rw (read, two rest back (cut_second s t front back e le) ne) refl
    ]

-- ---- too long

not_long : {A : Type 0} (b : Bool) (y : A) → cond b (Err Short) (Ok y) ≡ Err TooLong → ⊥
not_long true y e = cc
not_long false y e = cc

pub number_long : (bytes more : List ℕ) → AreBytes bytes → number_reading bytes ≡ Err TooLong → number_reading (bytes ++ more) ≡ Err TooLong
unfolding number_reading
number_long bytes more fit e = absurd (not_long (ltb (length bytes) 8) (from_le_bytes w64 bytes, 8) e)

over_limit : {A : Type 0} (four most all : Bool) (y : A) → cond four (Err Short) (cond most (Err TooLong) (cond all (Err Short) (Ok y))) ≡ Err TooLong → (four ≡ false) × (most ≡ true)
over_limit true most all y e = absurd cc
over_limit false true all y e = (refl, refl)
over_limit false false true y e = absurd cc
over_limit false false false y e = absurd cc

pub body_long : (bytes more : List ℕ) → AreBytes bytes → body_reading bytes ≡ Err TooLong → body_reading (bytes ++ more) ≡ Err TooLong
unfolding body_reading
body_long bytes more fit e =
    let n = stated bytes in
    let over = over_limit (ltb (length bytes) 4) (ltb max_body n) (ltb (length (drop 4 bytes)) n) (take n (drop 4 bytes), 4 + n) e in
    let long : 4 ≤ length bytes = ltb-false _ _ over.0 in
    let four : ltb (length (bytes ++ more)) 4 ≡ false = le-ltb _ _ (omega (arith, length-append bytes more)) in
    rw (four, stated_front bytes more long, over.1) refl

bind_err : {A B : Type 0} (r : Result A WireFault) (f : A → Result B WireFault) (d : WireFault) → (r >>= f) ≡ Err d → (r ≡ Err d) ⊎ ((x : A) × (r ≡ Ok x) × (f x ≡ Err d))
bind_err (Ok x) f d e = inr (x, refl, e)
bind_err (Err c) f d e = let same : c ≡ d = cc in inl (ap (λ z. Err z) same)

second_err : {A C : Type 0} (r : Result A WireFault) (f : A → C) (d : WireFault) → (r >>= λ x. Ok (f x)) ≡ Err d → r ≡ Err d
second_err (Ok x) f d e = absurd cc
second_err (Err c) f d e = let same : c ≡ d = cc in ap (λ z. Err z) same

-- What was decoded is decoded again, whatever follows.
stays : {A : Type 0} (first : List ℕ → Result (A × ℕ) WireFault) (P : A → Type 0) (s : A → List ℕ)
    → ((a : A) (rest : List ℕ) → P a → first (s a ++ rest) ≡ Ok (a, length (s a)))
    → (bytes more : List ℕ) (x : A × ℕ) → first bytes ≡ Ok x → P x.0 × (take x.1 bytes ≡ s x.0) × (x.1 ≤ length bytes) → first (bytes ++ more) ≡ Ok x
stays first P s again bytes more x at is =
    let rest = drop x.1 bytes in
    let size : length (s x.0) ≡ x.1 = ap length (sym is.1) ∙ omega (arith, is.2, length-take x.1 bytes) in
    let whole : bytes ++ more ≡ s x.0 ++ (rest ++ more) = ap (λ z. z ++ more) (sym (take-append-drop x.1 bytes) ∙ ap (λ z. z ++ rest) is.1) ∙ append_assoc (s x.0) rest more in
    ap first whole ∙ again x.0 (rest ++ more) is.0 ∙ ap (λ n. Ok (x.0, n)) size

pub pair_long : {A B : Type 0} (first : List ℕ → Result (A × ℕ) WireFault) (second : List ℕ → Result (B × ℕ) WireFault) (P : A → Type 0) (s : A → List ℕ)
    → ((bytes more : List ℕ) → AreBytes bytes → first bytes ≡ Err TooLong → first (bytes ++ more) ≡ Err TooLong)
    → ((bytes more : List ℕ) → AreBytes bytes → second bytes ≡ Err TooLong → second (bytes ++ more) ≡ Err TooLong)
    → ((a : A) (rest : List ℕ) → P a → first (s a ++ rest) ≡ Ok (a, length (s a)))
    → ((bytes : List ℕ) (a : A) (len : ℕ) → AreBytes bytes → first bytes ≡ Ok (a, len) → P a × (take len bytes ≡ s a) × (len ≤ length bytes))
    → (bytes more : List ℕ) → AreBytes bytes → pair_reading first second bytes ≡ Err TooLong → pair_reading first second (bytes ++ more) ≡ Err TooLong
unfolding pair_reading
pair_long first second P s one two again spelled bytes more fit e =
    elim (bind_err (first bytes) (λ a. second (drop a.1 bytes) >>= λ b. Ok ((a.0, b.0), a.1 + b.1)) TooLong e) [
      | inl at ↦ rw (one bytes more fit at) refl
      | inr (x, at, left) ↦
          let is = spelled bytes x.0 x.1 fit at in
          let rest = drop x.1 bytes in
          let read : first (bytes ++ more) ≡ Ok x = stays first P s again bytes more x at is in
          let long : second rest ≡ Err TooLong = second_err (second rest) (λ b. ((x.0, b.0), x.1 + b.1)) TooLong left in
          rw (read, drop-append-le x.1 bytes more is.2, two rest more (All-drop (λ b. b < 2 ^ 8) x.1 bytes fit) long) refl
    ]

-- ---- short where more would help

-- more bytes with which they aren't too short
abbrev Ends : {A : Type 0} → (List ℕ → Result A WireFault) → List ℕ → Type 0
Ends reading bytes = (more : List ℕ) × AreBytes more × (reading (bytes ++ more) ≢ Err Short)

zeros : (n : ℕ) → (more : List ℕ) × AreBytes more × (length more ≡ n)
zeros n = (replicate n 0, All-replicate (λ b. b < 2 ^ 8) n 0 (omega arith), length-replicate n 0)

number_whole : {A : Type 0} (b : Bool) (y : A) → b ≡ false → cond b (Err Short) (Ok y) ≢ Err Short
number_whole true y is e = cc
number_whole false y is e = cc

pub number_wants : (bytes : List ℕ) → AreBytes bytes → number_reading bytes ≡ Err Short → Ends number_reading bytes
unfolding number_reading
number_wants bytes fit e =
    let more = zeros 8 in
    let eight : ltb (length (bytes ++ more.0)) 8 ≡ false = le-ltb _ _ (omega (arith, more.2, length-append bytes more.0)) in
    (more.0, more.1, number_whole _ _ eight)

body_whole : {A : Type 0} (four most all : Bool) (y : A) → four ≡ false → (most ≡ false → all ≡ false) → cond four (Err Short) (cond most (Err TooLong) (cond all (Err Short) (Ok y))) ≢ Err Short
body_whole true most all y is fits e = cc
body_whole false true all y is fits e = cc
body_whole false false true y is fits e = let all : true ≡ false = fits refl in cc
body_whole false false false y is fits e = cc

-- As many bytes as the longest body has are enough, whatever its length field says.
pub body_wants : (bytes : List ℕ) → AreBytes bytes → body_reading bytes ≡ Err Short → Ends body_reading bytes
unfolding body_reading
body_wants bytes fit e =
    let more = zeros (4 + max_body) in
    let all = bytes ++ more.0 in
    let four : ltb (length all) 4 ≡ false = le-ltb _ _ (omega (arith, more.2, length-append bytes more.0)) in
    let whole : ltb max_body (stated all) ≡ false → ltb (length (drop 4 all)) (stated all) ≡ false =
    λ most. le-ltb _ _ (omega (arith, ltb-false _ _ most, length-drop 4 all, more.2, length-append bytes more.0)) in
    (more.0, more.1, body_whole _ _ _ _ four whole)

short_or : {A : Type 0} (r : Result A WireFault) → (r ≡ Err Short) ⊎ (r ≢ Err Short)
short_or (Ok x) = inr (λ e. cc)
short_or (Err Short) = inl refl
short_or (Err TooLong) = inr (λ e. cc)
short_or (Err NoMemory) = inr (λ e. cc)

-- What isn't short needs no more.
ends : {A : Type 0} (reading : List ℕ → Result A WireFault) → ((bytes : List ℕ) → AreBytes bytes → reading bytes ≡ Err Short → Ends reading bytes)
    → (bytes : List ℕ) → AreBytes bytes → Ends reading bytes
ends reading wants bytes fit =
    elim (short_or (reading bytes)) [
      | inl short ↦ wants bytes fit short
      | inr other ↦ ([], All-replicate (λ b. b < 2 ^ 8) 0 0 (omega arith), rw (append-nil bytes) other)
    ]

-- Where the first is decoded, what helps the second is enough.
second_ends : {A B : Type 0} (first : List ℕ → Result (A × ℕ) WireFault) (second : List ℕ → Result (B × ℕ) WireFault) (P : A → Type 0) (s : A → List ℕ)
    → ((bytes : List ℕ) → AreBytes bytes → second bytes ≡ Err Short → Ends second bytes)
    → ((a : A) (rest : List ℕ) → P a → first (s a ++ rest) ≡ Ok (a, length (s a)))
    → (bytes : List ℕ) (x : A × ℕ) → AreBytes bytes → first bytes ≡ Ok x → P x.0 × (take x.1 bytes ≡ s x.0) × (x.1 ≤ length bytes) → Ends (pair_reading first second) bytes
unfolding pair_reading
second_ends first second P s two again bytes x fit at is =
    let rest = drop x.1 bytes in
    let end = ends second two rest (All-drop (λ b. b < 2 ^ 8) x.1 bytes fit) in
    let read : first (bytes ++ end.0) ≡ Ok x = stays first P s again bytes end.0 x at is in
    (end.0, end.1, rw (read, drop-append-le x.1 bytes end.0 is.2) (λ short. end.2 (second_err (second (rest ++ end.0)) (λ b. ((x.0, b.0), x.1 + b.1)) Short short)))

-- First what helps the first, and then what helps the second.
pub pair_wants : {A B : Type 0} (first : List ℕ → Result (A × ℕ) WireFault) (second : List ℕ → Result (B × ℕ) WireFault) (P : A → Type 0) (s : A → List ℕ)
    → ((bytes : List ℕ) → AreBytes bytes → first bytes ≡ Err Short → Ends first bytes)
    → ((bytes : List ℕ) → AreBytes bytes → second bytes ≡ Err Short → Ends second bytes)
    → ((a : A) (rest : List ℕ) → P a → first (s a ++ rest) ≡ Ok (a, length (s a)))
    → ((bytes : List ℕ) (a : A) (len : ℕ) → AreBytes bytes → first bytes ≡ Ok (a, len) → P a × (take len bytes ≡ s a) × (len ≤ length bytes))
    → (bytes : List ℕ) → AreBytes bytes → pair_reading first second bytes ≡ Err Short → Ends (pair_reading first second) bytes
unfolding pair_reading
pair_wants first second P s one two again spelled bytes fit e =
    let front = ends first one bytes fit in
    let longer = bytes ++ front.0 in
    let fits : AreBytes longer = All-append (λ b. b < 2 ^ 8) bytes front.0 fit front.1 in
    elim (ok_or_err (first longer)) [
      | inl (x, at) ↦
          let back = second_ends first second P s two again longer x fits at (spelled longer x.0 x.1 fits at) in
          (front.0 ++ back.0, All-append (λ b. b < 2 ^ 8) front.0 back.0 front.1 back.1, rw (← append_assoc bytes front.0 back.0) back.2)
      | inr (d, at) ↦
          (front.0, front.1, rw at (λ short. let same : d ≡ Short = cc in front.2 (at ∙ ap (λ z. Err z) same)))
    ]
