-- The three numbers in the body of a control letter.
use Rattle.std.proofs.Common.{◌≡◌, ℕ, zero, suc, ◌+◌, ◌/◌, ◌%◌, ◌≤◌, ◌<◌, ◌^◌, List, ◌++◌, length, take, drop, Ok, refl, sym, ap, ◌∙◌, arith, length-drop}
use Rattle.std.specs.Int.{w64, from_le_bytes, byte_at, bytes_low_first}
use Rattle.std.proofs.lemmas.Bool.{le-ltb}
use Rattle.std.proofs.lemmas.List.{drop-drop, take_all}
use Rattle.std.proofs.lemmas.List.Elements.{All-nil, All-cons, All-append, All-drop}
use Rattle.std.proofs.lemmas.Nat.{from_le_bytes-to_le_bytes_8}
use Rattle.std.proofs.Math.Seq.{take-add}
use Rattle.msg_codec.specs.Bytes.{AreBytes}
use Rattle.msg_codec.specs.Control.{spelled_counts, letter_with, round_of, sent_of, run_of, CountsFit}
use Rattle.msg_codec.specs.Laws.{number_spelled}
use Rattle.msg_codec.specs.Limits.{max_body}
use Rattle.msg_codec.specs.Placed.{Fits}
use Rattle.msg_codec.specs.Reading.{number_reading}
use Rattle.msg_codec.specs.Spelling.{spelled_number}
use Rattle.msg_codec.specs.declared.letter.Letter.{Letter}

-- what was put is read again

pub round_again : (to from tag q s r : ℕ) → q < 2 ^ 64 → round_of (letter_with to from tag q s r) ≡ q
unfolding round_of spelled_counts
round_again to from tag q s r fits = from_le_bytes-to_le_bytes_8 q fits

pub sent_again : (to from tag q s r : ℕ) → s < 2 ^ 64 → sent_of (letter_with to from tag q s r) ≡ s
unfolding sent_of spelled_counts
sent_again to from tag q s r fits = from_le_bytes-to_le_bytes_8 s fits

pub run_again : (to from tag q s r : ℕ) → r < 2 ^ 64 → run_of (letter_with to from tag q s r) ≡ r
unfolding run_of spelled_counts
run_again to from tag q s r fits = from_le_bytes-to_le_bytes_8 r fits

-- what is read was put so

number_read : (bytes : List ℕ) → 8 ≤ length bytes → number_reading bytes ≡ Ok (from_le_bytes w64 bytes, 8)
unfolding number_reading
number_read bytes long = rw (le-ltb _ _ long) refl

number_is : (bytes : List ℕ) → AreBytes bytes → 8 ≤ length bytes → (from_le_bytes w64 bytes < 2 ^ 64) × (take 8 bytes ≡ spelled_number (from_le_bytes w64 bytes))
number_is bytes fit long = let is = number_spelled bytes (from_le_bytes w64 bytes) 8 fit (number_read bytes long) in (is.0, is.1)

number_at : (body : List ℕ) (place : ℕ) → AreBytes body → place + 8 ≤ length body → (from_le_bytes w64 (drop place body) < 2 ^ 64) × (take 8 (drop place body) ≡ spelled_number (from_le_bytes w64 (drop place body)))
number_at body place fit long = number_is (drop place body) (All-drop (λ b. b < 2 ^ 8) place body fit) (omega (arith, length-drop place body))

same_parts : (a b c x y z : List ℕ) → a ≡ x → b ≡ y → c ≡ z → a ++ (b ++ c) ≡ x ++ (y ++ z)
same_parts a b c x y z p q r = rw (p, q, r) refl

pub body_is : (l : Letter) → AreBytes l.body → length l.body ≡ 24 → l.body ≡ spelled_counts (round_of l) (sent_of l) (run_of l)
unfolding spelled_counts round_of sent_of run_of
body_is l fit size =
    let body = l.body in
    let first = number_at body 0 fit (omega (arith, size)) in
    let second = number_at body 8 fit (omega (arith, size)) in
    let third = number_at body 16 fit (omega (arith, size)) in
    let back : take 16 (drop 8 body) ≡ take 8 (drop 8 body) ++ take 8 (drop 16 body) = take-add 8 8 (drop 8 body) ∙ ap (λ (x : List ℕ). take 8 (drop 8 body) ++ take 8 x) (drop-drop 8 8 body) in
    let parts : take 24 body ≡ take 8 body ++ (take 8 (drop 8 body) ++ take 8 (drop 16 body)) = take-add 8 16 body ∙ ap (λ (x : List ℕ). take 8 body ++ x) back in
    sym (take_all 24 body (omega (arith, size))) ∙ parts ∙ same_parts _ _ _ _ _ _ first.1 second.1 third.1

pub counts_fit : (l : Letter) → AreBytes l.body → length l.body ≡ 24 → CountsFit (round_of l) (sent_of l) (run_of l)
unfolding round_of sent_of run_of
counts_fit l fit size = record {
  round_fits = (number_at l.body 0 fit (omega (arith, size))).0;
  sent_fits = (number_at l.body 8 fit (omega (arith, size))).0;
  run_fits = (number_at l.body 16 fit (omega (arith, size))).0;
}

-- what is put fits

low_byte : (n : ℕ) → n % 256 < 2 ^ 8
low_byte n = omega arith

byte_fits : (i n : ℕ) → byte_at i n < 2 ^ 8
byte_fits zero n = low_byte n
byte_fits (suc i) n = low_byte (n / 256 ^ suc i)

bytes_fit : (i k n : ℕ) → AreBytes (bytes_low_first i k n)
bytes_fit i zero n = All-nil (λ b. b < 2 ^ 8)
bytes_fit i (suc k) n = All-cons (λ b. b < 2 ^ 8) (byte_at i n) (bytes_low_first (suc i) k n) (byte_fits i n) (bytes_fit (suc i) k n)

counts_are_bytes : (q s r : ℕ) → AreBytes (spelled_counts q s r)
unfolding spelled_counts
counts_are_bytes q s r =
    All-append (λ b. b < 2 ^ 8) (spelled_number q) (spelled_number s ++ spelled_number r) (bytes_fit 0 8 q)
    (All-append (λ b. b < 2 ^ 8) (spelled_number s) (spelled_number r) (bytes_fit 0 8 s) (bytes_fit 0 8 r))

counts_short : (q s r : ℕ) → length (spelled_counts q s r) ≤ max_body
unfolding spelled_counts
counts_short q s r = omega arith

pub letter_fits : (to from tag q s r : ℕ) → to < 2 ^ 32 → from < 2 ^ 32 → tag < 2 ^ 8 → Fits (letter_with to from tag q s r)
letter_fits to from tag q s r a b c = record { to_fits = a; from_fits = b; tag_fits = c; body_short = counts_short q s r; bytes_fit = counts_are_bytes q s r }
