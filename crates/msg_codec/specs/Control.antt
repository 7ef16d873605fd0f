-- Control letters: what a rank counted in a round, which it sends to rank 0, and the totals of a round, which rank 0 sends to a rank. In
-- the body are the number of the round, the number of letters sent and the number of letters that ran.
use Rattle.std.specs.Prelude.{◌≡◌, ℕ, Bool, true, ◌<◌, ◌^◌, ◌==◌, ◌&&◌, ◌||◌, List, ◌++◌, length, drop, Option, Some, None, if◌then◌else◌}
use Rattle.std.specs.Int.{w64, from_le_bytes}
use Rattle.msg_codec.specs.declared.control.Control.{Control}
use Rattle.msg_codec.specs.declared.control.Control.TheVariants.{Count, Total}
use Rattle.msg_codec.specs.declared.letter.Letter.{Letter}
use Rattle.msg_codec.specs.Spelling.{spelled_number}

-- the three numbers, one after another
unfoldable pub spelled_counts : ℕ → ℕ → ℕ → List ℕ
spelled_counts q s r = spelled_number q ++ spelled_number s ++ spelled_number r

-- a letter with these three numbers in its body
abbrev pub letter_with : ℕ → ℕ → ℕ → ℕ → ℕ → ℕ → Letter
letter_with to from tag q s r = record { to = to; from = from; tag = tag; body = spelled_counts q s r }

-- the letter that a control is sent as: to, from and tag, and then the numbers
abbrev pub letter_of_control : Control → Letter
letter_of_control (Count rank q s r) = letter_with 0 rank 240 q s r
letter_of_control (Total to q s r) = letter_with to 0 241 q s r

-- by its tag and the length of its body, whatever its sender and destination
abbrev pub is_count : Letter → Bool
is_count l = (l.tag == 240) && (length l.body == 24)

abbrev pub is_total : Letter → Bool
is_total l = (l.tag == 241) && (length l.body == 24)

abbrev pub is_control : Letter → Bool
is_control l = is_count l || is_total l

-- the three numbers in the body
unfoldable pub round_of : Letter → ℕ
round_of l = from_le_bytes w64 l.body

unfoldable pub sent_of : Letter → ℕ
sent_of l = from_le_bytes w64 (drop 8 l.body)

unfoldable pub run_of : Letter → ℕ
run_of l = from_le_bytes w64 (drop 16 l.body)

-- the control that is sent as this letter, if there is one
abbrev pub control_of_letter : Letter → Option Control
control_of_letter l =
    if is_count l && (l.to == 0) then Some (Count l.from (round_of l) (sent_of l) (run_of l))
    else if is_total l && (l.from == 0) then Some (Total l.to (round_of l) (sent_of l) (run_of l))
    else None

-- the letter is a Count from the rank to rank 0, with these numbers
pub record IsCountFrom (rank q s r : ℕ) (l : Letter) : Type 0 where
  pub count : is_count l ≡ true
  pub from : l.from ≡ rank
  pub to : l.to ≡ 0
  pub round : round_of l ≡ q
  pub sent : sent_of l ≡ s
  pub run : run_of l ≡ r

-- the letter is a Total from rank 0 to the rank, with these numbers
pub record IsTotalTo (rank q s r : ℕ) (l : Letter) : Type 0 where
  pub total : is_total l ≡ true
  pub from : l.from ≡ 0
  pub to : l.to ≡ rank
  pub round : round_of l ≡ q
  pub sent : sent_of l ≡ s
  pub run : run_of l ≡ r

-- each number fits its type
pub record CountsFit (q s r : ℕ) : Type 0 where
  pub round_fits : q < 2 ^ 64
  pub sent_fits : s < 2 ^ 64
  pub run_fits : r < 2 ^ 64

abbrev pub ControlFits : Control → Type 0
ControlFits (Count rank q s r) = (rank < 2 ^ 32) × CountsFit q s r
ControlFits (Total to q s r) = (to < 2 ^ 32) × CountsFit q s r
