-- An encoded item and count are decoded again, and what is decoded was encoded so.
use Rattle.std.proofs.Common.{◌≡◌, ℕ, ◌^◌, ◌<◌, ◌≤◌, Some, List, [], ◌++◌, length, Ok, sym, ap, ◌∙◌}
use Rattle.std.proofs.Math.Seq.{take-length}
use Rattle.std.proofs.lemmas.List.{append-nil}
use Rattle.std.proofs.lemmas.Option.{same_Some}
use Rattle.msg_codec.specs.Bytes.{AreBytes}
use Rattle.msg_codec.specs.Laws.{body_again, body_spelled, number_again, number_spelled, pair_again, pair_spelled, whole_again, whole_is}
use Rattle.msg_codec.specs.Limits.{max_body}
use Rattle.msg_codec.specs.Reading.{body_reading, number_reading, pair_reading}
use Rattle.msg_codec.specs.Spelling.{spelled_body, spelled_number}
use Rattle.counting_set.specs.ItemCount.{item_count_of, spelled_item_count}

pub item_count_again : (item : List ℕ) (count : ℕ) → length item ≤ max_body → count < 2 ^ 64 → item_count_of (spelled_item_count item count) ≡ Some (item, count)
unfolding item_count_of
item_count_again item count short lt =
    let bytes = spelled_item_count item count in
    let one = pair_again body_reading number_reading item count (spelled_body item) (spelled_number count) [] (body_again item (spelled_number count ++ []) short) (number_again count [] lt) in
    let read : pair_reading body_reading number_reading bytes ≡ Ok ((item, count), length bytes) = ap (pair_reading body_reading number_reading) (sym (append-nil bytes)) ∙ one in
    whole_again (pair_reading body_reading number_reading) bytes (item, count) read

pub item_count_spelled : (bytes item : List ℕ) (count : ℕ) → AreBytes bytes → item_count_of bytes ≡ Some (item, count) → (length item ≤ max_body) × (count < 2 ^ 64) × (bytes ≡ spelled_item_count item count)
unfolding item_count_of
item_count_spelled bytes item count fit e =
    let read = whole_is (pair_reading body_reading number_reading) bytes (item, count) e in
    let p = pair_spelled body_reading number_reading (λ body. (length body ≤ max_body) × AreBytes body) (λ n. n < 2 ^ 64) spelled_body spelled_number body_spelled number_spelled bytes (item, count) (length bytes) fit read in
    (p.0.0.0, p.0.1, sym (take-length bytes) ∙ p.1)

-- different items or counts have different encodings
pub item_count_is : (item other : List ℕ) (count number : ℕ) → length item ≤ max_body → length other ≤ max_body → count < 2 ^ 64 → number < 2 ^ 64
    → spelled_item_count item count ≡ spelled_item_count other number → (item ≡ other) × (count ≡ number)
item_count_is item other count number p q r s e =
    let same = same_Some (item, count) (other, number) (sym (item_count_again item count p r) ∙ ap item_count_of e ∙ item_count_again other number q s) in
    (ap (λ (pair : List ℕ × ℕ). pair.0) same, ap (λ (pair : List ℕ × ℕ). pair.1) same)
