-- What is found where an item and its count are looked for in all of the bytes.
use Rattle.std.proofs.Common.{◌≡◌, ◌≢◌, ℕ, ◌^◌, ◌<◌, ◌≤◌, List, length, Option, Some, None, Bor, sym, ap, ◌∙◌}
use Rattle.std.specs.Prelude.{IfSome, IfNone}
use Rattle.std.specs.Option.{option_map}
use Rattle.std.proofs.lemmas.Option.{none-some}
use Rattle.msg_codec.specs.Bytes.{AreBytes}
use Rattle.msg_codec.specs.Limits.{max_body}
use Rattle.counting_set.specs.ItemCount.{item_count_of, spelled_item_count}
use Rattle.counting_set.proofs.ItemCount.Again.{item_count_again, item_count_spelled}

abbrev pub seen : Option (Bor (List ℕ) × ℕ) → Option (List ℕ × ℕ)
seen o = option_map (λ found. (found.0.now, found.1)) o

pub found_is : (o : Option (Bor (List ℕ) × ℕ)) (bytes : List ℕ) → AreBytes bytes → seen o ≡ item_count_of bytes → IfSome o (λ found. bytes ≡ spelled_item_count found.0.now found.1)
found_is None bytes fit e = tt
found_is (Some found) bytes fit e = (item_count_spelled bytes found.0.now found.1 fit (sym e)).2

pub short_is : (o : Option (Bor (List ℕ) × ℕ)) (bytes : List ℕ) → AreBytes bytes → seen o ≡ item_count_of bytes → IfSome o (λ found. length found.0.now ≤ max_body)
short_is None bytes fit e = tt
short_is (Some found) bytes fit e = (item_count_spelled bytes found.0.now found.1 fit (sym e)).0

pub none_is : (o : Option (Bor (List ℕ) × ℕ)) (bytes : List ℕ) → seen o ≡ item_count_of bytes
    → IfNone o ((item : List ℕ) (count : ℕ) → length item ≤ max_body → count < 2 ^ 64 → bytes ≢ spelled_item_count item count)
none_is None bytes e = λ item count short lt same. none-some (item, count) (e ∙ ap item_count_of same ∙ item_count_again item count short lt)
none_is (Some found) bytes e = tt
