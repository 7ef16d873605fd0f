-- An encoded item is decoded again.
use Rattle.std.proofs.Common.{◌≡◌, ℕ, ◌+◌, ◌≤◌, true, Some, List, [], length, Ok, sym, ap, ◌∙◌, arith, le-leb}
use Rattle.std.specs.Prelude.{nat_le}
use Rattle.std.proofs.lemmas.List.{append-nil}
use Rattle.msg_codec.specs.Laws.{body_again, whole_again}
use Rattle.msg_codec.specs.Reading.{body_reading}
use Rattle.msg_codec.specs.Spelling.{spelled_body}
use Rattle.owner_send.specs.Item.{item_of, max_read}

pub item_again : (item : List ℕ) → length item + 4 ≤ max_read → item_of (spelled_body item) ≡ Some item
unfolding item_of
item_again item short =
    let bytes = spelled_body item in
    let few : nat_le (length bytes) max_read ≡ true = le-leb _ _ (omega (arith, short)) in
    let read : body_reading bytes ≡ Ok (item, length bytes) = ap body_reading (sym (append-nil bytes)) ∙ body_again item [] (omega (arith, short)) in
    rw few (whole_again body_reading bytes item read)
