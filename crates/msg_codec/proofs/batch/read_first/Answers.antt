use Rattle.std.proofs.Common.{◌≡◌, arith, ◌∙◌, ap, refl, take}
use Rattle.msg_codec.specs.Placed.{stated_length}
use Rattle.msg_codec.proofs.Placed.First.{stated_is, first_is}
use Rattle.msg_codec.proofs.batch.read_first.Goals as goal

pub split_at-requires-2 : goal.split_at-requires-2
split_at-requires-2 c =
    let stated : c.from_le_bytes-len.result ≡ stated_length c.args.bytes.now = c.from_le_bytes-len.ensures ∙ stated_is c.args.bytes.now in
    omega (arith, c.split_at.ensures.back_len)

pub invariant_of-result : goal.invariant_of-result
invariant_of-result c =
    let stated : c.from_le_bytes-len.result ≡ stated_length c.args.bytes.now = c.from_le_bytes-len.ensures ∙ stated_is c.args.bytes.now in
    record { short = omega (arith, c.split_at-2.ensures.front_len) }

pub returns : goal.returns
returns c =
    first_is c.args.bytes.now _ _ _ _ _ c.from_le_bytes-to.ensures c.from_le_bytes-from.ensures refl c.from_le_bytes-len.ensures (c.split_at-2.ensures.front ∙ ap (take c.from_le_bytes-len.result) c.split_at.ensures.back)
