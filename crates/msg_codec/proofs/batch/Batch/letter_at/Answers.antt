use Rattle.std.proofs.Common.{◌∙◌, ap, drop, ◌≡◌}
use Rattle.msg_codec.specs.Letter.{letter_of}
use Rattle.msg_codec.specs.Placed.{first_letter}
use Rattle.msg_codec.proofs.Placed.Held.{found, held, start_is}
use Rattle.msg_codec.proofs.batch.Batch.letter_at.Goals as goal

pub read_at-requires : goal.read_at-requires
read_at-requires c =
    let start = start_is _ _ _ c.args.k _ c.self.invariant c.self.view_is c.requires (rw c.deref.ensures.value at c.start_at-start.ensures) in
    rw c.as_slice.ensures (held _ _ _ c.args.k _ c.self.invariant c.self.view_is c.requires start)

pub returns : goal.returns
returns c =
    let start = start_is _ _ _ c.args.k _ c.self.invariant c.self.view_is c.requires (rw c.deref.ensures.value at c.start_at-start.ensures) in
    let read : letter_of c.read_at.result ≡ first_letter (drop c.start_at-start.result c.self.inside.bytes) = c.read_at.ensures ∙ ap (λ b. first_letter (drop c.start_at-start.result b)) c.as_slice.ensures in
    rw read (found _ _ _ c.args.k _ c.self.view_is c.requires start)
