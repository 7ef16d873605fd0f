use Rattle.std.proofs.Common.{◌∙◌, ap, List, ℕ, ◌++◌}
use Rattle.msg_codec.specs.Letter.{letter_of}
use Rattle.msg_codec.proofs.Placed.Pushed.{appended}
use Rattle.msg_codec.proofs.encoding.append.Goals as goal

pub returns-clause-ok : goal.returns-clause-ok
returns-clause-ok c = record {
  bytes = appended _ _ _ _ (letter_of c.args.letter.now) c.header_of.ensures.header (c.in_ok-extend_from_slice.ensures.items ∙ ap (λ (x : List ℕ). x ++ c.header_of.result) c.in_ok-reserve.ensures.items) c.in_ok-extend_from_slice-2.ensures.items;
  fits = c.header_of.ensures.fits;
}
