use Rattle.std.proofs.Common.{◌∙◌}
use Rattle.msg_codec.specs.Control.{letter_of_control}
use Rattle.msg_codec.proofs.Placed.Pushed.{one_put}
use Rattle.msg_codec.proofs.batch.Batch.of_control.Goals as goal

pub invariant_of-result : goal.invariant_of-result
invariant_of-result c =
    let put = one_put _ _ (letter_of_control c.args.control) c.new.ensures.items (c.in_place.ensures ∙ c.encoded.ensures.bytes) c.encoded.ensures.fits in
    put.whole

pub returns : goal.returns
returns c =
    let put = one_put _ _ (letter_of_control c.args.control) c.new.ensures.items (c.in_place.ensures ∙ c.encoded.ensures.bytes) c.encoded.ensures.fits in
    put.letters
