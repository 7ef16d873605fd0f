use Rattle.msg_codec.proofs.Spelling.Apart.{lists_are}
use Rattle.msg_codec.proofs.laws.no_two_lists_are_spelled_alike.Goals as goal

pub returns : goal.returns
returns c = lists_are
