use Rattle.std.proofs.Common.{rules, None, Some}
use Rattle.msg_codec.specs.Control.{round_of, sent_of, run_of}
use Rattle.msg_codec.specs.Letter.{letter_of}
use Rattle.msg_codec.specs.declared.control.Control.TheVariants.{Count, Total}
use Rattle.msg_codec.proofs.Controls.Found.{found_is, none_is}
use Rattle.msg_codec.proofs.control.control_of.Goals as goal

pub returns-then-letter-clause-none : goal.returns-then-letter-clause-none
returns-then-letter-clause-none c = none_is (letter_of c.args.letter) None (search rules)

pub returns-then-letter-eq0-clause-found : goal.returns-then-letter-eq0-clause-found
unfolding round_of sent_of run_of
returns-then-letter-eq0-clause-found c = found_is (letter_of c.args.letter) (Some (Count c.args.letter.from c.number_in-q.result c.number_in-s.result c.number_in-r.result)) c.number_in-q.ensures.bytes (search rules)

pub returns-then-letter-eq0-2-clause-found : goal.returns-then-letter-eq0-2-clause-found
unfolding round_of sent_of run_of
returns-then-letter-eq0-2-clause-found c = found_is (letter_of c.args.letter) (Some (Total c.args.letter.to c.number_in-q.result c.number_in-s.result c.number_in-r.result)) c.number_in-q.ensures.bytes (search rules)
