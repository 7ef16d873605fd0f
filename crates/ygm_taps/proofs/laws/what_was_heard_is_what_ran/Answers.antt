use Rattle.ygm_taps.proofs.Heard.EachLetter.{heard_more, heard_nothing}
use Rattle.ygm_taps.proofs.laws.what_was_heard_is_what_ran.Goals as goal
use Rattle.std.proofs.Common.{[]}

pub returns-clause-kept : goal.returns-clause-kept
returns-clause-kept c = heard_more []

pub returns-clause-nothing : goal.returns-clause-nothing
returns-clause-nothing c = heard_nothing
