use Rattle.line_input.proofs.Lines.FirstTooLong.{first_of_number, none_of_short, number_of_first, short_of_none}
use Rattle.line_input.proofs.laws.the_first_line_that_is_too_long.Goals as goal

pub returns-clause-number : goal.returns-clause-number
returns-clause-number c = λ raws number. (first_of_number raws number, number_of_first raws number)

pub returns-clause-no_number : goal.returns-clause-no_number
returns-clause-no_number c = λ raws. (short_of_none raws, none_of_short raws)
