use Rattle.line_input.proofs.Runs.Returned.{all_at_the_end, in_order, too_long}
use Rattle.line_input.proofs.laws.turns_return_the_lines_in_order.Goals as goal

pub returns-clause-in_order : goal.returns-clause-in_order
returns-clause-in_order g c = in_order g.S.Source.left g.S.Source.faults

pub returns-clause-all_at_the_end : goal.returns-clause-all_at_the_end
returns-clause-all_at_the_end g c = all_at_the_end g.S.Source.left g.S.Source.faults

pub returns-clause-too_long : goal.returns-clause-too_long
returns-clause-too_long g c = too_long g.S.Source.left g.S.Source.faults
