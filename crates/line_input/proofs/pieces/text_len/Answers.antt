use Rattle.line_input.proofs.Lines.TextOf.{text_without_cr, text_as_it_is}
use Rattle.line_input.proofs.pieces.text_len.Goals as goal

pub returns-then-eq-clause-text : goal.returns-then-eq-clause-text
returns-then-eq-clause-text c = text_without_cr c.args.line.now cc

pub returns-else-eq-clause-text : goal.returns-else-eq-clause-text
returns-else-eq-clause-text c = text_as_it_is c.args.line.now cc
