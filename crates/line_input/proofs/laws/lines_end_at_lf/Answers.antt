use Rattle.line_input.proofs.Lines.RawLines.{raw_lines-at_end, raw_lines-at_lf}
use Rattle.line_input.proofs.laws.lines_end_at_lf.Goals as goal

pub returns-clause-at_lf : goal.returns-clause-at_lf
returns-clause-at_lf c = raw_lines-at_lf

pub returns-clause-at_end : goal.returns-clause-at_end
returns-clause-at_end c = raw_lines-at_end
