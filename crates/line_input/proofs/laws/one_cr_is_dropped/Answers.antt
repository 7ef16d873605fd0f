use Rattle.std.proofs.Common.{◌++◌, ◌∷◌, [], ap, cond, ◌∙◌}
use Rattle.std.proofs.lemmas.Bool.{ne_eqb}
use Rattle.line_input.proofs.Lines.TextOf.{text_of-push}
use Rattle.line_input.proofs.laws.one_cr_is_dropped.Goals as goal

pub returns-clause-cr : goal.returns-clause-cr
returns-clause-cr c = λ line. text_of-push line 13

pub returns-clause-other : goal.returns-clause-other
returns-clause-other c = λ line last other. text_of-push line last ∙ ap (λ b. cond b line (line ++ last ∷ [])) (ne_eqb last 13 other)
