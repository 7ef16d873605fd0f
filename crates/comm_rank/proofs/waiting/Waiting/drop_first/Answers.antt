use Rattle.std.proofs.Common.{◌∙◌, ap, sym, drop}
use Rattle.std.proofs.lemmas.List.{drop-drop}
use Rattle.comm_rank.proofs.waiting.Waiting.drop_first.Goals as goal

pub returns : goal.returns
returns c = sym (drop-drop 1 c.self.inside.done c.self.inside.batch) ∙ ap (drop 1) c.self.view_is
