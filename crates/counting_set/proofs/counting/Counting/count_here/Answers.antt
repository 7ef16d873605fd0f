use Rattle.std.proofs.Common.{ap, ◌∙◌}
use Rattle.std.specs.Prelude.{unwrap_or}
use Rattle.counting_set.specs.Counting.{count_in}
use Rattle.counting_set.proofs.Counts.Map.{count_in-lookup}
use Rattle.counting_set.proofs.counting.Counting.count_here.Goals as goal

pub returns : goal.returns
returns c =
    c.unwrap_or.ensures
    ∙ ap (λ o. unwrap_or o 0) (c.copied.ensures ∙ c.get.ensures.value)
    ∙ count_in-lookup (λ k. k.items) c.args.item.now c.self.inside.counts.entries
    ∙ ap (λ es. count_in es c.args.item.now) c.self.view_is
