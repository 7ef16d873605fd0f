use Rattle.std.proofs.Common.{ap, ◌∙◌}
use Rattle.std.proofs.lemmas.Iterator.{items_from_collect}
use Rattle.std.proofs.lemmas.Iterator.Adapters.{YieldsList-from_skip, YieldsList-from_vec}
use Rattle.std.specs.Vec.Iter.{into_iter_items, into_iter_len}
use Rattle.ygm_run.proofs.behind_name.Goals as goal

pub returns : goal.returns
returns c =
    let words = YieldsList-from_vec (into_iter_items c.args.args) (ap into_iter_items c.skip.ensures.source) (ap into_iter_len c.skip.ensures.source ∙ c.args.args.rest.ok.0) in
    items_from_collect _ c.collect.ensures.ran (YieldsList-from_skip 1 words c.skip.ensures.count)
