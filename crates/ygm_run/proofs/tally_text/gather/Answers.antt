use Rattle.std.proofs.Common.{◌++◌, ◌∷◌, [], take, ap, sym, ◌∙◌, append_assoc}
use Rattle.std.proofs.lemmas.List.{map-append}
use Rattle.list_facts.proofs.Steps.{taken_more}
use Rattle.ygm_run.specs.TallyText.{pairs_of}
use Rattle.ygm_run.proofs.tally_text.gather.Goals as goal

pub loop-k-preserved : goal.loop-k-preserved
loop-k-preserved c =
    ap pairs_of c.in_ok-push.ensures.items
    ∙ map-append _ c.loop-k.entries.items (c.entry_here.result ∷ [])
    ∙ ap (λ w. w ++ (c.entry_here.result.0.now, c.entry_here.result.1) ∷ []) c.loop-k.invariant
    ∙ append_assoc (pairs_of c.args.entries.now.items) (take c.loop-k.k c.args.shard.now) ((c.entry_here.result.0.now, c.entry_here.result.1) ∷ [])
    ∙ ap (λ w. pairs_of c.args.entries.now.items ++ w) (sym (taken_more c.args.shard.now c.loop-k.k _ c.entry_here.ensures))
