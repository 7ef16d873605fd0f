use Rattle.world_core.proofs.Sound.OnPath.{alone}
use Rattle.world_core.proofs.laws.counts_carry_what_was_sent_and_run.Goals as goal

pub returns : goal.returns
returns c world rank w =
    let sound = w.sound in
    (alone world (record { laid_out = sound.laid_out; all_ranks = sound.all_ranks; agree = sound.agree; honest = sound.honest }) rank).numbered.each
