-- What holds of the rounds of a world holds of a fresh one, and is kept by an honest put and by a take of the next batch.
use Rattle.std.proofs.Common.{◌≡◌, ℕ, suc, ◌<◌, Some, slice_get, List, [], length, ap, ◌∙◌, arith}
use Rattle.msg_codec.specs.declared.letter.Letter.{Letter}
use Rattle.world_core.specs.declared.entry.Entry.TheVariants.{Put, Took}
use Rattle.world_core.specs.Counts.{before_count, counts}
use Rattle.world_core.specs.Log.{batches_put, batches_taken}
use Rattle.world_core.specs.Pairs.{own_count}
use Rattle.world_core.specs.World.{Logs, gaining, local, log_of}
use Rattle.world_core.proofs.Counts.TrueCounts.{numbered_put, numbered_took}
use Rattle.world_core.proofs.Deeds.Unbroken.{Unbroken, sender_within}
use Rattle.world_core.proofs.Sound.OnPath.{Base, alone}
use Rattle.world_core.proofs.Wave.Balanced.{balanced}
use Rattle.world_core.proofs.Wave.Kept.{Core, core_kept}
use Rattle.world_core.proofs.Wave.NoData.{put_no_data, take_no_data}
use Rattle.world_core.proofs.Wave.Told.{frozen}
use Rattle.world_core.proofs.Wave.TrueTotals.{totals_true}
use Rattle.world_core.proofs.Worlds.Link.{log_same}

pub put_core : (world : Logs) (from to : ℕ) (letters : List Letter) → Core world → Unbroken (local world from) to letters →
    Base (gaining world from (Put to letters)) → Core (gaining world from (Put to letters))
put_core world from to letters core ok base =
    let within : from < world.layout.ranks = sender_within (local world from) to letters ok.ranks in
    let inside : from < length world.logs = rw core.all within in
    core_kept world from (Put to letters) within core base.agree
    (numbered_put (local world from) to (core.numbered from) letters ok)
    (totals_true world core.agree core.numbered from to letters ok)
    (balanced (gaining world from (Put to letters)) base)
    (λ q still lacks own. put_no_data (local world from) to q (frozen world core.agree core.totals core.numbered q still lacks from) letters ok
    (own ∙ ap (λ log. own_count from (before_count (suc q) log)) (log_same world from (Put to letters) inside)))

pub take_core : (world : Logs) (from to : ℕ) (letters : List Letter) → Core world → to < world.layout.ranks →
    slice_get (batches_put to (log_of world from)) (length (batches_taken from (log_of world to))) ≡ Some letters →
    Base (gaining world to (Took from letters)) → Core (gaining world to (Took from letters))
take_core world from to letters core within next base =
    core_kept world to (Took from letters) within core base.agree
    (numbered_took (local world to) from letters (core.numbered to))
    tt
    (balanced (gaining world to (Took from letters)) base)
    (λ q still lacks own. take_no_data from (batches_taken from (log_of world to)) (batches_put to (log_of world from)) letters
    (core.agree from to) next (still.links from to))

-- where no rank put a Count, no round is complete
pub fresh_core : (world : Logs) → Base world → ((rank : ℕ) → log_of world rank ≡ []) → Core world
fresh_core world base none = record {
  all = base.all_ranks;
  agree = base.agree;
  numbered = λ rank. (alone world base rank).numbered;
  totals = λ rank. rw (none rank) tt;
  waves = λ q complete _. absurd (omega (arith, complete 0 base.laid_out.some_rank, ap counts (none 0)));
}
