-- What worlds give: quiet cuts, prefixes, and letters from ranks of the world.
use Rattle.std.proofs.Common.{ℕ, ◌<◌, ltb-true, length, sym, ap, ◌∙◌}
use Rattle.std.specs.List.{AllByRecursion}
use Rattle.list_facts.proofs.Elements.{all_weaker}
use Rattle.list_facts.proofs.Prefix.{prefix_is_take}
use Rattle.list_facts.proofs.Sublist.{sublist_all, sublist_filter}
use Rattle.world_core.specs.Counts.{before_count}
use Rattle.world_core.specs.Local.{Local}
use Rattle.world_core.specs.Log.{letters_taken}
use Rattle.world_core.specs.Modest.{IsModest}
use Rattle.world_core.specs.Pairs.{arrived, pair_put, pair_taken}
use Rattle.world_core.specs.Sound.{IsSound}
use Rattle.world_core.specs.Wave.{IsQuiet}
use Rattle.world_core.specs.World.{Logs, log_of}
use Rattle.world_core.proofs.Counts.BeforeCount.{before_part}
use Rattle.world_core.proofs.Modest.Lawful.{IsLawfulLetter, lawful_letters}
use Rattle.term_barrier.specs.Cuts.{IsQuietCut}
use Rattle.term_barrier.specs.Passed.{TookPrefixes}

-- the cut at a round, by the places of its Counts
pub quiet_round : (world : Logs) (q : ℕ) → IsQuiet world q →
    IsQuietCut world.layout.ranks (log_of world) (λ rank. length (before_count q (log_of world rank)))
quiet_round world q quiet from to f t =
    ap (pair_put from to) (sym (prefix_is_take (before_part q (log_of world from))))
    ∙ quiet from to
    ∙ ap (pair_taken from to) (prefix_is_take (before_part q (log_of world to)))

pub took_prefixes : (world : Logs) → IsSound world → TookPrefixes (log_of world)
took_prefixes world sound = sound.got

pub from_ranks : (me : Local) → IsModest me → AllByRecursion (λ l. l.from < me.layout.ranks) (arrived me.here me.log)
from_ranks me modest =
    sublist_all (λ l. l.from < me.layout.ranks) (sublist_filter _ (letters_taken me.log))
    (all_weaker (IsLawfulLetter me) (λ l. l.from < me.layout.ranks) (letters_taken me.log) (λ l lawful. ltb-true l.from me.layout.ranks lawful.sender)
    (lawful_letters me modest.lawful))
