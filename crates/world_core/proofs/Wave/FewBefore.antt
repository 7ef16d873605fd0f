-- Few letters were sent and run before a cut of a sound world.
use Rattle.std.proofs.Common.{◌≡◌, ℕ, ◌<◌, ◌≤◌, List, ap, ◌∙◌, le_trans, arith}
use Rattle.world_core.specs.declared.entry.Entry.{Entry}
use Rattle.world_core.specs.Counts.{before_count}
use Rattle.world_core.specs.Limits.{most_arrived}
use Rattle.world_core.specs.Modest.{IsWorld}
use Rattle.world_core.specs.Pairs.{own_count, run_count}
use Rattle.world_core.specs.Wave.{cut}
use Rattle.world_core.specs.World.{Logs, log_of}
use Rattle.world_core.proofs.Counts.BeforeCount.{before_part}
use Rattle.world_core.proofs.Modest.FewSent.{few_own}
use Rattle.world_core.proofs.Pairs.Numbers.{own_of_prefix, run_of_prefix}

-- what a rank sent and ran before its Count, as it is read from its log
pub record ReadBefore (world : Logs) (rank q sent run : ℕ) : Type 0 where
  pub sent_is : sent ≡ own_count rank (cut world q rank)
  pub run_is : run ≡ run_count rank (cut world q rank)
  pub few_sent : sent ≤ most_arrived
  pub few_run : run ≤ most_arrived

pub read_before : (world : Logs) → IsWorld world → (rank q sent run : ℕ) (log : List Entry) → rank < world.layout.ranks → log ≡ log_of world rank →
    sent ≡ own_count rank (before_count q log) → run ≡ run_count rank (before_count q log) → ReadBefore world rank q sent run
read_before world w rank q sent run log within is s r =
    let part = before_part q (log_of world rank) in
    let sent_is : sent ≡ own_count rank (cut world q rank) = s ∙ ap (λ l. own_count rank (before_count q l)) is in
    let run_is : run ≡ run_count rank (cut world q rank) = r ∙ ap (λ l. run_count rank (before_count q l)) is in
    record {
      sent_is = sent_is;
      run_is = run_is;
      few_sent = (let few = le_trans (own_of_prefix rank part) (few_own world w rank) in omega (arith, sent_is, few));
      few_run = (let few = le_trans (run_of_prefix rank part) (w.modest rank within).few in omega (arith, run_is, few));
    }
