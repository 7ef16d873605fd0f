-- What the last Count of a round establishes: the wave clause. It needs only that all balances.
use Rattle.std.proofs.Common.{◌≡◌, ℕ, suc, ◌≤◌, ◌<◌, List, [], length, refl, sym, ap, ◌∙◌, subst, inl, inr, arith}
use Rattle.std.proofs.lemmas.Bool.{cases_lt}
use Rattle.std.proofs.lemmas.List.{get_or_past}
use Rattle.list_facts.proofs.Sums.{sum_upto-each_le, sum_upto-equal, sum_upto-same}
use Rattle.world_core.specs.declared.entry.Entry.{Entry}
use Rattle.world_core.specs.Counts.{counts, before_count}
use Rattle.world_core.specs.Pairs.{own_count, run_count}
use Rattle.world_core.specs.Wave.{cut, sent_at, run_at, IsQuiet, IsStill, IsWave}
use Rattle.world_core.specs.World.{Logs, log_of}
use Rattle.world_core.proofs.Counts.BeforeCount.{before_all, before_part, before_next}
use Rattle.world_core.proofs.Pairs.Numbers.{own_of_prefix, run_of_prefix}
use Rattle.world_core.proofs.Pairs.Unchanged.{put_unchanged, taken_unchanged}
use Rattle.world_core.proofs.Wave.Balanced.{IsBalanced, IsSettled, all_own, all_run}

-- Where all that was sent arrived, and no letter was sent or ran since a cut, the cut is quiet.
pub still_is_quiet : (world : Logs) (q : ℕ) → IsSettled world → IsStill world q → IsQuiet world q
still_is_quiet world q settled still s d =
    put_unchanged s d (before_part q (log_of world s)) (still.sent s)
    ∙ sym (settled.got s d)
    ∙ sym (taken_unchanged s d (before_part q (log_of world d)) (still.run d))

-- what holds of each rank and of an empty log holds of each number
past_ranks : (world : Logs) → length world.logs ≡ world.layout.ranks → (P : List Entry → Type 0) → P [] →
    (rank : ℕ) → (rank < world.layout.ranks → P (log_of world rank)) → P (log_of world rank)
past_ranks world all P none rank f = elim (cases_lt rank world.layout.ranks) [
  | inl within ↦ f within
  | inr past ↦ subst P (sym (get_or_past world.logs rank [] (rw all past))) none
]

module _ (world : Logs) (q : ℕ) (all : length world.logs ≡ world.layout.ranks) (balanced : IsBalanced world)
    (none_next : (rank : ℕ) → counts (log_of world rank) ≤ suc q) (agreed : sent_at world q ≡ run_at world q) where
  all_sent : sent_at world (suc q) ≡ all_own world
  all_sent = sum_upto-same _ _ world.layout.ranks (λ r _. ap (own_count r) (before_all (suc q) (log_of world r) (none_next r)))

  run_before : run_at world q ≤ all_run world
  run_before = sum_upto-each_le _ _ world.layout.ranks (λ r _. run_of_prefix r (before_part q (log_of world r)))

  module _ (same : sent_at world q ≡ sent_at world (suc q)) where
    settled : IsSettled world
    settled = balanced.settled (omega (arith, same, agreed, all_sent, run_before, balanced.bounded))

    own_same : (r : ℕ) → r < world.layout.ranks → own_count r (cut world q r) ≡ own_count r (log_of world r)
    own_same = sum_upto-equal _ _ world.layout.ranks (λ r _. own_of_prefix r (before_part q (log_of world r))) (same ∙ all_sent)

    run_same : (r : ℕ) → r < world.layout.ranks → run_count r (cut world q r) ≡ run_count r (log_of world r)
    run_same = sum_upto-equal _ _ world.layout.ranks (λ r _. run_of_prefix r (before_part q (log_of world r)))
        (omega (arith, same, agreed, all_sent, run_before, balanced.bounded))

    still : IsStill world q
    still = record {
      links = settled.links;
      forwarded = settled.forwarded;
      sent = λ r. past_ranks world all (λ log. own_count r log ≡ own_count r (before_count q log)) refl r (λ within. sym (own_same r within));
      run = λ r. past_ranks world all (λ log. run_count r log ≡ run_count r (before_count q log)) refl r (λ within. sym (run_same r within));
    }

  pub established : IsWave world q
  established = record {
    grows = sum_upto-each_le _ _ world.layout.ranks (λ r _. own_of_prefix r (before_next q (log_of world r)));
    quiet = λ same. still_is_quiet world q (settled same) (still same);
    still = λ same _. still same;
  }
