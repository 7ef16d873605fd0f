-- Honest logs that agree about each link are modest.
use Rattle.std.proofs.Common.{ℕ, ◌<◌, ◌≤◌, length, arith, le_trans}
use Rattle.list_facts.proofs.Elements.{all_weaker}
use Rattle.list_facts.proofs.Prefix.{prefix_length}
use Rattle.list_facts.proofs.Sums.{sum_upto-le}
use Rattle.world_core.specs.Limits.{most_arrived, most_letters}
use Rattle.world_core.specs.Log.{letters_put}
use Rattle.world_core.specs.Modest.{AreInTurn, IsWorld}
use Rattle.world_core.specs.Pairs.{pair_taken, run_count}
use Rattle.world_core.specs.Sound.{IsOnPath}
use Rattle.world_core.specs.Wave.{AreRounds}
use Rattle.world_core.specs.World.{Logs, log_of, local}
use Rattle.world_core.proofs.Modest.Lawful.{all_lawful}
use Rattle.world_core.proofs.Pairs.Numbers.{pair_within_sent}
use Rattle.world_core.proofs.Sound.AlongPath.{got_prefix}
use Rattle.world_core.proofs.Sound.FromHonest.{is_sound}
use Rattle.world_core.proofs.Sound.OnPath.{Base, alone, carried_taken}
use Rattle.world_core.proofs.Wave.Balanced.{run_by_senders}

module _ (world : Logs) (base : Base world) where
  -- a rank takes no more letters from a sender than that one puts at all
  few_of_sender : (here s : ℕ) → length (pair_taken s here (log_of world here)) ≤ most_letters
  few_of_sender here s =
      let put = pair_within_sent s here (letters_put (log_of world s)) in
      le_trans (prefix_length (got_prefix world base s here)) (le_trans put (alone world base s).few)

  pub few_arrived : (here : ℕ) → run_count here (log_of world here) ≤ most_arrived
  few_arrived here =
      let came : ℕ → ℕ = λ s. length (pair_taken s here (log_of world here)) in
      let most = sum_upto-le came most_letters world.layout.ranks (λ s _. few_of_sender here s) in
      omega (arith, run_by_senders world base here, most, base.laid_out.few_ranks)

  pub is_world : AreRounds world → ((rank : ℕ) → rank < world.layout.ranks → AreInTurn (local world rank)) → IsWorld world
  is_world rounds control = record {
    sound = is_sound world base rounds;
    modest = λ here within. record {
      few = few_arrived here;
      lawful = all_lawful world base here;
      on_path = λ from.
          all_weaker _ (IsOnPath world.layout world.scheme from here) _ (λ l c is. c.crossed is) (carried_taken world base from here);
      control = control here within;
    };
  }
