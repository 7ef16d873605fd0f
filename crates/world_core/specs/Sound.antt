-- When the logs of a world are sound.
use Rattle.std.specs.Prelude.{◌≡◌, ℕ, ◌<◌, IsTrue, length}
use Rattle.std.specs.List.{AllByRecursion}
use Rattle.list_facts.specs.Prefix.{IsPrefix}
use Rattle.msg_codec.specs.declared.letter.Letter.{Letter}
use Rattle.ygm_route.specs.declared.scheme.Scheme.{Scheme}
use Rattle.ygm_route.specs.Layout.{Shape, IsLayout}
use Rattle.ygm_route.specs.Path.{crosses, path}
use Rattle.world_core.specs.Local.{is_between}
use Rattle.world_core.specs.Log.{batches_put, batches_taken, letters_of}
use Rattle.world_core.specs.Pairs.{is_data, pair_put, pair_taken}
use Rattle.world_core.specs.Rules.{IsHonest}
use Rattle.world_core.specs.Wave.{AreRounds}
use Rattle.world_core.specs.World.{Logs, log_of, local}

-- what each rank took from each is a prefix of what that one put to it, batch by batch
abbrev pub LinksAgree : Logs → Type 0
LinksAgree world = (from to : ℕ) → IsPrefix (batches_taken from (log_of world to)) (batches_put to (log_of world from))

-- a data letter is on its path where it crosses a link
abbrev pub IsOnPath : Shape → Scheme → ℕ → ℕ → Letter → Type 0
IsOnPath layout scheme a b l = IsTrue (is_data l) → IsTrue (crosses (path layout scheme l.from l.to) a b)

-- The logs are honest and agree about each link. Of each pair of ranks, what arrived is a prefix of what the sender
-- put. What each rank between them put is a prefix of what it took. The letters of the pair are put and taken on the
-- links of their path alone. The rounds say what is so.
pub record IsSound (world : Logs) : Type 0 where
  pub laid_out : IsLayout world.layout
  pub all_ranks : length world.logs ≡ world.layout.ranks
  pub agree : LinksAgree world
  pub honest : (rank : ℕ) → rank < world.layout.ranks → IsHonest (local world rank)
  pub got : (from to : ℕ) → IsPrefix (pair_taken from to (log_of world to)) (pair_put from to (log_of world from))
  pub forwarded : (from to rank : ℕ) → IsTrue (is_between world.layout world.scheme from to rank) →
      IsPrefix (pair_put from to (log_of world rank)) (pair_taken from to (log_of world rank))
  pub put_on_path : (a b : ℕ) → AllByRecursion (IsOnPath world.layout world.scheme a b) (letters_of (batches_put b (log_of world a)))
  pub taken_on_path : (a b : ℕ) → AllByRecursion (IsOnPath world.layout world.scheme a b) (letters_of (batches_taken a (log_of world b)))
  pub rounds : AreRounds world
