-- What a rank may rely on about its own log, whatever the other ranks do.
use Rattle.std.specs.Prelude.{◌≡◌, ℕ, suc, ◌≤◌, ◌<◌, Bool, false, not, ◌&&◌, ◌||◌, nat_lt, Some, None, List, [], ◌∷◌, take, slice_get}
use Rattle.std.specs.List.{AllByRecursion, filter, list_any}
use Rattle.msg_codec.specs.Control.{is_count, is_total, round_of}
use Rattle.msg_codec.specs.declared.letter.Letter.{Letter}
use Rattle.world_core.specs.declared.entry.Entry.{Entry}
use Rattle.world_core.specs.declared.entry.Entry.TheVariants.{Put, Took}
use Rattle.world_core.specs.declared.why.Why.TheVariants.{NoSuchRank, BadTag, MixedControl, WrongControl}
use Rattle.world_core.specs.ControlRules.{run_taken, sent_taken, wrong_control}
use Rattle.world_core.specs.Counts.{counts, totals}
use Rattle.world_core.specs.Limits.{most_arrived}
use Rattle.world_core.specs.Local.{Local, local_rank}
use Rattle.world_core.specs.Log.{batches_taken, letters_of}
use Rattle.world_core.specs.Pairs.{run_count}
use Rattle.world_core.specs.Rules.{Rule, rule, first_broken_of, no_such_rank, some_letter, bad_tag, mixed_control}
use Rattle.world_core.specs.Rules.Deed.{Puts}
use Rattle.world_core.specs.Sound.{IsOnPath, IsSound}
use Rattle.world_core.specs.World.{Logs, local}

-- ---- the letters of a batch

-- These rules hold of what is put whatever the log of the sender is.
abbrev pub lasting_rules : List Rule
lasting_rules =
    rule NoSuchRank no_such_rank ∷
    rule BadTag (some_letter bad_tag) ∷
    rule MixedControl mixed_control ∷
    rule WrongControl (some_letter wrong_control) ∷
    []

-- what an entry took breaks none of them, as a put of the rank that it came from
abbrev pub IsLawful : Local → Entry → Type 0
IsLawful me (Put to letters) = Unit {0}
IsLawful me (Took from letters) = first_broken_of lasting_rules (local_rank me.layout me.scheme from []) (Puts me.here letters) ≡ None

-- ---- control letters

-- letters of the rounds n, n + 1 and so on
abbrev pub AreNumbered : ℕ → List Letter → Type 0
AreNumbered n [] = Unit {0}
AreNumbered n (l ∷ letters) = (round_of l ≡ n) × AreNumbered (suc n) letters

-- A Count comes too soon where its rank wasn't sent the Total of the round before. A Total comes too soon where this rank
-- didn't put its own Count of that round. Each are put in the order of their rounds, so their numbers say which are there.
abbrev pub too_soon : Local → ℕ → Letter → Bool
too_soon me from l = (is_count l && nat_lt (totals from me.log) (round_of l)) || (is_total l && not (nat_lt (round_of l) (counts me.log)))

-- The Counts of a round that a rank took have small sums. Counts and Totals come in the order of their rounds, and not
-- too soon.
pub record AreInTurn (me : Local) : Type 0 where
  pub few_sent : (q : ℕ) → sent_taken me q ≤ most_arrived
  pub few_run : (q : ℕ) → run_taken me q ≤ most_arrived
  pub counts_in_order : (from : ℕ) → AreNumbered 0 (filter is_count (letters_of (batches_taken from me.log)))
  pub totals_in_order : (from : ℕ) → AreNumbered 0 (filter is_total (letters_of (batches_taken from me.log)))
  pub in_turn : (k from : ℕ) (letters : List Letter) → slice_get me.log k ≡ Some (Took from letters) →
      list_any (too_soon (record me { log = take k me.log }) from) letters ≡ false

-- ---- a log

-- A log is modest: it took no more letters for its rank than all ranks together may send. Each batch that it took is
-- lawful, each data letter came over a link of its path, and the control letters came in their turn.
pub record IsModest (me : Local) : Type 0 where
  pub few : run_count me.here me.log ≤ most_arrived
  pub lawful : AllByRecursion (IsLawful me) me.log
  pub on_path : (from : ℕ) → AllByRecursion (IsOnPath me.layout me.scheme from me.here) (letters_of (batches_taken from me.log))
  pub control : AreInTurn me

-- What holds of each world that events lead to.
pub record IsWorld (world : Logs) : Type 0 where
  pub sound : IsSound world
  pub modest : (rank : ℕ) → rank < world.layout.ranks → IsModest (local world rank)
