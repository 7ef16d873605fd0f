-- Only private functions cite this module: seats between two calls, and what calls do to them.
use Rattle.std.specs.Prelude.{◌≡◌, ℕ, ◌+◌, ◌-◌, ◌<◌, replicate, slice_get, true, false, Option, None, Some, List, [], ◌∷◌, ◌++◌, length, slice_index_or}
use Rattle.atomic_table.specs.Seated.{TableId}
use Rattle.msg_codec.specs.declared.letter.Letter.{Letter}
use Rattle.world_core.specs.declared.entry.Entry.{Entry}
use Rattle.world_core.specs.declared.entry.Entry.TheVariants.{Put, Took}
use Rattle.world_core.specs.Modest.{IsModest}
use Rattle.mail_table.specs.declared.settings.Settings.{Settings}
use Rattle.mail_table.specs.declared.views.RankView.{RankView}
use Rattle.mail_table.specs.declared.views.View.{View}
use Rattle.mail_table.specs.Steps.{Seated, has_more, has_room, local_in, put_in, slot_from, slot_to, taken_in}
use Rattle.mail_table.specs.Rule.{logs_of}
use Rattle.mail_table.specs.Table.{PassState, TableState, fresh_pass}
use Rattle.mail_table.specs.Views.{fresh_rank, knowing, loaded_at, mine}
use Rattle.mail_table.specs.Words.{slots_of, words_of}

-- a table with the words and the slots of all links
pub record IsLaidOut (settings : Settings) (id : TableId) : Type 0 where
  pub words : id.words ≡ words_of settings.layout.ranks
  pub slots : id.slots ≡ slots_of settings.layout.ranks settings.ring

-- the view of a seat with one rank
pub record IsOf (settings : Settings) (rank : ℕ) (view : View) : Type 0 where
  pub first : view.first ≡ rank
  pub one : view.ranks ≡ mine view ∷ []
  pub settings_are : view.settings ≡ settings
  pub within : rank < settings.layout.ranks

-- the seat has no slot
pub record IsAt (settings : Settings) (rank : ℕ) (seat : Seated) : Type 0 where
  pub of : IsOf settings rank seat.0
  pub fills_none : (mine seat.0).filling ≡ None
  pub empties_none : (mine seat.0).emptying ≡ None
  pub hand : seat.1 ≡ []

-- it has the slot of its next batch to a rank, the batch of this number, and the slot holds this
pub record IsFilling (settings : Settings) (rank to number : ℕ) (value : Option (List Letter)) (seat : Seated) : Type 0 where
  pub of : IsOf settings rank seat.0
  pub within : to < settings.layout.ranks
  pub filling : (mine seat.0).filling ≡ Some to
  pub number_is : number ≡ put_in seat.0 to
  pub hand : seat.1 ≡ (slot_to seat.0 to number, value) ∷ []

-- it has the slot of the last batch that it took from a rank, the batch of this number, and the slot holds this
pub record IsEmptying (settings : Settings) (rank from number : ℕ) (value : Option (List Letter)) (seat : Seated) : Type 0 where
  pub of : IsOf settings rank seat.0
  pub within : from < settings.layout.ranks
  pub emptying : (mine seat.0).emptying ≡ Some from
  pub number_is : taken_in seat.0 from ≡ number + 1
  pub hand : seat.1 ≡ (slot_from seat.0 from number, value) ∷ []

-- what the seat becomes where this is then known of its rank
abbrev pub after_call : Seated → RankView → Seated
after_call seat rank = (knowing seat.0 rank, [])

-- the head word shows room, and the batch is put
pub record SeatPut (to : ℕ) (batch : List Letter) (old new : Seated) : Type 0 where
  pub found : ℕ
  pub room : has_room old.0 to found ≡ true
  pub after : new ≡ after_call old (record (mine old.0) { log = (mine old.0).log ++ Put to batch ∷ []; heads = loaded_at (mine old.0).heads to found })

pub record SeatFull (to : ℕ) (old new : Seated) : Type 0 where
  pub found : ℕ
  pub full : has_room old.0 to found ≡ false
  pub after : new ≡ after_call old (record (mine old.0) { heads = loaded_at (mine old.0).heads to found })

-- the tail word shows a batch, and it is taken
pub record SeatTook (from : ℕ) (batch : List Letter) (old new : Seated) : Type 0 where
  pub found : ℕ
  pub there : has_more old.0 from found ≡ true
  pub after : new ≡ after_call old (record (mine old.0) { log = (mine old.0).log ++ Took from batch ∷ []; tails = loaded_at (mine old.0).tails from found })
  pub modest : IsModest (local_in new.0)

pub record SeatNone (from : ℕ) (old new : Seated) : Type 0 where
  pub after : new ≡ after_call old (record (mine old.0) { tails = loaded_at (mine old.0).tails from (taken_in old.0 from) })

-- ---- passes

-- a pass, as its seat and its rank show it
abbrev pub pass_of : TableId → ℕ → View → PassState
pass_of id rank view = record {
  table = id;
  settings = view.settings;
  rank = rank;
  log = (mine view).log;
  raised = (mine view).raised;
  heads = (mine view).heads;
  tails = (mine view).tails;
  stop = (mine view).stop;
}

-- a count for each rank: how many batches a log put to it, or took from it
pub record AreCounts (ranks : ℕ) (count : ℕ → ℕ) (counts : List ℕ) : Type 0 where
  pub all : length counts ≡ ranks
  pub each : (rank : ℕ) → rank < ranks → slice_index_or counts rank 0 ≡ count rank

pub record IsPass (rank : ℕ) (puts takes : List ℕ) (seat : Seated) : Type 0 where
  pub at : IsAt seat.0.settings rank seat
  pub puts_are : AreCounts seat.0.settings.layout.ranks (put_in seat.0) puts
  pub takes_are : AreCounts seat.0.settings.layout.ranks (taken_in seat.0) takes
  pub heads : length (mine seat.0).heads ≡ seat.0.settings.layout.ranks
  pub tails : length (mine seat.0).tails ≡ seat.0.settings.layout.ranks

-- a table's words and slots, as callers see the table
abbrev pub state_of_links : TableId → Settings → TableState
state_of_links id settings = record { id = id; settings = settings }

-- what the seat that makes all passes knows, when it has the ranks from this one on
abbrev pub dealing : Settings → ℕ → View
dealing settings rank = record { settings = settings; first = rank; ranks = replicate (settings.layout.ranks - rank) (fresh_rank settings.layout.ranks) }

-- the passes of the first ranks, which did nothing yet
pub record AreFreshPasses (table : TableState) (count : ℕ) (passes : List PassState) : Type 0 where
  pub all : length passes ≡ count
  pub each : (rank : ℕ) → rank < count → slice_get passes rank ≡ Some (fresh_pass table rank)

-- a seat with some ranks, which have these logs, and with no slot
pub record HasLogs (settings : Settings) (first : ℕ) (logs : List (List Entry)) (seat : Seated) : Type 0 where
  pub first_is : seat.0.first ≡ first
  pub settings_are : seat.0.settings ≡ settings
  pub logs_are : logs_of seat.0.ranks ≡ logs
  pub some_rank : 0 < length seat.0.ranks
  pub hand : seat.1 ≡ []
