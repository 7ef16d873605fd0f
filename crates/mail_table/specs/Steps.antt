-- Only private functions cite this module: what each kind of step on a word does to the seat that makes it.
use Rattle.std.specs.Prelude.{◌≡◌, ℕ, ◌≤◌, Bool, true, false, not, ◌<◌, Option, Some, None, List, [], ◌∷◌, ◌++◌, length, nat_lt, MatchBool}
use Rattle.atomic_table.specs.Table.{Me, Step, rest}
use Rattle.msg_codec.specs.declared.letter.Letter.{Letter}
use Rattle.world_core.specs.declared.entry.Entry.TheVariants.{Put, Took}
use Rattle.world_core.specs.Local.{Local, local_rank}
use Rattle.world_core.specs.Log.{batches_put, batches_taken}
use Rattle.world_core.specs.Modest.{IsModest, IsWorld}
use Rattle.mail_table.specs.declared.views.View.{View}
use Rattle.mail_table.specs.Calls.{is_raised}
use Rattle.mail_table.specs.Rule.{world_in}
use Rattle.mail_table.specs.Table.{is_full_at}
use Rattle.mail_table.specs.Views.{knowing, loaded, loaded_at, mine}
use Rattle.mail_table.specs.Words.{head_at, slot_at, tail_at}

-- a seat: its view, and the slots that it has, each with what it holds
abbrev pub Seated : Type 0
Seated = Me (Option (List Letter)) View

-- what its rank looks like to the rules of a world
abbrev pub local_in : View → Local
local_in view = local_rank view.settings.layout view.settings.scheme view.first (mine view).log

abbrev pub put_in : View → ℕ → ℕ
put_in view to = length (batches_put to (mine view).log)

abbrev pub taken_in : View → ℕ → ℕ
taken_in view from = length (batches_taken from (mine view).log)

-- the slot of a batch that its rank puts, or takes
abbrev pub slot_to : View → ℕ → ℕ → ℕ
slot_to view to t = slot_at view.settings.layout.ranks view.settings.ring view.first to t

abbrev pub slot_from : View → ℕ → ℕ → ℕ
slot_from view from t = slot_at view.settings.layout.ranks view.settings.ring from view.first t

-- ---- the sender loads a head word

abbrev pub has_room : View → ℕ → ℕ → Bool
has_room view to found = not (is_full_at view.settings (put_in view to) found)

abbrev pub after_head : View → ℕ → ℕ → Bool → View
after_head view to found true = knowing view (record (mine view) { heads = loaded_at (mine view).heads to found; filling = Some to })
after_head view to found false = knowing view (record (mine view) { heads = loaded_at (mine view).heads to found })

-- where there is room, it takes the slot of its next batch
pub record HeadLoaded (to found : ℕ) (old new : Seated) : Type 0 where
  pub view : new.0 ≡ after_head old.0 to found (has_room old.0 to found)
  pub low : found ≤ put_in old.0 to
  pub hand : MatchBool (has_room old.0 to found)
      ((value : Option (List Letter)) × (new.1 ≡ (slot_to old.0 to (put_in old.0 to), value) ∷ old.1))
      (new.1 ≡ old.1)

abbrev pub LoadsHead : Step (Option (List Letter)) → Seated → ℕ → Seated → Type 0
LoadsHead step old found new = (to : ℕ) → to < old.0.settings.layout.ranks → step.word ≡ head_at old.0.first to → HeadLoaded to found old new

-- ---- the sender stores a tail word

-- the batch in the slot taken last
abbrev pub batch_in : List (ℕ × Option (List Letter)) → List Letter
batch_in [] = []
batch_in ((slot, Some batch) ∷ hand) = batch
batch_in ((slot, None) ∷ hand) = []

abbrev pub rank_in : Option ℕ → ℕ
rank_in None = 0
rank_in (Some rank) = rank

-- its log gains the put, and it gives the slot back
abbrev pub after_put : View → List Letter → View
after_put view batch = knowing view (record (mine view) { log = (mine view).log ++ Put (rank_in (mine view).filling) batch ∷ []; filling = None })

abbrev pub StoresTail : Step (Option (List Letter)) → Seated → ℕ → Seated → Type 0
StoresTail step old stored new = new ≡ (after_put old.0 (batch_in old.1), rest old.1)

-- ---- the receiver loads a tail word

abbrev pub has_more : View → ℕ → ℕ → Bool
has_more view from found = nat_lt (taken_in view from) found

abbrev pub after_tail : View → ℕ → ℕ → Bool → List Letter → View
after_tail view from found true batch = knowing view (record (mine view) { log = (mine view).log ++ Took from batch ∷ []; tails = loaded_at (mine view).tails from found; emptying = Some from })
after_tail view from found false batch = knowing view (record (mine view) { tails = loaded_at (mine view).tails from found })

-- where there is a batch more, its log gains the take, and it takes the slot
pub record TailLoaded (from found : ℕ) (old new : Seated) : Type 0 where
  pub batch : List Letter
  pub view : new.0 ≡ after_tail old.0 from found (has_more old.0 from found) batch
  pub low : taken_in old.0 from ≤ found
  pub hand : MatchBool (has_more old.0 from found)
      ((new.1 ≡ (slot_from old.0 from (taken_in old.0 from), Some batch) ∷ old.1) × IsModest (local_in new.0))
      (new.1 ≡ old.1)

abbrev pub LoadsTail : Step (Option (List Letter)) → Seated → ℕ → Seated → Type 0
LoadsTail step old found new = (from : ℕ) → from < old.0.settings.layout.ranks → step.word ≡ tail_at from old.0.first → TailLoaded from found old new

-- ---- the receiver stores a head word

-- it gives the slot back
abbrev pub after_free : View → View
after_free view = knowing view (record (mine view) { emptying = None })

abbrev pub StoresHead : Step (Option (List Letter)) → Seated → ℕ → Seated → Type 0
StoresHead step old stored new = new ≡ (after_free old.0, rest old.1)

-- ---- the stop

abbrev pub StoresStop : Step (Option (List Letter)) → Seated → ℕ → Seated → Type 0
StoresStop step old stored new = new ≡ (knowing old.0 (record (mine old.0) { raised = true }), old.1)

-- a rank that raised the stop finds it raised
pub record LoadsStop (step : Step (Option (List Letter))) (old : Seated) (found : ℕ) (new : Seated) : Type 0 where
  pub after : new ≡ (knowing old.0 (record (mine old.0) { stop = loaded (mine old.0).stop found }), old.1)
  pub own : (mine old.0).raised ≡ true → is_raised found ≡ true

-- ---- all passes are joined

-- a seat with all ranks learns that their logs are a sound world
pub record LearnsAll (step : Step (Option (List Letter))) (old : Seated) (found : ℕ) (new : Seated) : Type 0 where
  pub same : new ≡ old
  pub sound : old.0.first ≡ 0 → length old.0.ranks ≡ old.0.settings.layout.ranks → IsWorld (world_in old.0.settings old.0.ranks)
