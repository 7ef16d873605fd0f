-- Only private functions cite this module: the rule of a table, over its words, its slots and all views.
use Rattle.std.specs.Prelude.{◌≡◌, ℕ, ◌+◌, Bool, false, ◌==◌, ◌||◌, Option, Some, None, List, [], ◌∷◌, length, map, slice_index_or}
use mathlib.Core.Option.{some}
use lib.ListN.{get_elem?}
use Rattle.atomic_table.specs.Table.{State}
use Rattle.msg_codec.specs.declared.letter.Letter.{Letter}
use Rattle.world_core.specs.declared.entry.Entry.{Entry}
use Rattle.world_core.specs.Log.{batches_put, batches_taken}
use Rattle.world_core.specs.Modest.{IsWorld}
use Rattle.world_core.specs.World.{Logs}
use Rattle.mail_table.specs.declared.settings.Settings.{Settings}
use Rattle.mail_table.specs.declared.views.RankView.{RankView}
use Rattle.mail_table.specs.declared.views.View.{View}
use Rattle.mail_table.specs.OneLink.{Homes, LinkAgrees, one_if}
use Rattle.mail_table.specs.Table.{IsSettings}
use Rattle.mail_table.specs.Words.{base, head_at, slots_of, stop_word, tail_at, words_of}

-- words, slots, and the views of all seats
abbrev pub Mails : Type 0
Mails = State (Option (List Letter)) View

abbrev pub word_at : List ℕ → ℕ → ℕ
word_at words word = slice_index_or words word 0

-- ---- the world half: the logs alone

abbrev pub logs_of : List RankView → List (List Entry)
logs_of ranks = map (λ rank. rank.log) ranks

abbrev pub world_in : Settings → List RankView → Logs
world_in settings ranks = record { layout = settings.layout; scheme = settings.scheme; logs = logs_of ranks }

-- ---- the link half: one link at a time

-- whether a rank puts a batch to this rank just now, or takes one from it
abbrev pub is_at : Option ℕ → ℕ → Bool
is_at None rank = false
is_at (Some other) rank = other == rank

-- the link from a rank with the view of the sender to a rank with the view of the receiver
abbrev pub LinkAt : Settings → Homes (List Letter) → List ℕ → ℕ → ℕ → RankView → RankView → Type 0
LinkAt settings homes words from to sender receiver =
    LinkAgrees settings.ring (base settings.layout.ranks settings.ring from to) homes
    (word_at words (tail_at from to)) (word_at words (head_at from to))
    (batches_put to sender.log) (is_at sender.filling to) (batches_taken from receiver.log) (is_at receiver.emptying from)

abbrev pub LinksAt : Settings → Homes (List Letter) → List ℕ → List RankView → Type 0
LinksAt settings homes words ranks = (from to : ℕ) (sender receiver : RankView) → get_elem? ranks from ≡ some sender → get_elem? ranks to ≡ some receiver →
    LinkAt settings homes words from to sender receiver

-- ---- the stop

-- some rank raised it
abbrev pub some_raised : List RankView → Bool
some_raised [] = false
some_raised (rank ∷ ranks) = rank.raised || some_raised ranks

-- ---- the rule

-- what a seat's view says of its ranks is so, and no other seat has them
abbrev pub Knows : List RankView → (ℕ → ℕ) → ℕ → View → Type 0
Knows ranks owner seat view = (k : ℕ) (rank : RankView) → get_elem? view.ranks k ≡ some rank →
    (get_elem? ranks (view.first + k) ≡ some rank) × (owner (view.first + k) ≡ seat)

-- a view with a rank has the settings of the table
abbrev pub HasSettings : Settings → View → Type 0
HasSettings settings view = (rank : RankView) → get_elem? view.ranks 0 ≡ some rank → view.settings ≡ settings

-- There is one view of each rank, which the seat that has the rank knows. The link half holds of each link, and the logs
-- are a sound world.
pub record Rule (settings : Settings) (mails : Mails) : Type 0 where
  pub ranks : List RankView
  pub owner : ℕ → ℕ
  pub bounds : IsSettings settings
  pub slots : length mails.homes ≡ slots_of settings.layout.ranks settings.ring
  pub words : length mails.words ≡ words_of settings.layout.ranks
  pub settings_are : (seat : ℕ) (view : View) → get_elem? mails.views seat ≡ some view → HasSettings settings view
  pub knows : (seat : ℕ) (view : View) → get_elem? mails.views seat ≡ some view → Knows ranks owner seat view
  pub links : LinksAt settings mails.homes mails.words ranks
  pub stop : word_at mails.words stop_word ≡ one_if (some_raised ranks)
  pub world : IsWorld (world_in settings ranks)
