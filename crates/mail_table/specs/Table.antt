-- What contracts see of a table and of its passes.
use Rattle.std.specs.Prelude.{◌≡◌, ℕ, ◌+◌, ◌<◌, ◌≤◌, Bool, false, ◌||◌, nat_le, nat_lt, Some, List, [], length, map, replicate, slice_get}
use Rattle.atomic_table.specs.Seated.{TableId}
use Rattle.ygm_route.specs.declared.scheme.Scheme.{Scheme}
use Rattle.ygm_route.specs.Layout.{Shape, IsLayout}
use Rattle.world_core.specs.declared.entry.Entry.{Entry}
use Rattle.world_core.specs.Limits.{most_batches}
use Rattle.world_core.specs.Local.{Local, local_rank}
use Rattle.world_core.specs.Log.{batches_put, batches_taken}
use Rattle.world_core.specs.World.{Logs}
use Rattle.mail_table.specs.declared.settings.Settings.{Settings}
use Rattle.mail_table.specs.declared.views.Loads.{Loads}
use Rattle.mail_table.specs.Views.{no_loads}

-- ---- tables

-- which table it is, and what it was made for
pub record TableState : Type 0 where
  pub id : TableId
  pub settings : Settings

-- a link holds from one to four batches, and carries at most as many as a link may
pub record IsSettings (settings : Settings) : Type 0 where
  pub laid_out : IsLayout settings.layout
  pub some_ring : 1 ≤ settings.ring
  pub few_slots : settings.ring ≤ 4
  pub few_batches : settings.batches ≤ most_batches

-- ---- passes

-- Of which table a pass is, its rank, and what the rank did: its log, and whether it raised the stop. Moreover how often
-- it loaded each word, and what it found last: the head words of the links from it, by receiver, the tail words of the
-- links to it, by sender, and the stop word.
pub record PassState : Type 0 where
  pub table : TableId
  pub settings : Settings
  pub rank : ℕ
  pub log : List Entry
  pub raised : Bool
  pub heads : List Loads
  pub tails : List Loads
  pub stop : Loads

-- what the rules of a world look at
abbrev pub local_of : PassState → Local
local_of pass = local_rank pass.settings.layout pass.settings.scheme pass.rank pass.log

-- how many batches its rank put to another, and took from another
abbrev pub put_count : PassState → ℕ → ℕ
put_count pass to = length (batches_put to pass.log)

abbrev pub taken_count : PassState → ℕ → ℕ
taken_count pass from = length (batches_taken from pass.log)

-- A head word tells how many batches of its link were taken and their slots freed. It shows a full link where that many
-- and a ring more were put. A link that has carried as many batches as it may is full for good.
abbrev pub is_full_at : Settings → ℕ → ℕ → Bool
is_full_at settings put head = nat_le (head + settings.ring) put || nat_le settings.batches put

-- the link to a rank is full, where its head word is found so
abbrev pub is_full : PassState → ℕ → ℕ → Bool
is_full pass to head = is_full_at pass.settings (put_count pass to) head

-- A tail word tells how many batches of its link were put. The link from a rank has a batch, where its tail word is found
-- so.
abbrev pub has_batch : PassState → ℕ → ℕ → Bool
has_batch pass from tail = nat_lt (taken_count pass from) tail

-- the pass is of this table
pub record IsPassOf (table : TableState) (pass : PassState) : Type 0 where
  pub table_is : pass.table ≡ table.id
  pub settings_are : pass.settings ≡ table.settings

-- a pass whose rank did nothing yet
abbrev pub fresh_pass : TableState → ℕ → PassState
fresh_pass table rank = record {
  table = table.id;
  settings = table.settings;
  rank = rank;
  log = [];
  raised = false;
  heads = replicate table.settings.layout.ranks no_loads;
  tails = replicate table.settings.layout.ranks no_loads;
  stop = no_loads;
}

-- a new table with its passes: one for each rank, in the order of ranks
pub record IsFreshTable (layout : Shape) (scheme : Scheme) (ring batches : ℕ) (table : TableState) (passes : List PassState) : Type 0 where
  pub settings : table.settings ≡ record { layout = layout; scheme = scheme; ring = ring; batches = batches }
  pub all : length passes ≡ layout.ranks
  pub each : (rank : ℕ) → rank < layout.ranks → slice_get passes rank ≡ Some (fresh_pass table rank)

-- passes of a table, in the order of ranks from 0 on
abbrev pub InOrder : TableState → List PassState → Type 0
InOrder table passes = (k : ℕ) (pass : PassState) → slice_get passes k ≡ Some pass → IsPassOf table pass × (pass.rank ≡ k)

-- all passes of a table, in the order of ranks
pub record AreAllPasses (table : TableState) (passes : List PassState) : Type 0 where
  pub all : length passes ≡ table.settings.layout.ranks
  pub each : InOrder table passes

-- the logs of a table and its passes
abbrev pub logs_in : List PassState → List (List Entry)
logs_in passes = map (λ pass. pass.log) passes

abbrev pub world_of : TableState → List PassState → Logs
world_of table passes = record { layout = table.settings.layout; scheme = table.settings.scheme; logs = logs_in passes }
