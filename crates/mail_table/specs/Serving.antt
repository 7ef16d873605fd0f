-- What a post over a table shows: that of any post, for one rank; and what caused the answers of its calls.
use Rattle.std.specs.Prelude.{◌≡◌, ℕ, ◌==◌, ◌&&◌, List, [], slice_index_or, replicate, if◌then◌else◌}
use Rattle.msg_codec.specs.declared.letter.Letter.{Letter}
use Rattle.rising_counts.specs.Rising.{next_count}
use Rattle.world_core.specs.Post.{PostState, PutDone, PutFoundFull, SawNoStop, SawStop, TookBatch, TookNone}
use Rattle.mail_table.specs.Calls.{BatchPut, BatchTaken, LinkFull, NothingNew, StopLoaded}
use Rattle.mail_table.specs.Table.{PassState}
use Rattle.std.specs.Prelude.{true, false}

-- how many counts of fulls and of misses there are, enough for each rank
abbrev pub most_served : ℕ
most_served = 64

-- its pass, and its counts
pub record Serving : Type 0 where
  pub pass : PassState
  pub fulls : List ℕ
  pub misses : List ℕ
  pub halts : ℕ

-- a post whose counts are at 0
abbrev pub serving : PassState → Serving
serving pass = record { pass = pass; fulls = replicate most_served 0; misses = replicate most_served 0; halts = 0 }

-- as a post, which serves the rank of its pass alone
abbrev pub state_of : Serving → PostState
state_of post = record {
  layout = post.pass.settings.layout;
  scheme = post.pass.settings.scheme;
  ring = post.pass.settings.ring;
  batches = post.pass.settings.batches;
  serves = λ rank. rank == post.pass.rank;
  log = λ rank. if rank == post.pass.rank then post.pass.log else [];
  raised = λ rank. (rank == post.pass.rank) && post.pass.raised;
  fulls = λ rank. slice_index_or post.fulls rank 0;
  misses = λ rank. slice_index_or post.misses rank 0;
  halts = post.halts;
}

-- ---- the outcomes of its calls: those of any post, those of the table, and the counts

pub record ServedPut (here to : ℕ) (batch : List Letter) (old new : Serving) : Type 0 where
  pub post : PutDone here to batch (state_of old) (state_of new)
  pub pass : BatchPut to batch old.pass new.pass

pub record ServedFull (here to : ℕ) (old new : Serving) : Type 0 where
  pub post : PutFoundFull here to (state_of old) (state_of new)
  pub pass : LinkFull to old.pass new.pass
  pub count : (state_of new).fulls to ≡ next_count ((state_of old).fulls to)

pub record ServedTake (here from : ℕ) (batch : List Letter) (old new : Serving) : Type 0 where
  pub post : TookBatch here from batch (state_of old) (state_of new)
  pub pass : BatchTaken from batch old.pass new.pass

pub record ServedNone (here from : ℕ) (old new : Serving) : Type 0 where
  pub post : TookNone here from (state_of old) (state_of new)
  pub pass : NothingNew from old.pass new.pass
  pub count : (state_of new).misses from ≡ next_count ((state_of old).misses from)

pub record ServedStop (old new : Serving) : Type 0 where
  pub post : SawStop (state_of old) (state_of new)
  pub pass : StopLoaded true old.pass new.pass
  pub count : (state_of new).halts ≡ next_count (state_of old).halts

pub record ServedNoStop (old new : Serving) : Type 0 where
  pub post : SawNoStop (state_of old) (state_of new)
  pub pass : StopLoaded false old.pass new.pass
