-- Only private functions cite this: the job of one rank, which reads its file, sends a letter for each line and passes a
-- barrier.
use Rattle.std.proofs.Common.{inl, inr}
use Rattle.std.specs.Prelude.{◌≡◌, ◌⊎◌, ℕ, ◌+◌, ◌<◌, ◌≤◌, Bool, false, true, List, [], ◌∷◌, ◌++◌, Option, None, Some, Result, Ok, Err, length, map}
use Rattle.std.specs.Borrow.{MutBor}
use Rattle.ygm_io.specs.Content.{ExposedBytes}
use Rattle.world_core.specs.Limits.{most_letters}
use Rattle.world_core.specs.Post.{PostState}
use Rattle.comm_rank.specs.declared.fault.CommFault.{CommFault}
use Rattle.comm_rank.specs.Fault.{IfCountFull}
use Rattle.comm_rank.specs.Rank.{HasSent, Rank}
use Rattle.term_barrier.specs.Barriers.{BarrierState}
use Rattle.term_barrier.specs.Carried.{Carries}
use Rattle.counting_set.specs.Counting.{Counts, add_letter, counting_apply}
use Rattle.part_hash.specs.Owner.{owner_of_key}
use Rattle.ygm_run.specs.declared.job.Step.{Step}
use Rattle.ygm_run.specs.declared.job.Step.TheVariants.{Going, Finished}
use Rattle.ygm_run.specs.declared.status.InputFault.{InputFault}
use Rattle.line_input.specs.Lines.{text_of}
use Rattle.line_input.specs.Reading.{Reading, fresh_reading}
use Rattle.line_input.specs.Taken.{HasLine}
use Rattle.ygm_run.specs.ReadLines.{EndedWith, HasReadLines, IsFullFile, StopsAtPiece}
use Rattle.ygm_run.specs.TallyRun.{tally_letters}
use Rattle.line_input.specs.Turns.{to_come}

-- ---- what a rank reads

-- What remains of a rank's file, and its count of faults. A rank without a file has nothing to read.
abbrev pub left_in : {S : Type 0} → (S → ExposedBytes) → Option S → ExposedBytes
left_in left None = Some []
left_in left (Some source) = left source

abbrev pub faults_in : {S : Type 0} → (S → ℕ) → Option S → ℕ
faults_in faults None = 0
faults_in faults (Some source) = faults source

-- the source behind a reference that was passed, as the call leaves it
abbrev pub source_after : {S : Type 0} → Unit {0} ⊎ ((MutBor S × Unit {0}) ⊎ ⊥) → Option S
source_after (inl none) = None
source_after (inr (inl left)) = Some left.0.now
source_after (inr (inr never)) = None

-- ---- the job of one rank

-- the reader of the rank's lines, and the fault of its input, if it met one
pub record JobState : Type 0 where
  pub reader : Reading
  pub fault : Option InputFault

abbrev pub fresh_job : JobState
fresh_job = record { reader = fresh_reading; fault = None }

-- No line was taken, and the rank is unchanged; or it might send one letter more, and has sent that of this line.
abbrev pub HasSentLines : Rank Counts → Rank Counts → List (List ℕ) → Type 0
HasSentLines old new [] = new ≡ old
HasSentLines old new (raw ∷ []) = (old.sent_count < old.most)
    × HasSent old new (add_letter (owner_of_key (text_of raw) old.layout.ranks) old.here (text_of raw))
HasSentLines old new (raw ∷ other ∷ raws) = ⊥

-- A turn of the reader: it took at most one line, for which the rank has sent a letter, and if it is the last one, the
-- reading ended so.
pub record HasReadOn (old new : JobState) (one me : Rank Counts) (left left_now : ExposedBytes) (faults faults_now : ℕ) : Type 0 where
  pub raws : List (List ℕ)
  pub read : (content : ExposedBytes) (earlier : List (List ℕ)) → length earlier ≤ most_letters
      → HasReadLines content old.reader left earlier → HasReadLines content new.reader left_now (earlier ++ raws)
  pub sent : HasSentLines one me raws
  pub going_on : new.reader.done ≡ false → (new.fault ≡ old.fault) × (faults_now ≡ faults)
  pub ended : new.reader.done ≡ true → faults ≡ 0 → old.fault ≡ None → old.reader.given ≤ most_letters
      → EndedWith new.fault new.reader left_now faults_now

-- A line is to come for which the rank may send no letter, since its count of letters is full, at this limit.
pub record FullAtLine (me : Rank Counts) (reader : Reading) (left : ExposedBytes) (limit : ℕ) : Type 0 where
  pub full : me.sent_count ≡ me.most
  pub limit_is : limit ≡ me.most
  pub line : HasLine (to_come reader.held left)

-- What a job keeps from turn to turn: it has read the first lines of its file, and its rank has sent a letter for each, all
-- of them before its barrier, and no others. `content` is what the file had at first.
pub record KeepsJob (content : ExposedBytes) (job : JobState) (me : Rank Counts) (barrier : BarrierState) (post : PostState) (left : ExposedBytes) : Type 0 where
  pub raws : List (List ℕ)
  pub rounds : ℕ → ℕ
  pub read : HasReadLines content job.reader left raws
  pub carries : Carries counting_apply (λ _. []) (tally_letters me.layout.ranks me.here (map text_of raws)) rounds barrier me post
  pub counted : me.sent_count ≡ length raws
  pub few : length raws ≤ most_letters
  pub most : me.most ≡ most_letters

-- A poll: the rank still waits inside, or it has left one barrier more.
abbrev pub HasPolledOnce : Step → BarrierState → BarrierState → Rank Counts → Type 0
HasPolledOnce Going old new me = (new.inside ≡ true) × (new.left ≡ old.left) × (me.stopped ≡ false)
HasPolledOnce Finished old new me = new.left ≡ old.left + 1

-- A turn outside the barrier: the job goes on, and the rank has entered its barrier if its reading has ended.
abbrev pub HasGoneOn : Bool → Step → BarrierState → BarrierState → Rank Counts → Type 0
HasGoneOn ended step old new me = (step ≡ Going) × (new ≡ record old { inside = ended }) × (me.stopped ≡ false)

-- A job that goes on: outside its barrier the rank still reads; inside, its reading has ended.
pub record InJob {S : Type 0} (left : S → ExposedBytes) (faults : S → ℕ) (content : ExposedBytes) (job : JobState)
    (me : Rank Counts) (barrier : BarrierState) (post : PostState) (source : Option S) : Type 0 where
  pub keeps : KeepsJob content job me barrier post (left_in left source)
  pub going : me.stopped ≡ false
  pub first : barrier.left ≡ 0
  pub no_source : source ≡ None → job.reader.held ≡ []
  pub outside : barrier.inside ≡ false → (job.reader.done ≡ false) × (job.fault ≡ None) × (faults_in faults source ≡ 0)
  pub inside : barrier.inside ≡ true → EndedWith job.fault job.reader (left_in left source) (faults_in faults source)

-- A job that is done: its reading has ended, a file with a bad line at the piece that made the line bad, and the rank has
-- left its barrier.
pub record HasFinished {S : Type 0} (left : S → ExposedBytes) (faults : S → ℕ) (content : ExposedBytes) (job : JobState)
    (me : Rank Counts) (barrier : BarrierState) (post : PostState) (source : Option S) : Type 0 where
  pub keeps : KeepsJob content job me barrier post (left_in left source)
  pub passed : barrier.left ≡ 1
  pub ended : EndedWith job.fault job.reader (left_in left source) (faults_in faults source)
  pub stops : StopsAtPiece content (left_in left source) job.fault

-- what holds after a turn of the job, by what it returned
abbrev pub JobTurned : {S : Type 0} → (S → ExposedBytes) → (S → ℕ) → ExposedBytes → Result Step CommFault → JobState
    → Rank Counts → BarrierState → PostState → Option S → Type 0
JobTurned left faults content (Ok Going) job me barrier post source = InJob left faults content job me barrier post source
JobTurned left faults content (Ok Finished) job me barrier post source = HasFinished left faults content job me barrier post source
JobTurned left faults content (Err fault) job me barrier post source = IfCountFull fault (IsFullFile content)
