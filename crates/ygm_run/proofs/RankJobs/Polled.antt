-- Polls of a job.
use Rattle.std.proofs.Common.{◌≡◌, ℕ, ◌+◌, Bool, true, false, List, [], map, refl, sym, ap, ◌∙◌, subst, Option, Result, Ok, Err, OnOk, IfOk, IfErr}
use Rattle.std.proofs.lemmas.Bool.{false≢true}
use Rattle.ygm_io.specs.Content.{ExposedBytes}
use Rattle.world_core.specs.Post.{PostState}
use Rattle.comm_rank.specs.declared.fault.CommFault.{CommFault}
use Rattle.comm_rank.specs.declared.fault.CommFault.TheVariants.{CountFull, NoMemory, Stopped}
use Rattle.comm_rank.specs.Fault.{IfCountFull}
use Rattle.comm_rank.specs.Rank.{Rank, Worked}
use Rattle.counting_set.specs.Counting.{Counts, counting_apply}
use Rattle.term_barrier.specs.declared.polled.Polled.{Polled}
use Rattle.term_barrier.specs.declared.polled.Polled.TheVariants.{Left, Waiting as Waits}
use Rattle.term_barrier.specs.declared.polled.Waiting.{Waiting}
use Rattle.term_barrier.specs.Barriers.{BarrierState}
use Rattle.term_barrier.specs.Carried.{Carries, with_round}
use Rattle.term_barrier.specs.Polls.{PollEnded}
use Rattle.term_barrier.proofs.Carried.Polled.{carries_left, carries_waited}
use Rattle.ygm_run.specs.declared.job.Step.{Step}
use Rattle.ygm_run.specs.declared.job.Step.TheVariants.{Going, Finished}
use Rattle.line_input.specs.Lines.{text_of}
use Rattle.ygm_run.specs.RankJobs.{HasGoneOn, HasPolledOnce, InJob, JobState, JobTurned, KeepsJob, faults_in, left_in}
use Rattle.ygm_run.specs.ReadLines.{IsFullFile}
use Rattle.ygm_run.specs.TallyRun.{tally_letters}
use Rattle.ygm_run.proofs.Inputs.IsRead.{stopped_at_piece}
use Rattle.ygm_run.proofs.RankJobs.Turned.{sends_nothing}

module _ (content : ExposedBytes) (job : JobState) (left : ExposedBytes) (old new : BarrierState) (one me : Rank Counts) (before after : PostState)
    (worked : Worked (record one { stopped = false }) me) where
  same_letters : (lines : List (List ℕ)) → tally_letters me.layout.ranks me.here lines ≡ tally_letters one.layout.ranks one.here lines
  same_letters lines = ap (λ (r : Rank Counts). tally_letters r.layout.ranks r.here lines) worked

  keeps_polled : (answer : Polled) → PollEnded counting_apply (λ _. []) old new one me before after answer →
      (was : KeepsJob content job one old before left) (rounds : ℕ → ℕ) →
      Carries counting_apply (λ _. []) (tally_letters one.layout.ranks one.here (map text_of was.raws)) rounds new me after →
      KeepsJob content job me new after left
  keeps_polled answer ended was rounds carries =
      let polled = ended.polled in
      record {
        raws = was.raws;
        rounds = rounds;
        read = was.read;
        carries = subst (λ own. Carries counting_apply (λ _. []) own rounds new me after) (sym (same_letters (map text_of was.raws))) carries;
        counted =
            ap (λ (r : Rank Counts). r.sent_count) polled.handed_over
            ∙ sends_nothing one polled.rank (before.log one.here) polled.log ended.turn polled.turned ∙ was.counted;
        few = was.few;
        most = ap (λ (r : Rank Counts). r.most) worked ∙ was.most;
      }

  -- the rank waits, and its job goes on
  pub keeps_waited : (why : Waiting) → PollEnded counting_apply (λ _. []) old new one me before after (Waits why) →
      KeepsJob content job one old before left → KeepsJob content job me new after left
  keeps_waited why ended was =
      keeps_polled (Waits why) ended was was.rounds
      (carries_waited counting_apply (λ _. []) (λ c here ranks l. refl) (tally_letters one.layout.ranks one.here (map text_of was.raws)) was.rounds old new one me before after why worked ended was.carries)

  -- it has left its barrier
  pub keeps_left : (number round : ℕ) → PollEnded counting_apply (λ _. []) old new one me before after (Left number round) →
      KeepsJob content job one old before left → KeepsJob content job me new after left
  keeps_left number round ended was =
      keeps_polled (Left number round) ended was (with_round was.rounds old.left round)
      (carries_left counting_apply (λ _. []) (λ c here ranks l. refl) (tally_letters one.layout.ranks one.here (map text_of was.raws)) was.rounds old new one me before after number round worked ended was.carries)

never_full : (fault : CommFault) (P : ℕ → Type 0) → IfCountFull fault (λ _. ⊥) → IfCountFull fault P
never_full Stopped P none = tt
never_full (CountFull at) P none = absurd none
never_full NoMemory P none = tt

-- after a poll the job is finished, or it goes on, or it was stopped
pub polled_once : {S : Type 0} (left : S → ExposedBytes) (faults : S → ℕ) (content : ExposedBytes) (job : JobState) (old new : BarrierState) (one me : Rank Counts)
    (before after : PostState) (source : Option S) (result : Result Step CommFault) → old.inside ≡ true →
    (KeepsJob content job one old before (left_in left source) → OnOk result (KeepsJob content job me new after (left_in left source))) →
    IfOk result (λ step. HasPolledOnce step old new me) → IfErr result (λ fault. IfCountFull fault (λ _. ⊥)) →
    InJob left faults content job one old before source → JobTurned left faults content result job me new after source
polled_once left faults content job old new one me before after source (Ok Going) inside kept step full was = record {
  keeps = kept was.keeps;
  going = step.2;
  first = step.1 ∙ was.first;
  no_source = was.no_source;
  outside = λ outside. absurd (false≢true (sym outside ∙ step.0));
  inside = λ _. was.inside inside;
}
polled_once left faults content job old new one me before after source (Ok Finished) inside kept step full was = record {
  keeps = kept was.keeps;
  passed = step ∙ ap (λ n. n + 1) was.first;
  ended = was.inside inside;
  stops = stopped_at_piece was.keeps.raws job.reader content (left_in left source) (faults_in faults source) job.fault was.keeps.read.short was.keeps.read.taken (was.inside inside);
}
polled_once left faults content job old new one me before after source (Err fault) inside kept step full was = never_full fault (IsFullFile content) full

-- after a turn outside, the job goes on, or it was stopped
pub gone_on : {S : Type 0} (left : S → ExposedBytes) (faults : S → ℕ) (content : ExposedBytes) (job : JobState) (me : Rank Counts) (old new : BarrierState)
    (post : PostState) (source : Option S) (ended : Bool) (result : Result Step CommFault) (Kept : BarrierState → Type 0) → OnOk result (Kept new) →
    IfOk result (λ step. HasGoneOn ended step old new me) → IfErr result (λ fault. IfCountFull fault (λ _. ⊥)) →
    (me.stopped ≡ false → Kept (record old { inside = ended }) → InJob left faults content job me (record old { inside = ended }) post source) →
    JobTurned left faults content result job me new post source
gone_on left faults content job me old new post source ended (Ok step) Kept kept gone full then = rw (gone.0, gone.1) (then gone.2 (subst Kept gone.1 kept))
gone_on left faults content job me old new post source ended (Err fault) Kept kept gone full then = never_full fault (IsFullFile content) full
