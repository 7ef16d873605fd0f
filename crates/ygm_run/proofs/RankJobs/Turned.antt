-- Turns of a job.
use Rattle.std.proofs.Common.{◌≡◌, false, List, [], length, map, refl, sym, ap, ◌∙◌, subst, arith}
use Rattle.ygm_io.specs.Content.{ExposedBytes}
use Rattle.world_core.specs.declared.entry.Entry.{Entry}
use Rattle.world_core.specs.Pairs.{for_rank}
use Rattle.world_core.specs.Log.{letters_taken}
use Rattle.world_core.specs.Post.{PostState}
use Rattle.comm_rank.specs.declared.turn.Turn.{Turn}
use Rattle.comm_rank.specs.Rank.{Rank, Worked, handed}
use Rattle.comm_rank.specs.Turns.{HasEnded, Turned}
use Rattle.counting_set.specs.Counting.{Counts, counting_apply}
use Rattle.counting_set.proofs.Counts.After.{handed-none}
use Rattle.term_barrier.specs.Barriers.{BarrierState}
use Rattle.term_barrier.specs.Carried.{Carries}
use Rattle.term_barrier.proofs.Carried.Turned.{carries_turned}
use Rattle.line_input.specs.Lines.{text_of}
use Rattle.ygm_run.specs.RankJobs.{JobState, KeepsJob}
use Rattle.ygm_run.specs.TallyRun.{tally_letters}

-- a turn of a rank that counts sends nothing
pub sends_nothing : (old new : Rank Counts) (before after : List Entry) (turn : Turn) → Turned counting_apply old new before after turn → new.sent_count ≡ old.sent_count
sends_nothing old new before after turn turned =
    let none : length (handed counting_apply old (for_rank old.here (letters_taken turned.taken))) ≡ 0 =
    ap length (handed-none old.here old.layout.ranks old.contents (for_rank old.here (letters_taken turned.taken))) in
    omega (arith, turned.advanced.sent_count, none)

module _ (content : ExposedBytes) (job : JobState) (old new : Rank Counts) (barrier : BarrierState) (before after : PostState) (turn : Turn)
    (worked : Worked (record old { stopped = false }) new) (ended : HasEnded counting_apply (λ _. []) old new before after turn) where
  pub keeps_turned : (left : ExposedBytes) → KeepsJob content job old barrier before left → KeepsJob content job new barrier after left
  keeps_turned left was = record {
    raws = was.raws;
    rounds = was.rounds;
    read = was.read;
    carries =
        let lines = map text_of was.raws in
        let same = ap (λ (me : Rank Counts). tally_letters me.layout.ranks me.here lines) worked in
        subst (λ own. Carries counting_apply (λ _. []) own was.rounds barrier new after) (sym same)
        (carries_turned counting_apply (λ _. []) (λ c here ranks l. refl) (tally_letters old.layout.ranks old.here lines) was.rounds barrier old new before after turn worked ended was.carries);
    counted = sends_nothing old new (before.log old.here) (after.log old.here) turn ended.turned ∙ was.counted;
    few = was.few;
    most = ap (λ (me : Rank Counts). me.most) worked ∙ was.most;
  }
