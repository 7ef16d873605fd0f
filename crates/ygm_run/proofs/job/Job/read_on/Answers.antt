use Rattle.std.proofs.Common.{sym}
use Rattle.std.proofs.lemmas.Bool.{false≢true}
use Rattle.ygm_run.proofs.RankJobs.Read.{met_end, met_fault, met_too_long, reads_on, took_line}
use Rattle.ygm_run.proofs.job.Job.read_on.Goals as goal
use Rattle.ygm_run.proofs.job.Job.read_on.Goals.{in-Ok-Line+in_ok-count_insert-in-Ok-Line+in-Heap-1, in-Ok-Line+in_ok-count_insert-in-Ok-Line+in-Inline-1, in-Ok-More, in-Ok-End, in-Err-ReadFault, in-Err-LineTooLong}

pub returns-clause-read : goal.returns-clause-read
returns-clause-read g c =
    let left = g.S.Source.left in
    let faults = g.S.Source.faults in
    let old = c.args.self.now in
    let one = c.args.comm.now in
    let before = c.args.source.now in
    let now = c.turn.new.src in
    elim c.match-turn.branch [
      | in-Ok-Line+in_ok-count_insert-in-Ok-Line+in-Heap-1 w ↦
          rw (w.self-is, w.comm-is, sym c.self.view_is)
          (took_line left faults _ c.turn.new.self one w.count_insert.new.comm before now w.in-Ok-Line.line w.as_slice.result.now
          (rw w.in-Ok-Line.field-0-is at w.in-Ok-Line.ensures.turned) (rw w.in-Ok-Line.field-0-is at w.in-Ok-Line.ensures.each_turn)
          w.as_slice.ensures.bytes (λ full. false≢true (w.in_ok-count_insert-in-Ok-Line.ensures.full full)) w.in_ok-count_insert-in-Ok-Line.ensures.sent)
      | in-Ok-Line+in_ok-count_insert-in-Ok-Line+in-Inline-1 w ↦
          rw (w.self-is, w.comm-is, sym c.self.view_is)
          (took_line left faults _ c.turn.new.self one w.count_insert.new.comm before now w.in-Ok-Line.line w.as_slice.result.now
          (rw w.in-Ok-Line.field-0-is at w.in-Ok-Line.ensures.turned) (rw w.in-Ok-Line.field-0-is at w.in-Ok-Line.ensures.each_turn)
          w.as_slice.ensures.bytes (λ full. false≢true (w.in_ok-count_insert-in-Ok-Line.ensures.full full)) w.in_ok-count_insert-in-Ok-Line.ensures.sent)
      | in-Ok-More w ↦
          rw (w.self-is, w.comm-is, sym c.self.view_is)
          (reads_on left faults _ c.turn.new.self one before now (rw w.in-Ok-More.field-0-is at w.in-Ok-More.ensures.turned) (rw w.in-Ok-More.field-0-is at w.in-Ok-More.ensures.each_turn))
      | in-Ok-End w ↦
          rw (w.self-is, w.comm-is, sym c.self.view_is)
          (met_end left faults _ c.turn.new.self one before now (rw w.in-Ok-End.field-0-is at w.in-Ok-End.ensures.turned)
          (rw w.in-Ok-End.field-0-is at w.in-Ok-End.ensures.each_turn))
      | in-Err-ReadFault w ↦
          rw (w.self-is, w.comm-is, sym c.self.view_is)
          (met_fault left faults _ c.turn.new.self one before now (rw w.in-Err-ReadFault.field-0-is at w.in-Err-ReadFault.ensures.turned)
          (rw w.in-Err-ReadFault.field-0-is at w.in-Err-ReadFault.ensures.each_turn))
      | in-Err-LineTooLong w ↦
          rw (w.self-is, w.comm-is, sym c.self.view_is)
          (met_too_long left faults _ c.turn.new.self one before now w.in-Err-LineTooLong.line
          (rw w.in-Err-LineTooLong.field-0-is at w.in-Err-LineTooLong.ensures.turned) (rw w.in-Err-LineTooLong.field-0-is at w.in-Err-LineTooLong.ensures.each_turn))
    ]

pub returns-clause-agrees : goal.returns-clause-agrees
returns-clause-agrees g c = elim c.match-turn.branch [
  | in-Ok-Line+in_ok-count_insert-in-Ok-Line+in-Heap-1 w ↦ λ log was. rw w.comm-is (w.in_ok-count_insert-in-Ok-Line.ensures.agrees log was)
  | in-Ok-Line+in_ok-count_insert-in-Ok-Line+in-Inline-1 w ↦ λ log was. rw w.comm-is (w.in_ok-count_insert-in-Ok-Line.ensures.agrees log was)
  | in-Ok-More w ↦ λ log was. rw w.comm-is was
  | in-Ok-End w ↦ λ log was. rw w.comm-is was
  | in-Err-ReadFault w ↦ λ log was. rw w.comm-is was
  | in-Err-LineTooLong w ↦ λ log was. rw w.comm-is was
]
