use Rattle.std.proofs.Common.{[], ◌∷◌, lt-ltb, subst, sym, arith}
use Rattle.std.proofs.lemmas.Bool.{false≢true}
use Rattle.msg_codec.specs.Letter.{letter_of}
use Rattle.send_buffers.specs.Buffers.{Buffered, queued}
use Rattle.comm_rank.specs.Held.{Gains}
use Rattle.comm_rank.specs.Store.{IsSameStore}
use Rattle.comm_rank.proofs.Store.Added.{data_added, gains_added}
use Rattle.comm_rank.proofs.Store.SameStore.{same_store_none}
use Rattle.comm_rank.proofs.comm.hold.Goals as goal
use Rattle.comm_rank.proofs.comm.hold.Goals.{then-count-most+in_ok-add, else-count-most}

pub returns-clause-held : goal.returns-clause-held
returns-clause-held c =
    let old = c.args.held.now in
    let l = letter_of c.args.letter in
    elim c.if-count-most.branch [
      | then-count-most+in_ok-add w ↦
          subst (λ (held : Buffered). Gains (queued old.queues) (queued held.queues) (l ∷ [])) (sym w.held-is)
          (gains_added old l _ c.holds.ensures.routed c.holds.ensures.laid_out c.requires.destination w.in_ok-add.ensures.added)
      | else-count-most w ↦ absurd (false≢true (c.in_ok-raise.ensures.refused.1 (omega (arith, w.if-count-most.false, c.requires.limit))))
    ]

pub returns-clause-same : goal.returns-clause-same
returns-clause-same c =
    let old = c.args.held.now in
    let l = letter_of c.args.letter in
    elim c.if-count-most.branch [
      | then-count-most+in_ok-add w ↦
          subst (IsSameStore old) (sym w.held-is) (record {
            place = w.add.ensures.place;
            data_alone = data_added old l _ c.holds.ensures.routed c.holds.ensures.laid_out c.requires.destination w.in_ok-add.ensures.added (lt-ltb _ _ c.requires.tag);
          })
      | else-count-most w ↦ subst (IsSameStore old) (sym w.held-is) (same_store_none old)
    ]
