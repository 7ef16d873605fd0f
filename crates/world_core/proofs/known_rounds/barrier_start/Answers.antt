use Rattle.std.proofs.Common.{◌≡◌, ◌+◌, pred, refl, sym, ap, ◌∙◌, add-one, below_more, arith}
use Rattle.world_core.specs.Counts.{total_taken}
use Rattle.world_core.specs.Rounds.{Sums, ends, first_round, sums_told}
use Rattle.world_core.specs.Trial.{sums_of}
use Rattle.world_core.proofs.Counts.NumbersRead.{read_nothing, read_some}
use Rattle.world_core.proofs.Rounds.Stepwise.{ends_now, first_next, start_is}
use Rattle.world_core.proofs.known_rounds.barrier_start.Goals as goal
use Rattle.world_core.proofs.known_rounds.barrier_start.Goals.{then-ends_from, else-ends_from}

pub loop-q-init : goal.loop-q-init
unfolding first_round
loop-q-init c = record { first = refl; known = λ j h. absurd (omega arith); before = λ h. absurd (omega arith) }

pub returns-in-None : goal.returns-in-None
returns-in-None c =
    c.loop-q.invariant.first
    ∙ sym (start_is c.args.here c.args.log.now c.loop-q.q (omega arith) c.loop-q.invariant.known
    (λ h. read_nothing (total_taken c.args.here c.loop-q.q c.args.log.now) (sym c.in-None.is ∙ c.total_taken.ensures)))

pub loop-q-preserved : goal.loop-q-preserved
loop-q-preserved c =
    let told = sums_told c.args.here c.args.log.now in
    let read = read_some (total_taken c.args.here c.loop-q.q c.args.log.now) c.in-Some.told (sym c.in-Some.is ∙ c.total_taken.ensures) in
    let known = below_more _ _ c.loop-q.invariant.known read.0 in
    let sums : Sums = record { sent = c.from.result; run = c.from-in-Some.result } in
    let now : sums ≡ told c.loop-q.q = rw (c.from.ensures, c.from-in-Some.ensures) read.1 in
    let this : sums ≡ told (pred (c.loop-q.q + 1)) = rw (add-one c.loop-q.q) now in
    let ended : c.ends_from.result ≡ ends told c.loop-q.q =
    c.ends_from.ensures ∙ ends_now told c.loop-q.q c.loop-q.first (sums_of c.loop-q.before) sums c.loop-q.invariant.first c.loop-q.invariant.before now in
    elim c.if-ends_from.branch [
      | then-ends_from w ↦
          let more = rw (sym ended ∙ w.if-ends_from.true) at (first_next told c.loop-q.q) in
          record { first = w.first-is ∙ sym more; known = known; before = λ h. ap sums_of w.before-is ∙ this }
      | else-ends_from w ↦
          let same = rw (sym ended ∙ w.if-ends_from.false) at (first_next told c.loop-q.q) in
          record { first = w.first-is ∙ c.loop-q.invariant.first ∙ sym same; known = known; before = λ h. ap sums_of w.before-is ∙ this }
    ]

pub returns : goal.returns
returns c =
    c.loop-q.invariant.first
    ∙ sym (start_is c.args.here c.args.log.now c.loop-q.q (omega arith) c.loop-q.invariant.known (λ h. absurd (omega arith)))
