use Rattle.std.proofs.Common.{◌≡◌, ◌≤◌, ◌<◌, true, false, not, nat_lt, lt-ltb, le-ltb, add-one, refl, sym, ap, ◌∙◌, arith}
use Rattle.list_facts.specs.Below.{some_below}
use Rattle.list_facts.proofs.Below.{some_at}
use Rattle.world_core.specs.Counts.{counts}
use Rattle.world_core.specs.World.{log_of}
use Rattle.world_core.proofs.world.World.is_complete.Goals as goal

pub loop-rank-init : goal.loop-rank-init
unfolding some_below
loop-rank-init c = refl

pub returns-then-counts-q : goal.returns-then-counts-q
returns-then-counts-q c =
    let world = c.args.self.now in
    let rank = c.loop-rank.rank in
    let few : counts (log_of world rank) ≤ c.args.q = omega (arith, c.if-counts-q.true, c.counts.ensures, ap counts c.log.ensures.log) in
    let lacks : not (nat_lt c.args.q (counts (log_of world rank))) ≡ true = (let f : nat_lt c.args.q (counts (log_of world rank)) ≡ false = le-ltb _ _ few in rw f refl) in
    sym (ap not (some_at (λ r. not (nat_lt c.args.q (counts (log_of world r)))) world.layout.ranks rank (omega (arith, c.ranks-rank-end.ensures.value, c.loop-rank-test.true)) lacks))

pub loop-rank-preserved : goal.loop-rank-preserved
unfolding some_below
loop-rank-preserved c =
    let world = c.args.self.now in
    let rank = c.loop-rank.rank in
    let more : c.args.q < counts (log_of world rank) = omega (arith, c.if-counts-q.false, c.counts.ensures, ap counts c.log.ensures.log) in
    let has : nat_lt c.args.q (counts (log_of world rank)) ≡ true = lt-ltb _ _ more in
    ap (some_below (λ r. not (nat_lt c.args.q (counts (log_of world r))))) (add-one rank) ∙ rw (c.loop-rank.invariant, has) refl
