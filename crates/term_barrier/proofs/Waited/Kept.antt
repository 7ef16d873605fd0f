-- What two steps, one after the other, leave unchanged of a rank, of its post and of its barrier.
use Rattle.std.proofs.Common.{Bool, true, refl, ◌∙◌}
use Rattle.world_core.specs.Post.{PostState}
use Rattle.world_core.proofs.Posts.CountsNeverFall.{never_fall_refl, never_fall_trans}
use Rattle.comm_rank.specs.Rank.{IsSameRank, Rank, Worked}
use Rattle.comm_rank.specs.Turns.{KeepsPost}
use Rattle.comm_rank.proofs.Agrees.AfterTake.{honest_on}
use Rattle.comm_rank.proofs.Rank.Same.{same_none, same_then}
use Rattle.term_barrier.specs.Barriers.{BarrierState}
use Rattle.term_barrier.specs.Polls.{IsSameBarrier}

pub keeps_post_none : {C : Type 0} (me : Rank C) (post : PostState) → KeepsPost me post post
keeps_post_none me post = record {
  same = same_none me.here post;
  honest = λ h. h;
  other_stops = λ rank other. refl;
  counts = never_fall_refl post;
}

pub keeps_post_then : {C : Type 0} (one me : Rank C) (a b c : PostState) → IsSameRank one me →
    KeepsPost one a b → KeepsPost me b c → KeepsPost one a c
keeps_post_then one me a b c same first later = record {
  same = same_then one.here me.here a b c same.here first.same later.same;
  honest = λ h. honest_on me one b.log c.log same later.honest (first.honest h);
  other_stops = λ rank other. later.other_stops rank (λ e. other (e ∙ same.here)) ∙ first.other_stops rank other;
  counts = never_fall_trans a b c first.counts later.counts;
}

-- the same rank did some work, and then some more, after which it is stopped or not
pub worked_again : {C : Type 0} (one me now : Rank C) (stopped : Bool) → IsSameRank one me →
    Worked (record me { stopped = stopped }) now → Worked (record one { stopped = stopped }) now
worked_again {C} one me now stopped same worked = worked ∙ rw (same.layout, same.scheme, same.here, same.most) refl

pub same_barrier_none : (barrier : BarrierState) → IsSameBarrier barrier barrier
same_barrier_none barrier = record { layout = refl; here = refl; rounds = refl }

pub same_barrier_then : (a b c : BarrierState) → IsSameBarrier a b → IsSameBarrier b c → IsSameBarrier a c
same_barrier_then a b c first later = record {
  layout = later.layout ∙ first.layout;
  here = later.here ∙ first.here;
  rounds = later.rounds ∙ first.rounds;
}

-- since before it was entered
pub same_since_outside : (outside b c : BarrierState) → IsSameBarrier (record outside { inside = true }) b →
    IsSameBarrier b c → IsSameBarrier outside c
same_since_outside outside b c first later =
    let both = same_barrier_then (record outside { inside = true }) b c first later in
    record { layout = both.layout; here = both.here; rounds = both.rounds }
