-- What work leaves unchanged at the post.
use Rattle.std.proofs.Common.{refl, ◌∙◌}
use Rattle.world_core.specs.Post.{PostState}
use Rattle.world_core.specs.Rules.{IsHonest}
use Rattle.world_core.proofs.Posts.CountsNeverFall.{never_fall_refl, never_fall_trans}
use Rattle.comm_rank.specs.Rank.{IsSameRank, Rank, local_of}
use Rattle.comm_rank.specs.Turns.{PutsKeep}
use Rattle.comm_rank.specs.Running.{TakesKeep, WorkKeeps}
use Rattle.comm_rank.proofs.Rank.Same.{same_none, same_then}
use Rattle.comm_rank.proofs.Agrees.AfterTake.{honest_on}

module _ {C : Type 0} (old mid : Rank C) (same : IsSameRank old mid) (a b c : PostState) where
  pub work_then : WorkKeeps old a b → WorkKeeps mid b c → WorkKeeps old a c
  work_then first second = record {
    same = same_then old.here mid.here a b c same.here first.same second.same;
    honest = λ h. honest_on mid old b.log c.log same second.honest (first.honest h);
    stops = λ rank. second.stops rank ∙ first.stops rank;
    halts = second.halts ∙ first.halts;
    counts = never_fall_trans a b c first.counts second.counts;
  }

  pub takes_then : TakesKeep old a b → TakesKeep mid b c → TakesKeep old a c
  takes_then first second = record {
    work = work_then first.work second.work;
    fulls = λ rank. second.fulls rank ∙ first.fulls rank;
  }

  -- takes, followed by puts
  pub puts_then : TakesKeep old a b → PutsKeep mid.here b c → (IsHonest (local_of mid (b.log mid.here)) → IsHonest (local_of mid (c.log mid.here))) → WorkKeeps old a c
  puts_then first second honest = work_then first.work (record {
    same = second.same;
    honest = honest;
    stops = second.stops;
    halts = second.halts;
    counts = second.counts;
  })

pub takes_none : {C : Type 0} (me : Rank C) (a : PostState) → TakesKeep me a a
takes_none me a = record {
  work = record { same = same_none me.here a; honest = λ h. h; stops = λ rank. refl; halts = refl; counts = never_fall_refl a };
  fulls = λ rank. refl;
}
