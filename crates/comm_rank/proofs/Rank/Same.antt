-- What calls leave unchanged of a rank, and of a post.
use Rattle.std.proofs.Common.{◌≡◌, ℕ, Bool, refl, sym, ap, ◌∙◌, subst}
use Rattle.world_core.specs.Post.{SamePost, PostState}
use Rattle.comm_rank.specs.Agrees.{Agrees, Belongs}
use Rattle.comm_rank.specs.Fold.{Applies}
use Rattle.comm_rank.specs.Rank.{IsSameRank, OnlyRan, Rank, Worked}

pub same_rank_none : {C : Type 0} (me : Rank C) → IsSameRank me me
same_rank_none me = record { layout = refl; scheme = refl; here = refl; most = refl }

pub same_rank_more : {C : Type 0} (a b c : Rank C) → IsSameRank a b → IsSameRank b c → IsSameRank a c
same_rank_more a b c first second = record {
  layout = second.layout ∙ first.layout;
  scheme = second.scheme ∙ first.scheme;
  here = second.here ∙ first.here;
  most = second.most ∙ first.most;
}

-- after work the rank is still the same rank, even if it was stopped meanwhile
pub worked_same : {C : Type 0} (old new : Rank C) (stopped : Bool) → Worked (record old { stopped = stopped }) new → IsSameRank old new
worked_same {C} old new stopped w = record {
  layout = ap (λ (me : Rank C). me.layout) w;
  scheme = ap (λ (me : Rank C). me.scheme) w;
  here = ap (λ (me : Rank C). me.here) w;
  most = ap (λ (me : Rank C). me.most) w;
}

pub same_rank : {C : Type 0} (old new : Rank C) → Worked old new → IsSameRank old new
same_rank {C} old new w = record {
  layout = ap (λ (me : Rank C). me.layout) w;
  scheme = ap (λ (me : Rank C). me.scheme) w;
  here = ap (λ (me : Rank C). me.here) w;
  most = ap (λ (me : Rank C). me.most) w;
}

pub same_ran : {C : Type 0} (old new : Rank C) → OnlyRan old new → IsSameRank old new
same_ran {C} old new w = record {
  layout = ap (λ (me : Rank C). me.layout) w;
  scheme = ap (λ (me : Rank C). me.scheme) w;
  here = ap (λ (me : Rank C). me.here) w;
  most = ap (λ (me : Rank C). me.most) w;
}

-- letters that ran, after others
pub ran_then : {C : Type 0} (a b c : Rank C) → OnlyRan a b → OnlyRan b c → OnlyRan a c
ran_then {C} a b c first second =
    let P : Rank C → Type 0 = λ r. c ≡ record r { contents = c.contents; sent_count = c.sent_count; run_count = c.run_count; held = c.held; waiting = c.waiting; heard = c.heard } in
    subst P first second

-- two pieces of work, one after the other
pub worked_then : {C : Type 0} (a b c : Rank C) → Worked a b → Worked b c → Worked a c
worked_then {C} a b c first second =
    let P : Rank C → Type 0 = λ r. c ≡ record r { contents = c.contents; sent_count = c.sent_count; run_count = c.run_count; held = c.held; waiting = c.waiting; controls = c.controls; heard = c.heard } in
    subst P first second

-- ---- a post

pub same_none : (here : ℕ) (a : PostState) → SamePost here a a
same_none here a = record { layout = refl; scheme = refl; ring = refl; batches = refl; serves = λ rank. refl; other_logs = λ rank ne. refl }

pub same_then : (here there : ℕ) (a b c : PostState) → there ≡ here → SamePost here a b → SamePost there b c → SamePost here a c
same_then here there a b c e first second = record {
  layout = second.layout ∙ first.layout;
  scheme = second.scheme ∙ first.scheme;
  ring = second.ring ∙ first.ring;
  batches = second.batches ∙ first.batches;
  serves = λ rank. second.serves rank ∙ first.serves rank;
  other_logs = λ rank ne. second.other_logs rank (λ f. ne (f ∙ e)) ∙ first.other_logs rank ne;
}

-- a rank still belongs to the post where its log there is unchanged
pub belongs_still : {C : Type 0} (apply : Applies C) (start : C → C) (me : Rank C) (here : ℕ) (a b : PostState) → SamePost here a b → b.log me.here ≡ a.log me.here →
    Belongs apply start me a → Belongs apply start me b
belongs_still apply start me here a b same log belongs = record {
  serves = same.serves me.here ∙ belongs.serves;
  layout = same.layout ∙ belongs.layout;
  scheme = same.scheme ∙ belongs.scheme;
  agrees = subst (Agrees apply start me) (sym log) belongs.agrees;
}
