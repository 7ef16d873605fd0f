-- No call of a post makes a count fall.
use Rattle.std.proofs.Common.{◌≡◌, ◌≢◌, ℕ, ◌≤◌, Bool, true, false, None, Some, Option, Ok, Err, Result, List, refl, inl, inr, le_trans, arith}
use Rattle.std.specs.Option.{IfSome, IsNone}
use Rattle.std.specs.Result.{OnOk}
use Rattle.std.proofs.lemmas.Bool.{cases_eq}
use Rattle.msg_codec.specs.declared.letter.Letter.{Letter}
use Rattle.world_core.specs.declared.post.PutBack.{PutBack}
use Rattle.world_core.specs.declared.post.PutBack.TheVariants.{Full, NoMemory}
use Rattle.world_core.specs.Post.{CountsNeverFall, IfFull, IfNoMemory, LookKeeps, PutDone, PutFoundFull, PutHadNoMemory, PutKeeps, RaiseKeeps, SawNoStop, SawStop, TakeKeeps, PostState, TookBatch, TookNone}

pub same : {a b : ℕ} → b ≡ a → a ≤ b
same e = omega (arith, e)

pub never_fall_refl : (state : PostState) → CountsNeverFall state state
never_fall_refl state = record { fulls = λ rank. same refl; misses = λ rank. same refl; halts = same refl }

pub never_fall_trans : (a b c : PostState) → CountsNeverFall a b → CountsNeverFall b c → CountsNeverFall a c
never_fall_trans a b c f s = record {
  fulls = λ rank. le_trans (f.fulls rank) (s.fulls rank);
  misses = λ rank. le_trans (f.misses rank) (s.misses rank);
  halts = le_trans f.halts s.halts;
}

-- counts of which one rose, and no other
one_rose : (rank : ℕ) (old new : ℕ → ℕ) → old rank ≤ new rank → ((other : ℕ) → other ≢ rank → new other ≡ old other) → (other : ℕ) → old other ≤ new other
one_rose rank old new rose others other = elim (cases_eq other rank) [
  | inl e ↦ rw e rose
  | inr apart ↦ same (others other apart)
]

-- ---- each call

pub after_put_done : (here to : ℕ) (batch : List Letter) (old new : PostState) → PutKeeps here old new → PutDone here to batch old new → CountsNeverFall old new
after_put_done here to batch old new keeps done = record {
  fulls = λ rank. same (done.fulls rank);
  misses = λ rank. same (keeps.misses rank);
  halts = same keeps.halts;
}

pub after_put_full : (here to : ℕ) (old new : PostState) → PutKeeps here old new → PutFoundFull here to old new → CountsNeverFall old new
after_put_full here to old new keeps full = record {
  fulls = one_rose to old.fulls new.fulls full.fulls.never_falls full.fulls.others;
  misses = λ rank. same (keeps.misses rank);
  halts = same keeps.halts;
}

pub after_put_no_memory : (here : ℕ) (old new : PostState) → PutKeeps here old new → PutHadNoMemory here old new → CountsNeverFall old new
after_put_no_memory here old new keeps none = record {
  fulls = λ rank. same (none.fulls rank);
  misses = λ rank. same (keeps.misses rank);
  halts = same keeps.halts;
}

-- a put, whatever it returns
pub after_put : (here to : ℕ) (batch : List Letter) (old new : PostState) (r : Result (Unit {0}) PutBack) → PutKeeps here old new →
    OnOk r (PutDone here to batch old new) → IfFull r (PutFoundFull here to old new) → IfNoMemory r (PutHadNoMemory here old new) → CountsNeverFall old new
after_put here to batch old new (Ok done) keeps d f n = after_put_done here to batch old new keeps d
after_put here to batch old new (Err (Full back)) keeps d f n = after_put_full here to old new keeps f
after_put here to batch old new (Err (NoMemory back)) keeps d f n = after_put_no_memory here old new keeps n

pub after_took : (here from : ℕ) (batch : List Letter) (old new : PostState) → TakeKeeps here old new → TookBatch here from batch old new → CountsNeverFall old new
after_took here from batch old new keeps took = record {
  fulls = λ rank. same (keeps.fulls rank);
  misses = λ rank. same (took.misses rank);
  halts = same keeps.halts;
}

pub after_took_none : (here from : ℕ) (old new : PostState) → TakeKeeps here old new → TookNone here from old new → CountsNeverFall old new
after_took_none here from old new keeps none = record {
  fulls = λ rank. same (keeps.fulls rank);
  misses = one_rose from old.misses new.misses none.misses.never_falls none.misses.others;
  halts = same keeps.halts;
}

-- a take, whatever it returns
pub after_take : (here from : ℕ) (old new : PostState) (r : Option (List Letter)) → TakeKeeps here old new →
    IfSome r (λ batch. TookBatch here from batch old new) → (IsNone r → TookNone here from old new) → CountsNeverFall old new
after_take here from old new None keeps took none = after_took_none here from old new keeps (none refl)
after_take here from old new (Some batch) keeps took none = after_took here from batch old new keeps took

pub after_raise : (here : ℕ) (old new : PostState) → RaiseKeeps here old new → CountsNeverFall old new
after_raise here old new keeps = record {
  fulls = λ rank. same (keeps.fulls rank);
  misses = λ rank. same (keeps.misses rank);
  halts = same keeps.halts;
}

-- a look at the stop, whatever it returns
pub after_look : (here : ℕ) (old new : PostState) (r : Bool) → LookKeeps here old new → (r ≡ true → SawStop old new) → (r ≡ false → SawNoStop old new) → CountsNeverFall old new
after_look here old new true keeps saw none = record {
  fulls = λ rank. same (keeps.fulls rank);
  misses = λ rank. same (keeps.misses rank);
  halts = (saw refl).never_falls;
}
after_look here old new false keeps saw none = record {
  fulls = λ rank. same (keeps.fulls rank);
  misses = λ rank. same (keeps.misses rank);
  halts = same (none refl).halts;
}
