-- What a take from one rank does to a rank that belongs to the post.
use Rattle.std.proofs.Common.{◌≡◌, ℕ, ◌+◌, ◌<◌, ◌≤◌, Bool, true, false, List, [], ◌++◌, length, append-nil, refl, ap, sym, ◌∙◌, subst, inl, inr, arith}
use Rattle.std.specs.List.{AllByRecursion, filter}
use Rattle.msg_codec.specs.Control.{is_control}
use Rattle.msg_codec.specs.declared.letter.Letter.{Letter}
use Rattle.ygm_route.specs.Layout.{IsLayout, Shape}
use Rattle.world_core.specs.declared.entry.Entry.{Entry}
use Rattle.world_core.specs.Limits.{most_arrived}
use Rattle.world_core.specs.Pairs.{for_rank}
use Rattle.world_core.specs.Post.{CountsNeverFall, TakeKeeps, PostState, TookBatch, TookNone}
use Rattle.world_core.specs.Rules.{IsHonest}
use Rattle.world_core.proofs.Posts.CountsNeverFall.{after_took, after_took_none}
use Rattle.list_facts.proofs.Elements.{all_weaker}
use Rattle.comm_rank.specs.declared.fault.CommFault.{CommFault}
use Rattle.comm_rank.specs.Agrees.{Agrees, Belongs, MayTurn}
use Rattle.comm_rank.specs.Fold.{Applies}
use Rattle.comm_rank.specs.Rank.{IsSameRank, Rank, local_of}
use Rattle.comm_rank.specs.Running.{HasPassed, HasTakenFrom, IsControl, IsTaken, StuckIn, TakesKeep, TookBelow, TookFrom, WasCutFrom, begins_with_control, for_handlers}
use Rattle.comm_rank.specs.Turns.{other_end}
use Rattle.comm_rank.proofs.Agrees.Arrived.{Brings}
use Rattle.comm_rank.proofs.Running.Passed.{passed_none}
use Rattle.comm_rank.proofs.Rank.Same.{belongs_still}
use Rattle.comm_rank.proofs.Agrees.AfterTake.{Arrival, agrees_now, arrival, cut_from, few_run, honest_took, may_turn_now, not_looked_none, same_log, taken_here, taken_other, took_from}
use Rattle.comm_rank.proofs.Running.TookBelow.{took_nothing}

-- a rank's layout is that of its buffers
pub laid_out_as : {C : Type 0} (was old : Rank C) {layout : Shape} → was ≡ old → layout ≡ was.layout → IsLayout layout → IsLayout old.layout
laid_out_as {C} was old e is laid_out = subst IsLayout (is ∙ ap (λ (me : Rank C). me.layout) e) laid_out

-- the letters of a batch for handlers, by its first letter
pub all_for_handlers : (batch : List Letter) (control : Bool) → control ≡ begins_with_control batch → control ≡ false → for_handlers batch ≡ batch
all_for_handlers batch control is none = rw (sym is ∙ none) refl

pub none_for_handlers : (batch : List Letter) (control : Bool) → control ≡ begins_with_control batch → control ≡ true → for_handlers batch ≡ []
none_for_handlers batch control is some = rw (sym is ∙ some) refl

module _ {C : Type 0} (apply : Applies C) (start : C → C) (old : Rank C) (there from : ℕ) (before after : PostState) (e : there ≡ old.here) (belongs : Belongs apply start old before) (may : MayTurn old (before.log old.here)) (keeps : TakeKeeps there before after) where
  takes_keep : CountsNeverFall before after → (IsHonest (local_of old (before.log old.here)) → IsHonest (local_of old (after.log old.here))) → TakesKeep old before after
  takes_keep counts honest = record {
    work = record { same = same_log there old.here before after e keeps.same; honest = honest; stops = keeps.stops; halts = keeps.halts; counts = counts };
    fulls = keeps.fulls;
  }

  -- ---- nothing was there

  module _ (none : TookNone there from before after) where
    log_same : after.log old.here ≡ before.log old.here
    log_same = let P : ℕ → Type 0 = λ h. after.log h ≡ before.log h in subst P e none.log

    pub none_keeps : TakesKeep old before after
    none_keeps =
        let P : List _ → Type 0 = λ xs. IsHonest (local_of old xs) in
        takes_keep (after_took_none there from before after keeps none) (λ h. subst P (sym log_same) h)

    no_batch : TookFrom from apply old old (before.log old.here) (after.log old.here) 0
    no_batch =
        let log = before.log old.here in
        let none : TookBelow 0 apply old old log log 0 = took_nothing apply old log 0 belongs.agrees.nothing_waits in
        let P : List Entry → Type 0 = λ xs. TookFrom from apply old old log xs 0 in
        subst P (sym log_same) (record {
          all = none.all;
          alone = all_weaker (λ entry. other_end entry < 0) (λ entry. other_end entry ≡ from) none.all.taken (λ entry below. absurd (omega (arith, below))) none.below;
          one = omega arith;
        })

    pub none_taken : HasTakenFrom from apply start old old before after 0
    none_taken = record {
      taken = no_batch;
      belongs = belongs_still apply start old there before after keeps.same log_same belongs;
      may_turn = subst (λ log. MayTurn old log) (sym log_same) may;
      looked = inr none.misses.rose;
      others = λ other ne. not_looked_none there old.here other before after e none.log (none.misses.others other ne);
    }

  -- ---- a batch was there

  module _ (batch : List Letter) (took : TookBatch there from batch before after) (laid_out : IsLayout old.layout) where
    arrived : Arrival old before after from batch
    arrived = arrival apply start old there before after from batch e keeps.same belongs laid_out took

    pub batch_keeps : TakesKeep old before after
    batch_keeps = takes_keep (after_took there from batch before after keeps took) (honest_took old (before.log old.here) (after.log old.here) from batch arrived.gained)

    -- these of its letters are for handlers
    module _ (letters : List Letter) (is : for_handlers batch ≡ letters) where
      brings : Brings old.layout.ranks old.here batch letters
      brings = subst (Brings old.layout.ranks old.here batch) is arrived.brings

      pub letters_taken_here : AllByRecursion (IsTaken old.layout.ranks old.here) letters
      letters_taken_here = brings.taken

      pub batch_few : old.run_count + length (for_rank old.here letters) ≤ most_arrived
      batch_few = omega (arith, few_run apply start old before after from batch arrived belongs.agrees, ap (λ xs. length (for_rank old.here xs)) is)

      module _ (new : Rank C) (same : IsSameRank old new) (kept : new.controls ≡ old.controls ++ filter is_control batch) where
        pub batch_cut : (fault : CommFault) → StuckIn apply old new letters fault → WasCutFrom from apply old new (before.log old.here) (after.log old.here) fault
        batch_cut fault stuck = cut_from apply old new (before.log old.here) (after.log old.here) from batch letters same arrived.gained brings kept belongs.agrees.nothing_waits fault stuck

        pub batch_taken : ((c : C) (here ranks : ℕ) (l : Letter) → start (apply c here ranks l).0 ≡ start c) → new.waiting ≡ [] → HasPassed apply old new letters → HasTakenFrom from apply start old new before after 1
        batch_taken started none passed =
            let log = before.log old.here in
            let now = after.log old.here in
            let agrees : Agrees apply start new now = agrees_now apply old new log now from batch letters same arrived.gained brings kept start started belongs.agrees none passed arrived.modest in
            let P : ℕ → Type 0 = λ h. Agrees apply start new (after.log h) in
            record {
              taken = took_from apply old new log now from batch letters same arrived.gained brings kept belongs.agrees.nothing_waits none passed;
              belongs = record {
                serves = ap after.serves same.here ∙ keeps.same.serves old.here ∙ belongs.serves;
                layout = keeps.same.layout ∙ belongs.layout ∙ sym same.layout;
                scheme = keeps.same.scheme ∙ belongs.scheme ∙ sym same.scheme;
                agrees = subst P (sym same.here) agrees;
              };
              may_turn = may_turn_now apply old new log now from batch letters same arrived.gained brings kept passed may;
              looked = inl (taken_here from batch log now arrived.gained);
              others = λ other ne. record { taken = taken_other from other batch log now arrived.gained ne; misses = took.misses other };
            }

    -- a batch of data letters holds no control letter
    pub none_kept : (control : Bool) → control ≡ begins_with_control batch → control ≡ false → (new : Rank C) → new.controls ≡ old.controls → new.controls ≡ old.controls ++ filter is_control batch
    none_kept control is none new same =
        let nothing : filter is_control batch ≡ [] = arrived.controls ∙ rw (sym is ∙ none) refl in
        same ∙ sym (ap (λ xs. old.controls ++ xs) nothing ∙ append-nil old.controls)

    pub control_read : (control : Bool) → control ≡ begins_with_control batch → control ≡ true → IsControl batch
    control_read control is some = arrived.read (sym is ∙ some)

    -- a control letter is kept, and the rank is otherwise unchanged
    pub control_taken : (control : Bool) → control ≡ begins_with_control batch → control ≡ true → (controls : List Letter) → controls ≡ old.controls ++ batch →
        ((c : C) (here ranks : ℕ) (l : Letter) → start (apply c here ranks l).0 ≡ start c) → HasTakenFrom from apply start old (record old { controls = controls }) before after 1
    control_taken control is some controls more started =
        let all : filter is_control batch ≡ batch = arrived.controls ∙ rw (sym is ∙ some) refl in
        let new : Rank C = record old { controls = controls } in
        let nothing : HasPassed apply old old [] = passed_none apply old in
        batch_taken [] (none_for_handlers batch control is some) new (record { layout = refl; scheme = refl; here = refl; most = refl }) (more ∙ ap (λ xs. old.controls ++ xs) (sym all)) started
        belongs.agrees.nothing_waits (record { contents = nothing.contents; held = nothing.held; run_count = nothing.run_count; sent_count = nothing.sent_count; told = nothing.told })
