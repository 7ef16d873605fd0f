-- What came for a rank has run or waits.
use Rattle.std.proofs.Common.{◌≡◌, ℕ, List, ◌++◌, refl, sym, ap, ◌∙◌, subst, append-nil, append_assoc}
use Rattle.world_core.specs.declared.entry.Entry.{Entry}
use Rattle.world_core.specs.Log.{letters_taken}
use Rattle.world_core.specs.Pairs.{arrived, for_rank}
use Rattle.comm_rank.specs.Agrees.{Agrees}
use Rattle.comm_rank.specs.Fold.{Applies}
use Rattle.comm_rank.specs.Rank.{Rank, ran_at}
use Rattle.comm_rank.specs.Turns.{CutOff}
use Rattle.comm_rank.proofs.Agrees.AfterPuts.{same_taken}
use Rattle.comm_rank.proofs.Agrees.Arrived.{ran_all, ran_is}
use Rattle.comm_rank.proofs.Running.TookBelow.{taken_append}

pub came_agrees : {C : Type 0} (apply : Applies C) (start : C → C) (me : Rank C) (log : List Entry) → Agrees apply start me log → arrived me.here log ≡ ran_at me log ++ for_rank me.here me.waiting
came_agrees apply start me log agrees =
    sym (ran_all me log agrees.nothing_waits) ∙ sym (append-nil (ran_at me log)) ∙ ap (λ xs. ran_at me log ++ for_rank me.here xs) (sym agrees.nothing_waits)

pub came_cut : {C : Type 0} (apply : Applies C) (old me : Rank C) (before after : List Entry) → me.here ≡ old.here → CutOff apply old me before after →
    arrived me.here after ≡ ran_at me after ++ for_rank me.here me.waiting
came_cut apply old me before after here cut =
    let P : ℕ → Type 0 = λ h. for_rank h (letters_taken cut.taken) ≡ cut.run ++ for_rank h me.waiting in
    let was = arrived me.here before in
    let whole : arrived me.here after ≡ (was ++ cut.run) ++ for_rank me.here me.waiting =
    ap (arrived me.here) cut.gained.log ∙ ap (for_rank me.here) (same_taken cut.placed (before ++ cut.taken) cut.gained.puts) ∙ taken_append me.here before cut.taken
    ∙ ap (λ xs. was ++ xs) (subst P (sym here) cut.arrived) ∙ sym (append_assoc was cut.run (for_rank me.here me.waiting)) in
    whole ∙ ap (λ xs. xs ++ for_rank me.here me.waiting) (sym (ran_is me after (was ++ cut.run) (for_rank me.here me.waiting) whole refl))
