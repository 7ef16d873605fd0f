-- What a rank carries speaks of its own letters and of its rounds value by value.
use Rattle.std.proofs.Common.{◌≡◌, ℕ, ◌<◌, List, length, sym, ap, ◌∙◌, subst, arith}
use Rattle.msg_codec.specs.declared.letter.Letter.{Letter}
use Rattle.world_core.specs.declared.entry.Entry.{Entry}
use Rattle.world_core.specs.Counts.{before_count}
use Rattle.world_core.specs.Local.{Local}
use Rattle.world_core.specs.Post.{PostState}
use Rattle.comm_rank.specs.Fold.{Applies}
use Rattle.comm_rank.specs.Rank.{Rank, held_letters, local_of}
use Rattle.term_barrier.specs.Account.{RankHandler, handler_of}
use Rattle.term_barrier.specs.Barriers.{BarrierState}
use Rattle.term_barrier.specs.Carried.{Carries, own_cuts}
use Rattle.term_barrier.specs.CountedPlace.{IsCountedPlace}
use Rattle.term_barrier.specs.Cuts.{phase_start}
use Rattle.term_barrier.specs.Left.{HasLeft, left_cut}
use Rattle.term_barrier.proofs.Account.Kept.{account_same, same_start}
use Rattle.term_barrier.proofs.CountedPlace.Kept.{counted_same}

pub carries_same : {C : Type 0} (apply : Applies C) (start : C → C) (own other : ℕ → ℕ → List Letter) (rounds other_rounds : ℕ → ℕ)
    (barrier : BarrierState) (me : Rank C) (post : PostState) → ((k to : ℕ) → other k to ≡ own k to) →
    ((k : ℕ) → k < barrier.left → other_rounds k ≡ rounds k) →
    Carries apply start own rounds barrier me post → Carries apply start other other_rounds barrier me post
carries_same {C} apply start own other rounds other_rounds barrier me post owns same carries =
    let phase = barrier.left in
    let phases = carries.phases in
    let log : List Entry = post.log me.here in
    let now : Local = local_of me log in
    let handler : RankHandler C = handler_of apply start me in
    let held : List Letter = held_letters me in
    let old_cuts : ℕ → ℕ = own_cuts now rounds in
    let cuts : ℕ → ℕ = own_cuts now other_rounds in
    let same_cuts : (k : ℕ) → k < phase → cuts k ≡ old_cuts k = λ k lt. ap (left_cut now) (same k lt) in
    let begins = same_start handler own other old_cuts cuts phase held log same_cuts (λ k to le. owns k to) phase (omega arith) in
    record {
      stands = carries.stands;
      phases = record {
        left = λ k lt. subst (HasLeft now k) (sym (same k lt)) (phases.left k lt);
        account = account_same handler own other old_cuts cuts phase held log same_cuts (λ k to le. owns k to) phases.account;
        places = λ q since put.
            let place = length (before_count q log) in
            subst (λ begin. IsCountedPlace handler (other phase) begin place held log) (sym begins)
            (counted_same handler (own phase) (other phase) (phase_start old_cuts phase) place held log (owns phase) (phases.places q since put));
        none_outside = phases.none_outside;
        none_later = λ k to lt. owns k to ∙ phases.none_later k to lt;
      };
    }
