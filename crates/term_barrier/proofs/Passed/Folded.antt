-- The contents of a rank are the fold of what arrived in all phases.
use Rattle.std.proofs.Common.{◌≡◌, ℕ, ◌<◌, ◌≤◌, List, [], ◌++◌, drop, take, sym, ap, ◌∙◌, append-nil}
use Rattle.msg_codec.specs.declared.letter.Letter.{Letter}
use Rattle.world_core.specs.declared.entry.Entry.{Entry}
use Rattle.world_core.specs.Pairs.{arrived}
use Rattle.comm_rank.specs.Fold.{Applies, fold_from}
use Rattle.comm_rank.specs.Rank.{Rank, held_letters}
use Rattle.term_barrier.specs.Account.{Account, IsUpToDate, handler_of}
use Rattle.term_barrier.specs.CompleteRun.{earlier}
use Rattle.term_barrier.specs.Cuts.{phase_part, phase_start}
use Rattle.term_barrier.proofs.Cuts.Arrivals.{earlier_arrived}
use Rattle.term_barrier.proofs.Cuts.Joined.{arrived_cut}

-- where each phase begins before its cut
pub contents_by_phases : {C : Type 0} (apply : Applies C) (start : C → C) (me : Rank C) (log : List Entry)
    (cut : ℕ → ℕ) (phases : ℕ) → IsUpToDate apply start me log →
    ((k : ℕ) → k < phases → phase_start cut k ≤ cut k) →
    arrived me.here (drop (phase_start cut phases) log) ≡ [] →
    me.contents ≡ fold_from apply me.here me.layout.ranks (start me.contents) (earlier (λ phase. arrived me.here (phase_part cut phase log)) phases)
contents_by_phases apply start me log cut phases up order none =
    let place = phase_start cut phases in
    let first = arrived me.here (take place log) in
    up.contents
    ∙ ap (fold_from apply me.here me.layout.ranks (start me.contents))
    (arrived_cut me.here place log
    ∙ ap (λ ls. first ++ ls) none
    ∙ append-nil first
    ∙ sym (earlier_arrived me.here cut log phases order))

pub contents_folded : {C : Type 0} (apply : Applies C) (start : C → C) (me : Rank C) (log : List Entry)
    (own : ℕ → ℕ → List Letter) (cut : ℕ → ℕ) (phases : ℕ) → IsUpToDate apply start me log →
    Account (handler_of apply start me) own cut phases (held_letters me) log →
    arrived me.here (drop (phase_start cut phases) log) ≡ [] →
    me.contents ≡ fold_from apply me.here me.layout.ranks (start me.contents) (earlier (λ phase. arrived me.here (phase_part cut phase log)) phases)
contents_folded apply start me log own cut phases up account none =
    contents_by_phases apply start me log cut phases up account.order none
