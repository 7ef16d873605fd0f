-- What arrived in phases.
use Rattle.std.proofs.Common.{◌≡◌, ℕ, zero, suc, ◌<◌, ◌≤◌, List, ◌++◌, take, refl, sym, ap, ◌∙◌, arith}
use Rattle.world_core.specs.declared.entry.Entry.{Entry}
use Rattle.world_core.specs.Pairs.{arrived}
use Rattle.comm_rank.proofs.Running.TookBelow.{taken_append}
use Rattle.term_barrier.specs.CompleteRun.{earlier}
use Rattle.term_barrier.specs.Cuts.{phase_part, phase_start}
use Rattle.term_barrier.proofs.Cuts.Joined.{between_joined}

-- what arrived in the phases before one arrived before its start
pub earlier_arrived : (here : ℕ) (cut : ℕ → ℕ) (log : List Entry) (phase : ℕ) →
    ((k : ℕ) → k < phase → phase_start cut k ≤ cut k) →
    earlier (λ k. arrived here (phase_part cut k log)) phase ≡ arrived here (take (phase_start cut phase) log)
earlier_arrived here cut log zero order = refl
earlier_arrived here cut log (suc phase) order =
    let begin = phase_start cut phase in
    let part = phase_part cut phase log in
    ap (λ ls. ls ++ arrived here part) (earlier_arrived here cut log phase (λ k lt. order k (omega (arith, lt))))
    ∙ sym (taken_append here (take begin log) part)
    ∙ ap (arrived here) (between_joined begin (cut phase) log (order phase (omega arith)))
