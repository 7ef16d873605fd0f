-- How ranks end whose handlers give no letters, once they have passed their last barrier.
use Rattle.std.proofs.Common.{◌≡◌, ℕ, ◌<◌, List, [], drop, sum_by, ap, sym, subst, ◌∙◌}
use Rattle.std.specs.List.{AllByRecursion}
use Rattle.list_facts.specs.Sums.{sum_upto}
use Rattle.msg_codec.specs.declared.letter.Letter.{Letter}
use Rattle.world_core.specs.declared.entry.Entry.{Entry}
use Rattle.world_core.specs.Pairs.{arrived}
use Rattle.comm_rank.specs.Fold.{Applies, fold_from}
use Rattle.comm_rank.specs.Rank.{Rank}
use Rattle.term_barrier.specs.Account.{IsUpToDate}
use Rattle.term_barrier.specs.CompleteRun.{IsCompleteRun, OwnLetters, earlier}
use Rattle.term_barrier.specs.Cuts.{arrivals_of, phase_start}
use Rattle.term_barrier.specs.Passed.{LevelsRise}
use Rattle.term_barrier.specs.SilentRun.{HavePassed, IsSilent}
use Rattle.term_barrier.proofs.CompleteRun.FromAccounts.{complete_run}
use Rattle.term_barrier.proofs.CompleteRun.Silent.{arrived_weight}
use Rattle.term_barrier.proofs.Passed.Folded.{contents_by_phases}
use Rattle.term_barrier.proofs.Passed.NothingAfter.{nothing_after}

-- the letters that a silent handler gives have any level
silent_levels : {C : Type 0} (apply : Applies C) → IsSilent apply → (level : Letter → ℕ) → LevelsRise apply level
silent_levels apply silent level contents here ranks l =
    subst (AllByRecursion (λ given. level l < level given)) (sym (silent contents here ranks l)) tt

module _ {C : Type 0} (apply : Applies C) (ranks phases : ℕ) (start : ℕ → C) (own : OwnLetters)
    (cuts : ℕ → ℕ → ℕ) (held : ℕ → List Letter) (logs : ℕ → List Entry)
    (passed : HavePassed apply ranks phases start own cuts held logs) where
  pub passed_run : IsCompleteRun apply ranks phases start own (arrivals_of logs cuts)
  passed_run = complete_run apply ranks phases start own cuts held logs passed.each passed.quiet

  pub silent_end : IsSilent apply → (rank : ℕ) → rank < ranks →
      arrived rank (drop (phase_start (cuts rank) phases) (logs rank)) ≡ []
  silent_end silent =
      let level : Letter → ℕ = λ l. 0 in
      nothing_after apply level ranks phases start own cuts held logs passed.each passed.none_since passed.quiet passed.took
      (silent_levels apply silent level)

  pub silent_contents : IsSilent apply → (begin : C → C) (me : Rank C) → me.here < ranks → me.layout.ranks ≡ ranks →
      begin me.contents ≡ start me.here → IsUpToDate apply begin me (logs me.here) →
      me.contents ≡ fold_from apply me.here ranks (start me.here) (earlier (arrivals_of logs cuts me.here) phases)
  silent_contents silent begin me r size begins up =
      let letters : List Letter = earlier (arrivals_of logs cuts me.here) phases in
      contents_by_phases apply begin me (logs me.here) (cuts me.here) phases up (passed.each me.here r).account.order
      (silent_end silent me.here r)
      ∙ ap (λ n. fold_from apply me.here n (begin me.contents) letters) size
      ∙ ap (λ c. fold_from apply me.here ranks c letters) begins

  pub silent_weight : IsSilent apply → (weight : Letter → ℕ) (to phase : ℕ) → to < ranks → phase < phases →
      sum_by weight (arrivals_of logs cuts to phase) ≡ sum_upto (λ from. sum_by weight (own from phase to)) ranks
  silent_weight silent = arrived_weight apply ranks phases start own (arrivals_of logs cuts) passed_run silent
