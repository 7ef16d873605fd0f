-- Between two quiet cuts a rank took exactly what the other put.
use Rattle.std.proofs.Common.{◌≡◌, ℕ, zero, suc, ◌<◌, ◌≤◌, List, ◌++◌, take, refl, sym, ap, ◌∙◌, arith}
use Rattle.std.proofs.lemmas.List.{append_cancel_left}
use Rattle.world_core.specs.declared.entry.Entry.{Entry}
use Rattle.world_core.specs.Pairs.{pair_put, pair_taken}
use Rattle.world_core.proofs.Pairs.Unchanged.{pair_put-append, pair_taken-append}
use Rattle.term_barrier.specs.Cuts.{AreQuietCuts, phase_part, phase_start}
use Rattle.term_barrier.proofs.Cuts.Joined.{between_joined}

-- the places at which a phase begins are a quiet cut too, also those after the last phase
pub quiet_start : (ranks phases : ℕ) (logs : ℕ → List Entry) (cuts : ℕ → ℕ → ℕ) → AreQuietCuts ranks phases logs cuts →
    (phase : ℕ) → phase ≤ phases → (from to : ℕ) → from < ranks → to < ranks →
    pair_put from to (take (phase_start (cuts from) phase) (logs from)) ≡ pair_taken from to (take (phase_start (cuts to) phase) (logs to))
quiet_start ranks phases logs cuts quiet zero p from to f t = refl
quiet_start ranks phases logs cuts quiet (suc phase) p from to f t = quiet phase (omega (arith, p)) from to f t

module _ (ranks phases : ℕ) (logs : ℕ → List Entry) (cuts : ℕ → ℕ → ℕ) (quiet : AreQuietCuts ranks phases logs cuts)
    (order : (rank phase : ℕ) → rank < ranks → phase < phases → phase_start (cuts rank) phase ≤ cuts rank phase) where
  pub same_part : (phase from to : ℕ) → phase < phases → from < ranks → to < ranks →
      pair_put from to (phase_part (cuts from) phase (logs from)) ≡ pair_taken from to (phase_part (cuts to) phase (logs to))
  same_part phase from to p f t =
      let a = phase_start (cuts from) phase in
      let b = phase_start (cuts to) phase in
      let put = phase_part (cuts from) phase (logs from) in
      let taken = phase_part (cuts to) phase (logs to) in
      append_cancel_left (pair_put from to (take a (logs from))) (pair_put from to put) (pair_taken from to taken)
      (sym (pair_put-append from to (take a (logs from)) put)
      ∙ ap (pair_put from to) (between_joined a (cuts from phase) (logs from) (order from phase f p))
      ∙ quiet phase p from to f t
      ∙ sym (ap (pair_taken from to) (between_joined b (cuts to phase) (logs to) (order to phase t p)))
      ∙ pair_taken-append from to (take b (logs to)) taken
      ∙ ap (λ ls. ls ++ pair_taken from to taken) (sym (quiet_start ranks phases logs cuts quiet phase (omega (arith, p)) from to f t)))
