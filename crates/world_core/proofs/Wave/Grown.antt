-- A world whose log gained an entry: its cuts, its sums, and its waves.
use Rattle.std.proofs.Common.{◌≡◌, ℕ, suc, ◌≤◌, ◌<◌, List, [], ◌∷◌, ◌++◌, length, sym, ap, ◌∙◌, subst, inl, inr, arith, length-set}
use Rattle.std.proofs.lemmas.Bool.{cases_lt}
use Rattle.std.proofs.lemmas.List.{get_or_past}
use Rattle.list_facts.specs.Prefix.{IsPrefix}
use Rattle.list_facts.proofs.Prefix.{prefix_append, prefix_refl}
use Rattle.list_facts.proofs.Sums.{sum_upto-each_le, sum_upto-equal, sum_upto-same}
use Rattle.world_core.specs.declared.entry.Entry.{Entry}
use Rattle.world_core.specs.Counts.{before_count}
use Rattle.world_core.specs.Pairs.{own_count, run_count}
use Rattle.world_core.specs.Wave.{cut, sent_at, run_at, IsComplete, IsQuiet, IsWave, IsStill, Lacks}
use Rattle.world_core.specs.World.{Logs, gaining, log_of}
use Rattle.world_core.proofs.Counts.BeforeCount.{counts_of_prefix, before_stands, before_grows, before_next}
use Rattle.world_core.proofs.Pairs.Numbers.{own_of_prefix}
use Rattle.world_core.proofs.Worlds.EachLog.{each_log}

module _ (world : Logs) (i : ℕ) (e : Entry) (inside : i < world.layout.ranks) (all : length world.logs ≡ world.layout.ranks) where
  abbrev new : Logs
  new = gaining world i e

  -- what holds of each log, where it holds of the old ones and of the one that gained the entry
  pub each : (P : ℕ → List Entry → Type 0) → ((r : ℕ) → P r (log_of world r)) → P i (log_of world i ++ e ∷ []) → (r : ℕ) → P r (log_of new r)
  each P = each_log world i e P (rw all inside)

  pub grown : (r : ℕ) → IsPrefix (log_of world r) (log_of new r)
  grown = each (λ r log. IsPrefix (log_of world r) log) (λ r. prefix_refl (log_of world r)) (prefix_append (log_of world i) (e ∷ []))

  pub all_new : length new.logs ≡ world.layout.ranks
  all_new = length-set world.logs i (log_of world i ++ e ∷ []) ∙ all

  -- ---- complete rounds

  pub complete_stays : (q : ℕ) → IsComplete world q → IsComplete new q
  complete_stays q complete r within = omega (arith, complete r within, counts_of_prefix _ _ (grown r))

  pub lacked : (q : ℕ) → Lacks new q → Lacks world q
  lacked q lacks = (lacks.0, lacks.1, omega (arith, lacks.2, counts_of_prefix _ _ (grown lacks.0)))

  -- ---- cuts

  pub cut_grows : (q r : ℕ) → IsPrefix (cut world q r) (cut new q r)
  cut_grows q r =
      let p = grown r in
      let P : List Entry → Type 0 = λ log. IsPrefix (cut world q r) (before_count q log) in
      subst P p.joined (before_grows q (log_of world r) p.rest)

  pub cut_stays : (q : ℕ) → IsComplete world q → (r : ℕ) → cut new q r ≡ cut world q r
  cut_stays q complete r = elim (cases_lt r world.layout.ranks) [
    | inl within ↦
        let p = grown r in
        ap (before_count q) (sym p.joined) ∙ before_stands q (log_of world r) p.rest (complete r within)
    | inr past ↦ ap (before_count q) (get_or_past new.logs r [] (rw all_new past) ∙ sym (get_or_past world.logs r [] (rw all past)))
  ]

  pub sent_stays : (q : ℕ) → IsComplete world q → sent_at new q ≡ sent_at world q
  sent_stays q complete = sum_upto-same _ _ world.layout.ranks (λ r _. ap (own_count r) (cut_stays q complete r))

  pub run_stays : (q : ℕ) → IsComplete world q → run_at new q ≡ run_at world q
  run_stays q complete = sum_upto-same _ _ world.layout.ranks (λ r _. ap (run_count r) (cut_stays q complete r))

  pub sent_grows : (q : ℕ) → sent_at world q ≤ sent_at new q
  sent_grows q = sum_upto-each_le _ _ world.layout.ranks (λ r _. own_of_prefix r (cut_grows q r))

  pub quiet_stays : (q : ℕ) → IsComplete world q → IsQuiet world q → IsQuiet new q
  quiet_stays q complete quiet s d = rw (cut_stays q complete s, cut_stays q complete d) (quiet s d)

  -- ---- waves

  -- where as many letters are sent before the next cut, as many were, and the entry didn't change it
  before : (q : ℕ) → IsComplete world q → IsWave world q → sent_at new q ≡ sent_at new (suc q) →
      (sent_at world q ≡ sent_at world (suc q)) × (sent_at world (suc q) ≡ sent_at new (suc q))
  before q complete wave same =
      let stays = sent_stays q complete in
      let grows = sent_grows (suc q) in
      (omega (arith, same, stays, grows, wave.grows), omega (arith, same, stays, grows, wave.grows))

  -- A wave of a complete round is kept where the entry keeps the world still.
  pub wave_kept : (q : ℕ) → IsComplete world q → IsWave world q →
      (Lacks world (suc q) → own_count i (cut world (suc q) i) ≡ own_count i (cut new (suc q) i) → IsStill world q → IsStill new q) → IsWave new q
  wave_kept q complete wave stays = record {
    grows = sum_upto-each_le _ _ world.layout.ranks (λ r _. own_of_prefix r (before_next q (log_of new r)));
    quiet = λ same. quiet_stays q complete (wave.quiet (before q complete wave same).0);
    still = λ same lacks.
        let lacked_before = lacked (suc q) lacks in
        let both = before q complete wave same in
        let own_same = sum_upto-equal _ _ world.layout.ranks (λ r _. own_of_prefix r (cut_grows (suc q) r)) both.1 i inside in
        stays lacked_before own_same (wave.still both.0 lacked_before);
  }
