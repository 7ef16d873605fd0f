-- A Total that an honest log puts is of a complete round, and carries its sums.
use Rattle.std.proofs.Common.{◌≡◌, ℕ, ◌<◌, true, false, not, eqb-true, is_some, Option, Some, None, List, [], ◌∷◌, refl, sym, ◌∙◌}
use Rattle.std.specs.List.{AllByRecursion}
use Rattle.std.proofs.lemmas.Bool.{not-false}
use Rattle.list_facts.proofs.Below.{none_below}
use Rattle.list_facts.proofs.Elements.{all_weaker}
use Rattle.list_facts.proofs.Sums.{sum_upto-same}
use Rattle.list_facts.proofs.Tests.{and_first, and_second, and_false_second, or_false_first, or_false_second}
use Rattle.msg_codec.specs.Control.{is_total, round_of}
use Rattle.msg_codec.specs.declared.letter.Letter.{Letter}
use Rattle.world_core.specs.ControlRules.{total_early, total_wrong}
use Rattle.world_core.specs.Counts.{count_taken, counts}
use Rattle.world_core.specs.Local.{Local}
use Rattle.world_core.specs.Pairs.{own_count, run_count}
use Rattle.world_core.specs.Rounds.{sums_in}
use Rattle.world_core.specs.Sound.{LinksAgree}
use Rattle.world_core.specs.Wave.{cut, IsTrueTotal}
use Rattle.world_core.specs.World.{Logs, local, log_of}
use Rattle.world_core.proofs.Counts.AfterPut.{total_early-first, total_wrong-first}
use Rattle.world_core.proofs.Counts.TrueCounts.{Numbered}
use Rattle.world_core.proofs.Deeds.Unbroken.{Unbroken}
use Rattle.world_core.proofs.Deeds.Unmixed.{no_control, no_total}
use Rattle.world_core.proofs.Wave.Told.{count_is}

module _ (world : Logs) (agree : LinksAgree world) (numbered : (rank : ℕ) → Numbered (local world rank)) (rank : ℕ) where
  -- what a rank knows of a Count that it took
  record IsKnown (from q : ℕ) (o : Option Letter) : Type 0 where
    put : q < counts (log_of world from)
    sent : (sums_in o).sent ≡ own_count from (cut world q from)
    run : (sums_in o).run ≡ run_count from (cut world q from)

  known : (from q : ℕ) (o : Option Letter) → is_some o ≡ true → count_taken from q (log_of world rank) ≡ o → IsKnown from q o
  known from q None some taken = absurd cc
  known from q (Some l) some taken = let at = count_is world agree numbered rank from q l taken in record { put = at.put; sent = at.sent; run = at.run }

  abbrev me : Local
  me = local world rank

  true_total : (to : ℕ) (l : Letter) → total_early me to l ≡ false → total_wrong me to l ≡ false → IsTrueTotal world l
  true_total to l early wrong is =
      let missing : (from : ℕ) → from < world.layout.ranks → not (is_some (count_taken from (round_of l) me.log)) ≡ false =
      none_below _ world.layout.ranks (or_false_second _ _ (and_false_second _ _ is early)) in
      let at : (from : ℕ) → from < world.layout.ranks → IsKnown from (round_of l) (count_taken from (round_of l) me.log) =
      λ from within. known from (round_of l) _ (not-false _ (missing from within)) refl in
      let both = not-false _ (and_false_second _ _ is wrong) in (
        (λ from within. (at from within).put),
        eqb-true _ _ (and_first _ _ both) ∙ sum_upto-same _ _ world.layout.ranks (λ from within. (at from within).sent),
        eqb-true _ _ (and_second _ _ both) ∙ sum_upto-same _ _ world.layout.ranks (λ from within. (at from within).run),
      )

  pub totals_true : (to : ℕ) (letters : List Letter) → Unbroken me to letters → AllByRecursion (IsTrueTotal world) letters
  totals_true to [] ok = tt
  totals_true to (l ∷ []) ok = (
    true_total to l
        (sym (total_early-first me to l) ∙ or_false_first _ _ ok.next_total)
        (sym (total_wrong-first me to l) ∙ or_false_first _ _ ok.total),
    tt,
  )
  totals_true to (l ∷ m ∷ more) ok =
      all_weaker (λ x. is_total x ≡ false) (IsTrueTotal world) (l ∷ m ∷ more) (λ x fails is. absurd cc)
      (no_total (l ∷ m ∷ more) (no_control me to l m more ok.unmixed))
