-- The seat that makes all passes gives the next one away.
use Rattle.std.proofs.Common.{◌≡◌, ℕ, zero, suc, ◌+◌, ◌-◌, ◌<◌, List, [], ◌∷◌, get_or, replicate, refl, sym, ap, ◌∙◌, subst, arith}
use Rattle.std.proofs.lemmas.List.{length-replicate}
use Rattle.atomic_table.specs.Table.{Splits}
use Rattle.mail_table.specs.declared.settings.Settings.{Settings}
use Rattle.mail_table.specs.declared.views.RankView.{RankView}
use Rattle.mail_table.specs.declared.views.View.{View}
use Rattle.mail_table.specs.Rule.{Rule}
use Rattle.mail_table.specs.Seats.{AreCounts, IsPass, dealing}
use Rattle.mail_table.specs.Steps.{Seated}
use Rattle.mail_table.specs.Views.{first_part, first_rank, fresh_rank, no_loads, other_part, other_ranks}
use Rattle.mail_table.proofs.Rule.Passes.{deals}

module _ (settings : Settings) (rank : ℕ) (within : rank < settings.layout.ranks) where
  abbrev fresh : RankView
  fresh = fresh_rank settings.layout.ranks

  abbrev later : List RankView
  later = replicate (settings.layout.ranks - (rank + 1)) fresh

  next_first : (dealing settings rank).ranks ≡ fresh ∷ later
  next_first = let one : settings.layout.ranks - rank ≡ suc (settings.layout.ranks - (rank + 1)) = omega arith in ap (λ (n : ℕ). replicate n fresh) one

  -- the view of the pass
  abbrev given : View
  given = record { settings = settings; first = rank; ranks = fresh ∷ [] }

  pub given_is : (view : View) → view ≡ dealing settings rank → first_part view ≡ given
  given_is view e = ap first_part e ∙ ap (λ (ranks : List RankView). record { settings = settings; first = rank; ranks = first_rank ranks ∷ [] }) next_first

  pub kept_is : (view : View) → view ≡ dealing settings rank → other_part view ≡ dealing settings (rank + 1)
  kept_is view e = ap other_part e ∙ ap (λ (ranks : List RankView). record { settings = settings; first = rank + 1; ranks = other_ranks ranks }) next_first

  pub may_deal : (key : Settings) (id : ℕ) (view : View) → view ≡ dealing settings rank → Splits (Rule key) id view (other_part view) (first_part view)
  may_deal key id view e = deals key id view fresh later (ap (λ (v : View). v.ranks) e ∙ next_first)

  fresh_counts : AreCounts settings.layout.ranks (λ _. 0) (replicate settings.layout.ranks 0)
  fresh_counts = record { all = length-replicate settings.layout.ranks 0; each = λ k below. zeros settings.layout.ranks k }
    where
      zeros : (n k : ℕ) → get_or (replicate {A = ℕ} n 0) k 0 ≡ 0
      zeros zero k = refl
      zeros (suc n) zero = refl
      zeros (suc n) (suc k) = zeros n k

  pub is_fresh_pass : (puts takes : List ℕ) (seat : Seated) → puts ≡ replicate settings.layout.ranks 0 → takes ≡ replicate settings.layout.ranks 0 → seat ≡ (given, []) → IsPass rank puts takes seat
  is_fresh_pass puts takes seat p t e = subst (λ (z : List ℕ × List ℕ × Seated). IsPass rank z.0 z.1 z.2) (λ i. (sym p i, sym t i, sym e i)) (record {
    at = record { of = record { first = refl; one = refl; settings_are = refl; within = within }; fills_none = refl; empties_none = refl; hand = refl };
    puts_are = fresh_counts;
    takes_are = fresh_counts;
    heads = length-replicate settings.layout.ranks no_loads;
    tails = length-replicate settings.layout.ranks no_loads;
  })
