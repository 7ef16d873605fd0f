-- Which ranks raised the stop, after a step of one.
use Rattle.std.proofs.Common.{◌≡◌, ℕ, zero, suc, ◌<◌, Bool, true, false, ◌||◌, List, [], ◌∷◌, length, set, refl, sym, ap, ◌∙◌, arith}
use mathlib.Core.Option.{some, some-injective, some-ne-none}
use lib.ListN.{get_elem?}
use Rattle.mail_table.specs.declared.views.RankView.{RankView}
use Rattle.mail_table.specs.Rule.{some_raised}

or_true : (b : Bool) → (b || true) ≡ true
or_true true = refl
or_true false = refl

pub same_raised : (ranks : List RankView) (k : ℕ) (old new : RankView) → get_elem? ranks k ≡ some old → new.raised ≡ old.raised → some_raised (set ranks k new) ≡ some_raised ranks
same_raised [] k old new at e = refl
same_raised (x ∷ xs) zero old new at e = ap (λ (b : Bool). b || some_raised xs) (e ∙ ap (λ (y : RankView). y.raised) (sym (some-injective x old at)))
same_raised (x ∷ xs) (suc k) old new at e = ap (λ (b : Bool). x.raised || b) (same_raised xs k old new at e)

pub now_raised : (ranks : List RankView) (k : ℕ) (new : RankView) → k < length ranks → new.raised ≡ true → some_raised (set ranks k new) ≡ true
now_raised [] k new near e = absurd (omega arith)
now_raised (x ∷ xs) zero new near e = ap (λ (b : Bool). b || some_raised xs) e
now_raised (x ∷ xs) (suc k) new near e = ap (λ (b : Bool). x.raised || b) (now_raised xs k new (omega arith) e) ∙ or_true x.raised

pub was_raised : (ranks : List RankView) (k : ℕ) (rank : RankView) → get_elem? ranks k ≡ some rank → rank.raised ≡ true → some_raised ranks ≡ true
was_raised [] k rank at e = absurd (some-ne-none rank (sym at))
was_raised (x ∷ xs) zero rank at e = ap (λ (b : Bool). b || some_raised xs) (ap (λ (y : RankView). y.raised) (some-injective x rank at) ∙ e)
was_raised (x ∷ xs) (suc k) rank at e = ap (λ (b : Bool). x.raised || b) (was_raised xs k rank at e) ∙ or_true x.raised
