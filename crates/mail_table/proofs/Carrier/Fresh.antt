-- Carriers of passes whose ranks did nothing yet.
use Rattle.std.proofs.Common.{◌≡◌, ℕ, zero, suc, ◌+◌, ◌≤◌, None, Some, List, [], ◌∷◌, ◌++◌, length, slice_get, refl, sym, ap, ◌∙◌, subst, arith, length-append}
use Rattle.std.proofs.lemmas.Option.{same_Some}
use Rattle.list_facts.proofs.Places.{item_at_end, item_left}
use Rattle.ygm_route.specs.declared.scheme.Scheme.{Scheme}
use Rattle.ygm_route.specs.Layout.{Shape}
use Rattle.world_core.proofs.Pairs.Numbers.{sent_number-nil}
use Rattle.mail_table.specs.Carrier.{Carries}
use Rattle.mail_table.specs.Seats.{AreFreshPasses}
use Rattle.mail_table.specs.Table.{AreAllPasses, IsPassOf, PassState, TableState, fresh_pass}

module _ (table : TableState) (passes before : List PassState) (last : PassState) (is : passes ≡ before ++ last ∷ []) (fresh : AreFreshPasses table (length passes) passes) where
  more : length passes ≡ length before + 1
  more = ap length is ∙ length-append before (last ∷ [])

  pub last_fresh : last ≡ fresh_pass table (length before)
  last_fresh =
      let there = fresh.each (length before) (omega (arith, more)) in
      same_Some last (fresh_pass table (length before)) (sym (ap (λ ps. slice_get ps (length before)) is ∙ item_at_end before last []) ∙ there)

  pub before_fresh : AreFreshPasses table (length before) before
  before_fresh = record {
    all = refl;
    each = λ k below. sym (item_left before (last ∷ []) k below) ∙ ap (λ ps. slice_get ps k) (sym is) ∙ fresh.each k (omega (arith, more, below));
  }

  pub last_carries : (layout : Shape) (scheme : Scheme) → length passes ≤ layout.ranks → table.settings.layout ≡ layout → table.settings.scheme ≡ scheme → Carries layout scheme last 0 None
  last_carries layout scheme few e f = subst (λ p. Carries layout scheme p 0 None) (sym last_fresh) (record {
    layout_is = e;
    scheme_is = f;
    within = omega (arith, more, few);
    sent_is = sent_number-nil (length before);
    uncounted = refl;
    passed_on = λ s d _ _. refl;
    may_pass_on = tt;
  })

-- ---- passes one after another are in order

abbrev pub OneByOne : TableState → ℕ → List PassState → Type 0
OneByOne table n [] = Unit {0}
OneByOne table n (pass ∷ passes) = IsPassOf table pass × (pass.rank ≡ n) × OneByOne table (n + 1) passes

pub in_order : (table : TableState) (n : ℕ) (passes : List PassState) → OneByOne table n passes → (k : ℕ) (pass : PassState) → slice_get passes k ≡ Some pass → IsPassOf table pass × (pass.rank ≡ n + k)
in_order table n [] all k pass at = absurd cc
in_order table n (p ∷ ps) all zero pass at =
    let same : p ≡ pass = cc in
    (subst (IsPassOf table) same all.0, ap (λ (q : PassState). q.rank) (sym same) ∙ all.1 ∙ (let m : ℕ = n in let e : m ≡ m + 0 = omega arith in e))
in_order table n (p ∷ ps) all (suc k) pass at =
    let later = in_order table (n + 1) ps all.2 k pass at in
    (later.0, later.1 ∙ (let m : ℕ = n in let e : m + 1 + k ≡ m + suc k = omega arith in e))

pub are_all : (table : TableState) (passes : List PassState) → length passes ≡ table.settings.layout.ranks → OneByOne table 0 passes → AreAllPasses table passes
are_all table passes all each = record {
  all = all;
  each = λ k pass at. let known = in_order table 0 passes each k pass at in (known.0, known.1 ∙ (let m : ℕ = k in let e : 0 + m ≡ m = omega arith in e));
}
