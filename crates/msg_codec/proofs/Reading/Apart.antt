-- What is decoded again has an encoding that no other begins with.
use Rattle.std.proofs.Common.{◌≡◌, ℕ, List, ◌++◌, length, Result, Ok, sym, ap, ◌∙◌}
use Rattle.std.proofs.lemmas.List.{append_cancel_left}
use Rattle.list_facts.proofs.Outcomes.{same_ok}
use Rattle.msg_codec.specs.declared.wire.WireFault.{WireFault}

value_is : {A : Type 0} (r : Result (A × ℕ) WireFault) (v w : A) (m n : ℕ) → r ≡ Ok (v, m) → r ≡ Ok (w, n) → v ≡ w
value_is {A} r v w m n e f = ap (λ (p : A × ℕ). p.0) (same_ok r (v, m) (w, n) e f)

pub apart : {A : Type 0} (reading : List ℕ → Result (A × ℕ) WireFault) (spelled : A → List ℕ) (v w : A) (x y : List ℕ)
    → reading (spelled v ++ x) ≡ Ok (v, length (spelled v)) → reading (spelled w ++ y) ≡ Ok (w, length (spelled w)) → spelled v ++ x ≡ spelled w ++ y → (v ≡ w) × (x ≡ y)
apart reading spelled v w x y p q e =
    let same : v ≡ w = value_is (reading (spelled v ++ x)) v w (length (spelled v)) (length (spelled w)) p (ap reading e ∙ q) in
    (same, append_cancel_left (spelled w) x y (ap (λ z. spelled z ++ x) (sym same) ∙ e))
