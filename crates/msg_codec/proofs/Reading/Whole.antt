-- What is found where a value is looked for in all of the bytes.
use Rattle.std.proofs.Common.{◌≡◌, ◌≢◌, [], ℕ, List, ◌++◌, length, Option, Some, None, Result, Ok, Err, sym, ap, ◌∙◌}
use Rattle.std.proofs.lemmas.List.{append-nil}
use Rattle.std.proofs.lemmas.Option.{none-some}
use Rattle.msg_codec.specs.declared.wire.WireFault.{WireFault}
use Rattle.std.specs.Prelude.{IfOk, IfNone}
use Rattle.msg_codec.specs.Reading.{whole}
use Rattle.msg_codec.specs.Laws.{whole_again}

-- bytes in which none is found encode none
pub none_is : {A E : Type 0} (reading : List ℕ → Result (A × ℕ) WireFault) (spelled : A → List ℕ) (P : A → Type 0) → ((v : A) (rest : List ℕ) → P v → reading (spelled v ++ rest) ≡ Ok (v, length (spelled v)))
    → (answer : Result (Option A) E) (bytes : List ℕ) → IfOk answer (λ read. read ≡ whole reading bytes) → IfOk answer (λ read. IfNone read ((v : A) → P v → bytes ≢ spelled v))
none_is reading spelled P again (Err full) bytes e = tt
none_is reading spelled P again (Ok (Some v)) bytes e = tt
none_is reading spelled P again (Ok None) bytes e = λ v fits same.
    let read : reading bytes ≡ Ok (v, length bytes) = ap reading (same ∙ sym (append-nil (spelled v))) ∙ again v [] fits ∙ ap (λ n. Ok (v, n)) (ap length (sym same)) in
    none-some v (e ∙ whole_again reading bytes v read)
