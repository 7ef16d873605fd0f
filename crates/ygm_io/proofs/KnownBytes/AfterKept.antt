-- What a try does to the bytes of a reader or a writer, after tries that kept them.
use Rattle.std.proofs.Common.{◌≡◌, ℕ, List, [], ◌++◌, take, Option, None, Some, ◌∙◌, sym, ap}
use Rattle.std.proofs.lemmas.List.{append-nil}
use Rattle.std.specs.Io.KnownBytes.{Keeps, Consumes, Appends}

-- after one that kept them, another that keeps them
pub keeps_on : (before between now : Option (List ℕ)) → Keeps before between → Keeps between now → Keeps before now
keeps_on None between now first then = tt
keeps_on (Some xs) None now first then = absurd first
keeps_on (Some xs) (Some ys) None first then = absurd then
keeps_on (Some xs) (Some ys) (Some zs) first then = then ∙ first

-- after one that kept them, one that consumes some
pub consumes_on : (before between now : Option (List ℕ)) (bytes : List ℕ) → Keeps before between → Consumes between now bytes → Consumes before now bytes
consumes_on None between now bytes first then = tt
consumes_on (Some xs) None now bytes first then = absurd first
consumes_on (Some xs) (Some ys) None bytes first then = absurd then
consumes_on (Some xs) (Some ys) (Some zs) bytes first then = sym first ∙ then

-- after one that kept them, one that appends some
pub appends_on : (before between now : Option (List ℕ)) (bytes : List ℕ) → Keeps before between → Appends between now bytes → Appends before now bytes
appends_on None between now bytes first then = tt
appends_on (Some xs) None now bytes first then = absurd first
appends_on (Some xs) (Some ys) None bytes first then = absurd then
appends_on (Some xs) (Some ys) (Some zs) bytes first then = then ∙ ap (λ (held : List ℕ). held ++ bytes) first

-- one that appends nothing keeps them
pub appends_nothing : (before now : Option (List ℕ)) (bytes : List ℕ) (count : ℕ) → count ≡ 0 → Appends before now (take count bytes) → Keeps before now
appends_nothing None now bytes count none appended = tt
appends_nothing (Some xs) None bytes count none appended = absurd appended
appends_nothing (Some xs) (Some ys) bytes count none appended =
    let empty : take count bytes ≡ [] = ap (λ (n : ℕ). take n bytes) none in
    appended ∙ ap (λ (more : List ℕ). xs ++ more) empty ∙ append-nil xs
