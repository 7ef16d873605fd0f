-- The table of the refusals says when each holds.
use Rattle.std.proofs.Common.{◌≡◌, ◌⊎◌, ◌↔◌, ◌%◌, ◌||◌, ℕ, Bool, true, false, not, Any, List, [], ◌∷◌, Option, None, Some, codes, length, refl, ap, sym, ◌∙◌, arith, inl, inr, true≢false}
use Rattle.std.specs.Prelude.{nat_eq}
use Rattle.std.specs.List.{list_any}
use Rattle.std.specs.Option.{is_none}
use Rattle.std.proofs.lemmas.Bool.{eq-eqb, eqb-true, lt-ltb, ltb-true}
use Rattle.std.proofs.lemmas.List.Folds.{Any-from_list_any, list_any-from_Any}
use Rattle.std.proofs.lemmas.Slice.Eq.{bytes_eq-Decides}
use Rattle.ygm_route.specs.Layout.{max_ranks}
use Rattle.ygm_run.specs.declared.words.Form.{Form}
use Rattle.ygm_run.specs.declared.words.UsageKind.{UsageKind}
use Rattle.ygm_run.specs.declared.words.UsageKind.TheVariants.{NoJob, UnknownJob, UnknownOption, OptionTwice, MissingValue, BadValue, NoFile, TooManyFiles, Layout, TooManyRanks}
use Rattle.ygm_run.specs.Refusals.{Holds, Misfits, NamedTwice}
use Rattle.ygm_run.specs.Words.{Command, Given, cores_of, form_of, has_bad_value, has_twice, holds, is_bad, is_job, is_named, is_of_form, is_unknown, lacks_value, ranks_of}

-- ---- tests and what they test

not_iff : {P : Type 0} (b : Bool) → ((b ≡ true) ↔ P) → (not b ≡ true) ↔ (P → ⊥)
not_iff true iff = ((λ e. absurd (cc)), (λ no. absurd (no (iff.0 refl))))
not_iff false iff = ((λ e p. true≢false (sym (iff.1 p))), (λ no. refl))

or_iff : {P Q : Type 0} (a b : Bool) → ((a ≡ true) ↔ P) → ((b ≡ true) ↔ Q) → ((a || b) ≡ true) ↔ (P ⊎ Q)
or_iff true b left right = ((λ e. inl (left.0 refl)), (λ either. refl))
or_iff false b left right = ((λ e. inr (right.0 e)), (λ either. elim either [ inl p ↦ absurd (true≢false (sym (left.1 p))) | inr q ↦ right.1 q ]))

false_iff : (b : Bool) → (not b ≡ true) ↔ (b ≡ false)
false_iff true = ((λ e. absurd (cc)), (λ e. absurd (cc)))
false_iff false = ((λ e. refl), (λ e. refl))

none_iff : {X : Type 0} (found : Option X) → (is_none found ≡ true) ↔ (found ≡ None)
none_iff None = ((λ e. refl), (λ e. refl))
none_iff (Some x) = ((λ e. absurd (cc)), (λ e. absurd (cc)))

any_iff : {X : Type 0} (test : X → Bool) (P : X → Type 0) → ((x : X) → (test x ≡ true) ↔ P x) → (xs : List X) → (list_any test xs ≡ true) ↔ Any P xs
any_iff test P iff xs = (
  (λ e. let found = Any-from_list_any test xs e in (found.0, found.1, found.2, found.3, (iff found.1).0 found.4)),
  (λ found. list_any-from_Any test xs (found.0, found.1, found.2, found.3, (iff found.1).1 found.4)),
)

-- ---- the refusals

job_iff : (job : Option (List ℕ)) → (is_job job ≡ true) ↔ (job ≡ Some (codes "tally"))
job_iff None = ((λ e. absurd (cc)), (λ e. absurd (cc)))
job_iff (Some word) = (
  (λ e. ap Some ((bytes_eq-Decides word (codes "tally")).0 e)),
  (λ e. let same : word ≡ codes "tally" = cc in (bytes_eq-Decides word (codes "tally")).1 same),
)

named_iff : (name : List ℕ) (given : Given) → (is_named name given ≡ true) ↔ (given.name ≡ name)
named_iff name given = ((bytes_eq-Decides given.name name).0, (bytes_eq-Decides given.name name).1)

twice_iff : (options : List Given) → (has_twice options ≡ true) ↔ NamedTwice options
twice_iff [] = ((λ e. absurd (cc)), (λ e. absurd e))
twice_iff (given ∷ later) = or_iff (list_any (is_named given.name) later) (has_twice later) (any_iff (is_named given.name) (λ (other : Given). other.name ≡ given.name) (named_iff given.name) later) (twice_iff later)

bad_iff : (form : Option Form) (value : Option (List ℕ))
    → (is_bad form value ≡ true) ↔ ((f : Form) × (v : List ℕ) × (form ≡ Some f) × (value ≡ Some v) × (is_of_form f v ≡ false))
bad_iff (Some form) (Some value) = (
  (λ e. (form, value, refl, refl, (false_iff (is_of_form form value)).0 e)),
  (λ (f, v, form_is, value_is, misfit).
      let same_form : form ≡ f = cc in
      let same_value : value ≡ v = cc in
      (false_iff (is_of_form form value)).1 (ap (λ g. is_of_form g value) same_form ∙ ap (is_of_form f) same_value ∙ misfit)),
)
bad_iff (Some form) None = ((λ e. absurd (cc)), (λ (f, v, form_is, value_is, misfit). absurd (cc)))
bad_iff None value = ((λ e. absurd (cc)), (λ (f, v, form_is, value_is, misfit). absurd (cc)))

empty_iff : {X : Type 0} (xs : List X) → (nat_eq (length xs) 0 ≡ true) ↔ (xs ≡ [])
empty_iff [] = ((λ e. refl), (λ e. refl))
empty_iff (x ∷ xs) = ((λ e. absurd (omega (arith, eqb-true (length (x ∷ xs)) 0 e))), (λ e. absurd (cc)))

zero_iff : (a : ℕ) → (nat_eq a 0 ≡ true) ↔ (a ≡ 0)
zero_iff a = ((eqb-true a 0), (eq-eqb a 0))

-- a refusal is found to hold exactly where it does
pub says : (command : Command) (kind : UsageKind) → (holds command kind ≡ true) ↔ Holds command kind
says command NoJob = none_iff command.job
says command UnknownJob = not_iff (is_job command.job) (job_iff command.job)
says command UnknownOption = any_iff is_unknown (λ (given : Given). form_of given.name ≡ None) (λ given. none_iff (form_of given.name)) command.options
says command OptionTwice = twice_iff command.options
says command MissingValue = any_iff lacks_value (λ (given : Given). given.value ≡ None) (λ given. none_iff given.value) command.options
says command BadValue = any_iff has_bad_value Misfits (λ given. bad_iff (form_of given.name) given.value) command.options
says command NoFile = empty_iff command.files
says command TooManyFiles = ((ltb-true (ranks_of command) (length command.files)), (lt-ltb (ranks_of command) (length command.files)))
says command Layout =
    let ranks = ranks_of command in
    let cores = cores_of command in
    or_iff (nat_eq ranks 0) (nat_eq cores 0 || not (nat_eq (ranks % cores) 0)) (zero_iff ranks)
    (or_iff (nat_eq cores 0) (not (nat_eq (ranks % cores) 0)) (zero_iff cores) (not_iff (nat_eq (ranks % cores) 0) (zero_iff (ranks % cores))))
says command TooManyRanks = ((ltb-true max_ranks (ranks_of command)), (lt-ltb max_ranks (ranks_of command)))
