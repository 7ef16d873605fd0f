-- When each refusal holds of a command line, and which one is reported.
use Rattle.std.specs.Prelude.{◌≡◌, ◌≢◌, ◌⊎◌, ◌<◌, ◌%◌, ℕ, false, Any, List, [], ◌∷◌, None, Some, codes, length}
use Rattle.ygm_route.specs.Layout.{max_ranks}
use Rattle.ygm_run.specs.declared.words.Form.{Form}
use Rattle.ygm_run.specs.declared.words.UsageKind.{UsageKind}
use Rattle.ygm_run.specs.declared.words.UsageKind.TheVariants.{NoJob, UnknownJob, UnknownOption, OptionTwice, MissingValue, BadValue, NoFile, TooManyFiles, Layout, TooManyRanks}
use Rattle.ygm_run.specs.Words.{Command, Given, cores_of, form_of, is_of_form, ranks_of}

-- the first option has the name of a later one, or two of the later ones have one name
abbrev pub NamedTwice : List Given → Type 0
NamedTwice [] = ⊥
NamedTwice (given ∷ later) = Any (λ (other : Given). other.name ≡ given.name) later ⊎ NamedTwice later

-- an option has a form and a value, and the value isn't of the form
abbrev pub Misfits : Given → Type 0
Misfits given = (form : Form) × (value : List ℕ) × (form_of given.name ≡ Some form) × (given.value ≡ Some value) × (is_of_form form value ≡ false)

-- when each refusal holds
abbrev pub Holds : Command → UsageKind → Type 0
Holds command NoJob = command.job ≡ None
Holds command UnknownJob = command.job ≢ Some (codes "tally")
Holds command UnknownOption = Any (λ (given : Given). form_of given.name ≡ None) command.options
Holds command OptionTwice = NamedTwice command.options
Holds command MissingValue = Any (λ (given : Given). given.value ≡ None) command.options
Holds command BadValue = Any Misfits command.options
Holds command NoFile = command.files ≡ []
Holds command TooManyFiles = ranks_of command < length command.files
Holds command Layout = (ranks_of command ≡ 0) ⊎ ((cores_of command ≡ 0) ⊎ (ranks_of command % cores_of command ≢ 0))
Holds command TooManyRanks = max_ranks < ranks_of command

-- no refusal holds
abbrev pub AreAccepted : Command → Type 0
AreAccepted command = (kind : UsageKind) → Holds command kind → ⊥

-- the first of the refusals that holds is this one
abbrev pub IsFirst : List UsageKind → Command → UsageKind → Type 0
IsFirst [] command kind = ⊥
IsFirst (first ∷ later) command kind = (Holds command first × (kind ≡ first))
    ⊎ ((Holds command first → ⊥) × IsFirst later command kind)
