-- What the program's words ask for, and why they are refused. A word is the list of its bytes.
use Rattle.std.specs.Prelude.{◌≤◌, ℕ, ◌+◌, ◌-◌, ◌*◌, ◌%◌, Bool, false, List, [], ◌∷◌, Option, None, Some, Result, Ok, Err, String, bytes_eq, codes, find, length, map, nat_eq, nat_lt, not, ◌==◌, ◌||◌, option_and_then, string_bytes, unwrap_or, if◌then◌else◌}
use Rattle.std.specs.Char.{is_ascii_digit}
use Rattle.std.specs.List.{list_any, starts_with}
use Rattle.std.specs.Option.{is_none, is_some}
use Rattle.ygm_route.specs.declared.scheme.Scheme.{Scheme}
use Rattle.ygm_route.specs.declared.scheme.Scheme.TheVariants.{Direct, Nlnr, Nr}
use Rattle.ygm_route.specs.Layout.{IsLayout, max_ranks}
use Rattle.send_buffers.specs.Limits.{max_buffer, min_buffer}
use Rattle.ygm_run.specs.declared.run_job.JobKind.TheVariants.{Tally}
use Rattle.ygm_run.specs.declared.run_job.Settings.{Settings}
use Rattle.ygm_run.specs.declared.words.Form.{Form}
use Rattle.ygm_run.specs.declared.words.Form.TheVariants.{Number, SchemeName}
use Rattle.ygm_run.specs.declared.words.Order.{Order}
use Rattle.ygm_run.specs.declared.words.UsageKind.{UsageKind}
use Rattle.ygm_run.specs.declared.words.UsageKind.TheVariants.{NoJob, UnknownJob, UnknownOption, OptionTwice, MissingValue, BadValue, NoFile, TooManyFiles, Layout, TooManyRanks}

-- the bytes of each word
abbrev pub texts_of : {A : Type 0} → List (String A) → List (List ℕ)
texts_of {A} words = map string_bytes words

-- ---- the parts of a command line

-- an option: its name, and the word after it, if there is one
pub record Given : Type 0 where
  pub name : List ℕ
  pub value : Option (List ℕ)

-- the words after the job: options, and then files
pub record Parts : Type 0 where
  pub options : List Given
  pub files : List (List ℕ)

-- no options, and these files
abbrev pub only_files : List (List ℕ) → Parts
only_files files = record { options = []; files = files }

-- one option, before these parts
abbrev pub with_option : List ℕ → Option (List ℕ) → Parts → Parts
with_option name value parts = record { options = record { name = name; value = value } ∷ parts.options; files = parts.files }

-- What a word begins where options may stand: `--` ends them, a longer word that begins so is an option, and another word
-- is the first file. `option` are the parts if it is an option.
abbrev pub beginning : List ℕ → List (List ℕ) → Parts → Parts
beginning word later option =
    if bytes_eq word (codes "--") then only_files later
    else if starts_with nat_eq word (codes "--") then option
    else only_files (word ∷ later)

-- the parts of the words after the job, from left to right: an option takes the next word, whatever it is, as its value
abbrev pub parts_of : List (List ℕ) → Parts
parts_of [] = only_files []
parts_of (word ∷ []) = beginning word [] (with_option word None (only_files []))
parts_of (word ∷ next ∷ later) = beginning word (next ∷ later) (with_option word (Some next) (parts_of later))

-- a command line: its first word, if there is one, and the parts of the others
pub record Command : Type 0 where
  pub job : Option (List ℕ)
  pub options : List Given
  pub files : List (List ℕ)

abbrev pub command_of : List (List ℕ) → Command
command_of [] = record { job = None; options = []; files = [] }
command_of (job ∷ words) = record { job = Some job; options = (parts_of words).options; files = (parts_of words).files }

-- ---- values

-- the number that digits make after those of another number, if all bytes are digits
abbrev pub number_after : ℕ → List ℕ → Option ℕ
number_after number [] = Some number
number_after number (byte ∷ bytes) = if is_ascii_digit byte then number_after (number * 10 + (byte - 48)) bytes else None

-- the number that a text is: `0`, or digits that don't begin with `0`
abbrev pub number_of : List ℕ → Option ℕ
number_of [] = None
number_of (byte ∷ []) = number_after 0 (byte ∷ [])
number_of (byte ∷ next ∷ bytes) = if byte == 48 then None else number_after 0 (byte ∷ next ∷ bytes)

-- a number, if it is within these bounds
abbrev pub if_within : ℕ → ℕ → ℕ → Option ℕ
if_within least most number = if nat_lt number least || nat_lt most number then None else Some number

-- the number from `least` to `most` that a text is
abbrev pub number_within : ℕ → ℕ → List ℕ → Option ℕ
number_within least most text = option_and_then (if_within least most) (number_of text)

-- the schemes that `--scheme` takes
abbrev pub scheme_of : List ℕ → Option Scheme
scheme_of text =
    if bytes_eq text (codes "none") then Some Direct
    else if bytes_eq text (codes "nr") then Some Nr
    else if bytes_eq text (codes "nlnr") then Some Nlnr
    else None

-- whether a text is of a form
abbrev pub is_of_form : Form → List ℕ → Bool
is_of_form (Number least most) text = is_some (number_within least most text)
is_of_form SchemeName text = is_some (scheme_of text)

-- ---- the options

-- a number of ranks or of cores
abbrev pub count_form : Form
count_form = Number 0 999999

-- the most bytes of a batch
abbrev pub batch_form : Form
batch_form = Number min_buffer max_buffer

-- The table of the options: the form of the value of the option of this name, if the program has it.
abbrev pub form_of : List ℕ → Option Form
form_of name =
    if bytes_eq name (codes "--ranks") then Some count_form
    else if bytes_eq name (codes "--cores") then Some count_form
    else if bytes_eq name (codes "--scheme") then Some SchemeName
    else if bytes_eq name (codes "--buffer") then Some batch_form
    else None

-- whether an option has this name
abbrev pub is_named : List ℕ → Given → Bool
is_named name given = bytes_eq given.name name

-- the value of the first option of this name
abbrev pub value_of : List ℕ → List Given → Option (List ℕ)
value_of name options = option_and_then (λ (given : Given). given.value) (find (is_named name) options)

-- the number that a text of a form is
abbrev pub number_by : Option Form → List ℕ → Option ℕ
number_by (Some (Number least most)) text = number_within least most text
number_by (Some SchemeName) text = None
number_by None text = None

-- the number that the option of this name gives
abbrev pub number_given : List ℕ → List Given → Option ℕ
number_given name options = option_and_then (number_by (form_of name)) (value_of name options)

-- what options say, or else their defaults
abbrev pub ranks_of : Command → ℕ
ranks_of command = unwrap_or (number_given (codes "--ranks") command.options) (length command.files)

abbrev pub cores_of : Command → ℕ
cores_of command = unwrap_or (number_given (codes "--cores") command.options) 1

abbrev pub scheme_in : Command → Scheme
scheme_in command = unwrap_or (option_and_then scheme_of (value_of (codes "--scheme") command.options)) Direct

abbrev pub buffer_of : Command → ℕ
buffer_of command = unwrap_or (number_given (codes "--buffer") command.options) 16384

-- ---- refusals

-- whether a word is the name of a job
abbrev pub is_job : Option (List ℕ) → Bool
is_job None = false
is_job (Some word) = bytes_eq word (codes "tally")

-- whether an option isn't in the table
abbrev pub is_unknown : Given → Bool
is_unknown given = is_none (form_of given.name)

-- whether two options have one name
abbrev pub has_twice : List Given → Bool
has_twice [] = false
has_twice (given ∷ later) = list_any (is_named given.name) later || has_twice later

-- whether no word follows an option
abbrev pub lacks_value : Given → Bool
lacks_value given = is_none given.value

-- whether a value isn't of its form
abbrev pub is_bad : Option Form → Option (List ℕ) → Bool
is_bad (Some form) (Some value) = not (is_of_form form value)
is_bad (Some form) None = false
is_bad None value = false

abbrev pub has_bad_value : Given → Bool
has_bad_value given = is_bad (form_of given.name) given.value

-- The table of the refusals: when each holds of a command line.
abbrev pub holds : Command → UsageKind → Bool
holds command NoJob = is_none command.job
holds command UnknownJob = not (is_job command.job)
holds command UnknownOption = list_any is_unknown command.options
holds command OptionTwice = has_twice command.options
holds command MissingValue = list_any lacks_value command.options
holds command BadValue = list_any has_bad_value command.options
holds command NoFile = length command.files == 0
holds command TooManyFiles = nat_lt (ranks_of command) (length command.files)
holds command Layout = (ranks_of command == 0) || ((cores_of command == 0) || not (ranks_of command % cores_of command == 0))
holds command TooManyRanks = nat_lt max_ranks (ranks_of command)

-- their order
abbrev pub refusals : List UsageKind
refusals = NoJob ∷ UnknownJob ∷ UnknownOption ∷ OptionTwice ∷ MissingValue ∷ BadValue ∷ NoFile ∷ TooManyFiles ∷ Layout ∷ TooManyRanks ∷ []

-- ---- what words ask for

-- a job runs by these settings over so many files
pub record CanRun (settings : Settings) (files : ℕ) : Type 0 where
  pub laid_out : IsLayout settings.layout
  pub few : files ≤ settings.layout.ranks
  pub least : min_buffer ≤ settings.buffer
  pub greatest : settings.buffer ≤ max_buffer

-- a job with its settings, over the files of these names
pub record Asked : Type 0 where
  pub settings : Settings
  pub names : List (List ℕ)

abbrev pub asked_by : Command → Asked
asked_by command = record {
  settings = record {
    kind = Tally;
    layout = record { ranks = ranks_of command; cores = cores_of command };
    scheme = scheme_in command;
    buffer = buffer_of command;
  };
  names = command.files;
}

-- what an order asks for
abbrev pub asked_in : Order → Asked
asked_in order = record { settings = order.settings; names = texts_of order.names.now }

-- a refusal, or else what is asked for
abbrev pub refused_or : Option UsageKind → Asked → Result Asked UsageKind
refused_or (Some kind) asked = Err kind
refused_or None asked = Ok asked

-- what the words ask for, or the first refusal that holds of them
abbrev pub order_of : List (List ℕ) → Result Asked UsageKind
order_of words = refused_or (find (holds (command_of words)) refusals) (asked_by (command_of words))

-- the files of accepted words, and none of refused ones
abbrev pub named : Result Asked UsageKind → List (List ℕ)
named (Ok asked) = asked.names
named (Err kind) = []

-- the ranks of accepted words, and none of refused ones
abbrev pub ranks_in : Result Asked UsageKind → ℕ
ranks_in (Ok asked) = asked.settings.layout.ranks
ranks_in (Err kind) = 0

-- what the note of a refusal says
abbrev pub kind_text : UsageKind → List ℕ
kind_text NoJob = codes "no job"
kind_text UnknownJob = codes "unknown job"
kind_text UnknownOption = codes "unknown option"
kind_text OptionTwice = codes "option given twice"
kind_text MissingValue = codes "option without a value"
kind_text BadValue = codes "bad value"
kind_text NoFile = codes "no file"
kind_text TooManyFiles = codes "too many files"
kind_text Layout = codes "layout"
kind_text TooManyRanks = codes "too many ranks"
