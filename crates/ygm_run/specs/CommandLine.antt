-- Only private functions cite this: a command line as it is read.
use Rattle.std.specs.Prelude.{ℕ, ◌<◌, Bool, false, List, [], ◌∷◌, ◌||◌, bytes_eq, codes, length, ⊤}
use Rattle.std.specs.Option.{option_copied}
use Rattle.ygm_run.specs.declared.words.Command.{Command as CommandLine}
use Rattle.ygm_run.specs.declared.words.Next.{Next}
use Rattle.ygm_run.specs.declared.words.Next.TheVariants.{Option as AnOption, Files}
use Rattle.ygm_run.specs.declared.words.Test.{Test}
use Rattle.ygm_run.specs.declared.words.Test.TheVariants.{HasBadValue, IsNamed, IsUnknown, LacksValue}
use Rattle.ygm_run.specs.Words.{Command, Given, Parts, has_bad_value, is_named, is_unknown, lacks_value, only_files, parts_of, texts_of, with_option}

-- the parts of words that begin so
abbrev pub parts_by : Next → Parts
parts_by (AnOption name value later) = with_option name.now (option_copied value) (parts_of (texts_of later.now))
parts_by (Files files) = only_files (texts_of files.now)

-- fewer words than this are later than an option
abbrev pub fewer_later : Next → ℕ → Type 0
fewer_later (AnOption name value later) count = length later.now < count
fewer_later (Files files) count = ⊤

-- the options at the start of words
abbrev pub options_of : List (List ℕ) → List Given
options_of words = (parts_of words).options

-- whether an option passes a test
abbrev pub passes : Test → Given → Bool
passes IsUnknown given = is_unknown given
passes (IsNamed name) given = is_named name.now given
passes LacksValue given = lacks_value given
passes HasBadValue given = has_bad_value given

-- a command line: a job, and the words after it, of which the files were found
abbrev pub command_in : CommandLine → Command
command_in line = record {
  job = option_copied line.job;
  options = options_of (texts_of line.words.now);
  files = texts_of line.files.now;
}

-- whether a word is the only one
abbrev pub is_lone : List ℕ → List (List ℕ) → Bool
is_lone word [] = false
is_lone word (only ∷ []) = bytes_eq only word
is_lone word (only ∷ next ∷ later) = false

-- whether words ask for a text, and for no job
abbrev pub asks_for_text : List (List ℕ) → Bool
asks_for_text words = is_lone (codes "--help") words || (is_lone (codes "-h") words || is_lone (codes "--version") words)
