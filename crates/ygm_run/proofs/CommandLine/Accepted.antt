-- What holds of a command line of which no refusal holds.
use Rattle.std.proofs.Common.{◌≡◌, ℕ, zero, suc, ◌+◌, ◌%◌, ◌<◌, ◌≤◌, ◌||◌, Bool, true, false, cond, not, List, [], ◌∷◌, Option, None, Some, Contains, codes, drop, find, get_or, length, option_and_then, refl, ap, sym, ◌∙◌, subst, arith}
use Rattle.std.specs.Prelude.{nat_eq, unwrap_or}
use Rattle.std.proofs.lemmas.Bool.{eqb-false, eqb-true, ltb-false}
use Rattle.ygm_route.specs.Layout.{IsLayout, max_ranks}
use Rattle.send_buffers.specs.Limits.{max_buffer, min_buffer}
use Rattle.ygm_run.specs.declared.words.UsageKind.{UsageKind}
use Rattle.ygm_run.specs.declared.words.UsageKind.TheVariants.{NoJob, UnknownJob, UnknownOption, OptionTwice, MissingValue, BadValue, NoFile, TooManyFiles, Layout, TooManyRanks}
use Rattle.ygm_run.specs.Words.{Command, batch_form, buffer_of, cores_of, holds, number_by, number_of, ranks_of, refusals, value_of}
use Rattle.ygm_run.proofs.CommandLine.Numbers.{default_within}

-- an item that fails isn't found
pub find_later : {X : Type 0} (test : X → Bool) (xs : List X) (place : ℕ) (other : X) → place < length xs → test (get_or xs place other) ≡ false
    → find test (drop place xs) ≡ find test (drop (place + 1) xs)
find_later test [] place other within fails = absurd (omega (arith, within))
find_later test (x ∷ xs) zero other within fails = ap (λ b. cond b (Some x) (find test xs)) fails
find_later test (x ∷ xs) (suc place) other within fails =
    let e : suc (place + 1) ≡ suc place + 1 = omega arith in
    subst (λ k. find test (drop place xs) ≡ find test (drop k (x ∷ xs))) e (find_later test xs place other (omega (arith, within)) fails)

-- if none is found, the first fails, and so do the later ones
not_first : {X : Type 0} (test : X → Bool) (x : X) (xs : List X) → find test (x ∷ xs) ≡ None → (test x ≡ false) × (find test xs ≡ None)
not_first test x xs none = elim (test x) as (λ b. cond b (Some x) (find test xs) ≡ None → (b ≡ false) × (find test xs ≡ None)) [
  | true ↦ λ e. absurd (cc)
  | false ↦ λ e. (refl, e)
] none

-- if none is found, each fails
pub none_passes : {X : Type 0} (test : X → Bool) (xs : List X) → find test xs ≡ None → (x : X) → Contains xs x → test x ≡ false
none_passes test [] none x (place, within, is) = absurd (omega (arith, within))
none_passes test (y ∷ ys) none x (zero, within, is) = ap test (sym is) ∙ (not_first test y ys none).0
none_passes test (y ∷ ys) none x (suc place, within, is) = none_passes test ys (not_first test y ys none).1 x (place, omega (arith, within), is)

-- each refusal is in the table
pub listed : (kind : UsageKind) → Contains refusals kind
listed NoJob = (0, omega arith, refl)
listed UnknownJob = (1, omega arith, refl)
listed UnknownOption = (2, omega arith, refl)
listed OptionTwice = (3, omega arith, refl)
listed MissingValue = (4, omega arith, refl)
listed BadValue = (5, omega arith, refl)
listed NoFile = (6, omega arith, refl)
listed TooManyFiles = (7, omega arith, refl)
listed Layout = (8, omega arith, refl)
listed TooManyRanks = (9, omega arith, refl)

neither : (a b : Bool) → (a || b) ≡ false → (a ≡ false) × (b ≡ false)
neither true b none = absurd (cc)
neither false b none = (refl, none)

holds_by_not : (a : Bool) → not a ≡ false → a ≡ true
holds_by_not true e = refl
holds_by_not false e = absurd (cc)

-- no refusal holds of this command line
pub record IsAccepted (command : Command) : Type 0 where
  pub some : 1 ≤ length command.files
  pub fits : length command.files ≤ ranks_of command
  pub laid_out : IsLayout (record { ranks = ranks_of command; cores = cores_of command })

pub accepted : (command : Command) → find (holds command) refusals ≡ None → IsAccepted command
accepted command none =
    let ranks = ranks_of command in
    let cores = cores_of command in
    let fails : (kind : UsageKind) → holds command kind ≡ false = λ kind. none_passes (holds command) refusals none kind (listed kind) in
    let no_rank = neither (nat_eq ranks 0) (nat_eq cores 0 || not (nat_eq (ranks % cores) 0)) (fails Layout) in
    let no_core = neither (nat_eq cores 0) (not (nat_eq (ranks % cores) 0)) no_rank.1 in
    record {
      some = omega (arith, eqb-false (length command.files) 0 (fails NoFile));
      fits = ltb-false ranks (length command.files) (fails TooManyFiles);
      laid_out = record {
        some_rank = omega (arith, eqb-false ranks 0 no_rank.0);
        few_ranks = ltb-false max_ranks ranks (fails TooManyRanks);
        some_core = omega (arith, eqb-false cores 0 no_core.0);
        full_nodes = eqb-true (ranks % cores) 0 (holds_by_not (nat_eq (ranks % cores) 0) no_core.1);
      };
    }

-- the most bytes of a batch are within their bounds
pub buffer_within : (command : Command) → (min_buffer ≤ buffer_of command) × (buffer_of command ≤ max_buffer)
buffer_within command = of (value_of (codes "--buffer") command.options) where
  of : (value : Option (List ℕ)) → let buffer = unwrap_or (option_and_then (number_by (Some batch_form)) value) 16384 in (min_buffer ≤ buffer) × (buffer ≤ max_buffer)
  of None = (omega arith, omega arith)
  of (Some text) = default_within min_buffer max_buffer 16384 (omega arith) (omega arith) (number_of text)
