-- The numbers that the code reads in the first control letter of a kind, in a batch and in a log.
use Rattle.std.proofs.Common.{◌≡◌, ℕ, ◌+◌, Bool, true, false, is_some, Option, Some, None, List, [], ◌∷◌, take, slice_get, refl, sym, ap, ◌∙◌, if◌then◌else◌}
use Rattle.std.specs.List.{find}
use Rattle.std.specs.Option.{option_map}
use Rattle.msg_codec.specs.declared.letter.Letter.{Letter}
use Rattle.world_core.specs.declared.entry.Entry.{Entry}
use Rattle.world_core.specs.declared.control_letters.Numbers.{Numbers}
use Rattle.world_core.specs.Rounds.{Sums, sums_in}
use Rattle.world_core.specs.Trial.{numbers_read}
use Rattle.world_core.proofs.Counts.Stepwise.{find_here, find_next, find_taken, taken_here, taken_next}

pub mapped_some : (o : Option Letter) → is_some (option_map numbers_read o) ≡ is_some o
mapped_some None = refl
mapped_some (Some l) = refl

none_left : (o : Option Letter) → is_some o ≡ false → o ≡ None
none_left None h = refl
none_left (Some l) h = absurd cc

-- ---- letter by letter

module _ (p : Letter → Bool) (letters : List Letter) (k : ℕ) (l : Letter) (here : slice_get letters k ≡ Some l) (none : find p (take k letters) ≡ None)
    (read : Option Numbers) (is : read ≡ (if p l then Some (numbers_read l) else None)) where
  pub read_here : is_some read ≡ true → read ≡ option_map numbers_read (find p letters)
  read_here h = either (p l) refl is
    where
      either : (b : Bool) → p l ≡ b → read ≡ (if b then Some (numbers_read l) else None) → read ≡ option_map numbers_read (find p letters)
      either true passes e = e ∙ ap (option_map numbers_read) (sym (find_here p letters k l here none passes))
      either false fails e = absurd (let known : is_some read ≡ false = ap is_some e in cc)

  pub read_next : is_some read ≡ false → find p (take (k + 1) letters) ≡ None
  read_next h = either (p l) refl is
    where
      either : (b : Bool) → p l ≡ b → read ≡ (if b then Some (numbers_read l) else None) → find p (take (k + 1) letters) ≡ None
      either true passes e = absurd (let known : is_some read ≡ true = ap is_some e in cc)
      either false fails e = find_next p letters k l here none fails

-- ---- entry by entry

module _ (p : Letter → Bool) (rank : ℕ) (log : List Entry) (i : ℕ) (e : Entry) (here : slice_get log i ≡ Some e) (none : find_taken p rank (take i log) ≡ None)
    (read : Option Numbers) (is : read ≡ option_map numbers_read (find_taken p rank (e ∷ []))) where
  pub log_here : is_some read ≡ true → read ≡ option_map numbers_read (find_taken p rank log)
  log_here h =
      let some : is_some (find_taken p rank (e ∷ [])) ≡ true = sym (mapped_some (find_taken p rank (e ∷ []))) ∙ ap is_some (sym is) ∙ h in
      is ∙ ap (option_map numbers_read) (sym (taken_here p rank log i e here none some))

  pub log_next : is_some read ≡ false → find_taken p rank (take (i + 1) log) ≡ None
  log_next h =
      let nothing : is_some (find_taken p rank (e ∷ [])) ≡ false = sym (mapped_some (find_taken p rank (e ∷ []))) ∙ ap is_some (sym is) ∙ h in
      taken_next p rank log i e here none (none_left (find_taken p rank (e ∷ [])) nothing)

-- ---- what was read

pub read_nothing : (o : Option Letter) → None ≡ option_map numbers_read o → is_some o ≡ false
read_nothing None h = refl
read_nothing (Some l) h = absurd cc

pub read_some : (o : Option Letter) (numbers : Numbers) → Some numbers ≡ option_map numbers_read o →
    (is_some o ≡ true) × ((let sums : Sums = record { sent = numbers.sent; run = numbers.run } in sums) ≡ sums_in o)
read_some None numbers h = absurd cc
read_some (Some l) numbers h =
    let same : numbers ≡ numbers_read l = cc in
    (refl, ap (λ (n : Numbers). let sums : Sums = record { sent = n.sent; run = n.run } in sums) same)
