-- Files under their names, in a list in the order of adding.
use Rattle.std.specs.Prelude.{ℕ, List, Option, bytes_eq, find, reverse}
use Rattle.std.specs.Option.{option_map}

-- what was added last under this name
abbrev pub last_named : {T : Type 0} → List ℕ → List (List ℕ × T) → Option T
last_named name added = option_map (λ entry. entry.1) (find (λ entry. bytes_eq entry.0 name) (reverse added))

-- the bytes of a file, and which reads of them are to fail
pub record File : Type 0 where
  pub bytes : List ℕ
  pub fails : List ℕ

-- the bytes of the file that was added last under this name
abbrev pub bytes_named : List ℕ → List (List ℕ × File) → Option (List ℕ)
bytes_named name files = option_map (λ file. file.bytes) (last_named name files)
