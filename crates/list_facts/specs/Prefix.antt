-- Lists at the beginning and at the end of another.
use Rattle.std.specs.Prelude.{◌≡◌, List, ◌++◌}

-- a list is the beginning of another
pub record IsPrefix {X : Type 0} (prefix whole : List X) : Type 0 where
  pub rest : List X
  pub joined : prefix ++ rest ≡ whole

-- a list is the end of another
pub record IsSuffix {X : Type 0} (suffix whole : List X) : Type 0 where
  pub before : List X
  pub joined : before ++ suffix ≡ whole
