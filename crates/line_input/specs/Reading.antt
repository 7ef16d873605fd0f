-- What contracts see of a reader of lines.
use Rattle.std.specs.Prelude.{ℕ, List, [], Bool, false}

pub record Reading : Type 0 where
  -- the bytes that were read and not returned, in order
  pub held : List ℕ
  -- how many lines were returned
  pub given : ℕ
  -- whether there is no other turn
  pub done : Bool

-- a reader that has read nothing
abbrev pub fresh_reading : Reading
fresh_reading = record { held = []; given = 0; done = false }
