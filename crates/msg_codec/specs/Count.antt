-- A count with its limit.
use Rattle.std.specs.Prelude.{ℕ}

pub record Count : Type 0 where
  pub count : ℕ
  pub limit : ℕ
