-- What a read does that doesn't fail.
use Rattle.std.specs.Prelude.{◌≡◌, ℕ, ◌≤◌, List, length, take}
use Rattle.ygm_io.specs.Content.{ExposedBytes, TakenFrom}

-- A source moved `count` bytes to the start of a buffer, which was `space` before and is `filled` now.
pub record PieceRead (count : ℕ) (space filled : List ℕ) (left left_now : ExposedBytes) (faults faults_now : ℕ) : Type 0 where
  pub within : count ≤ length space
  -- they were the first that remained
  pub taken : TakenFrom (take count filled) left left_now
  pub stands : faults_now ≡ faults
