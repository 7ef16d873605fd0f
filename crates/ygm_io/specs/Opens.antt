-- What an open does that doesn't fail.
use Rattle.std.specs.Prelude.{◌≡◌, ℕ}
use Rattle.ygm_io.specs.Content.{ExposedBytes}

-- A source was opened: what remains in it and its count of faults, the bytes that the name held, and the count of faults
-- of the files.
pub record FileOpened (left : ExposedBytes) (source_faults : ℕ) (content : ExposedBytes) (faults faults_now : ℕ) : Type 0 where
  pub bytes : left ≡ content
  pub fresh : source_faults ≡ 0
  pub stands : faults_now ≡ faults
