-- What a write does that doesn't fail, and what several writes do.
use Rattle.std.specs.Prelude.{◌≡◌, ℕ, ◌<◌, ◌≤◌, List, length, take}
use Rattle.rising_counts.specs.Rising.{Rose}
use Rattle.ygm_io.specs.Content.{ExposedBytes, AppendedTo}

-- A sink accepted the first `count` of the bytes that it was offered.
pub record PieceWritten (count : ℕ) (offered : List ℕ) (held held_now : ExposedBytes) (faults faults_now : ℕ) : Type 0 where
  pub within : count ≤ length offered
  -- at least one byte of a piece that isn't empty
  pub progress : 0 < length offered → 0 < count
  pub appended : AppendedTo (take count offered) held held_now
  pub stands : faults_now ≡ faults

-- All the bytes were written.
pub record AllWritten (bytes : List ℕ) (held held_now : ExposedBytes) (faults faults_now : ℕ) : Type 0 where
  pub all : AppendedTo bytes held held_now
  pub stands : faults_now ≡ faults

-- The sink failed after the first `written` bytes.
pub record PrefixWritten (written : ℕ) (bytes : List ℕ) (held held_now : ExposedBytes) (faults faults_now : ℕ) : Type 0 where
  pub short : written < length bytes
  pub front : AppendedTo (take written bytes) held held_now
  pub cause : Rose faults faults_now
