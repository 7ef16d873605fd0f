-- What calls of devices in memory do.
use Rattle.std.specs.Prelude.{◌≡◌, ◌⊎◌, ℕ, ◌+◌, ◌<◌, List, ◌++◌, None, Some, IsSomeAnd, length, take, drop, min}
use Rattle.rising_counts.specs.Rising.{Rose}
use Rattle.ygm_io.specs.ByName.{bytes_named, last_named}
use Rattle.ygm_io.specs.Content.{CallFailed}
use Rattle.ygm_io.specs.Opens.{FileOpened}
use Rattle.ygm_io.specs.Plan.{Plan, NextFails, after_call, after_fault, fresh_plan}
use Rattle.ygm_io.specs.Reads.{PieceRead}
use Rattle.ygm_io.specs.Writes.{PieceWritten}
use Rattle.ygm_io.specs.declared.mem_files.MemFiles.{MemFiles}
use Rattle.ygm_io.specs.declared.mem_source.MemSource.{MemSource}

-- As many bytes as remained and fit were moved to the start of a buffer, which was `space` before and is `filled` now.
pub record Moved (count : ℕ) (space filled left left_now : List ℕ) : Type 0 where
  pub as_many_as_fit : count ≡ min (length space) (length left)
  pub moved : filled ≡ take count left ++ drop count space
  pub behind : drop count filled ≡ drop count space
  pub rest : left_now ≡ drop count left

-- A read of a source in memory gave a piece, and was counted.
pub record MemoryRead (count : ℕ) (space filled : List ℕ) (before now : MemSource) : Type 0 where
  pub as_source : PieceRead count space filled (Some before.left) (Some now.left) before.plan.faults now.plan.faults
  pub moved : Moved count space filled before.left now.left
  pub counted : now.plan ≡ after_call before.plan

-- A read of a source in memory failed. It was counted as a fault, and nothing else changed.
pub record MemoryReadFailed (space filled : List ℕ) (before now : MemSource) : Type 0 where
  pub as_source : CallFailed (Some before.left) (Some now.left) before.plan.faults now.plan.faults
  pub untouched : filled ≡ space
  pub counted_fault : now ≡ record before { plan = after_fault before.plan }

-- A sink in memory accepted a piece, and the write was counted. `most` is how many bytes one write takes.
pub record MemoryWritten (count : ℕ) (offered held held_now : List ℕ) (most : ℕ) (plan plan_now : Plan) : Type 0 where
  pub as_sink : PieceWritten count offered (Some held) (Some held_now) plan.faults plan_now.faults
  pub as_many_as_one_call_takes : count ≡ min (length offered) most
  pub counted : plan_now ≡ after_call plan

-- A write to a sink in memory failed, and was counted as a fault. `capacity` is how many bytes the sink could hold before
-- it took memory again.
pub record MemoryWriteFailed (offered held held_now : List ℕ) (capacity most : ℕ) (plan plan_now : Plan) : Type 0 where
  pub as_sink : CallFailed (Some held) (Some held_now) plan.faults plan_now.faults
  -- it was to fail, or had to take memory
  pub nowhere_else : NextFails plan ⊎ (capacity < length held + min (length offered) most)
  pub counted_fault : plan_now ≡ after_fault plan

-- A file in memory was opened, the last that was added under its name. Only the count of calls changed.
pub record MemoryOpened (name : List ℕ) (source : MemSource) (before now : MemFiles) : Type 0 where
  pub as_files : FileOpened (Some source.left) source.plan.faults (bytes_named name before.files.items) before.plan.faults now.plan.faults
  pub opened : IsSomeAnd (last_named name before.files.items) (λ file. (source.left ≡ file.bytes) × (source.plan ≡ fresh_plan file.fails))
  pub counted : now ≡ record before { plan = after_call before.plan }

-- An open of files in memory failed. It was counted as a fault, and nothing else changed.
pub record MemoryOpenFailed (name : List ℕ) (before now : MemFiles) : Type 0 where
  pub cause : Rose before.plan.faults now.plan.faults
  -- it was to fail, or no file was added under the name
  pub nowhere_else : NextFails before.plan ⊎ (last_named name before.files.items ≡ None)
  pub counted_fault : now ≡ record before { plan = after_fault before.plan }
