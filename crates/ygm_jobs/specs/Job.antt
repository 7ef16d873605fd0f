-- What a job is.
use Rattle.std.specs.Prelude.{◌≡◌, ℕ, ◌+◌, ◌*◌, ◌≤◌, List, Option, None, length}
use Rattle.line_input.specs.declared.why.LineWhy.{LineWhy}
use Rattle.line_input.specs.Limits.{max_line}
use Rattle.msg_codec.specs.declared.letter.Letter.{Letter}
use Rattle.ygm_jobs.specs.declared.shard.JobShard.{JobShard}
use Rattle.ygm_jobs.specs.Input.{Input, all_lines}

-- All that distinguishes one job from another. What a letter does to a shard is the same definition for all jobs.
pub record Job : Type 1 where
  -- why the text of a line is refused, if it is
  pub wrong : List ℕ → Option LineWhy
  -- the number of barriers that each rank passes; before each of them lies a phase
  pub barriers : ℕ
  -- what a rank keeps at first
  pub start : (ranks here : ℕ) → JobShard
  -- whether letters, by phase and destination, are those that a rank sends by itself, as its input and what arrives at it
  -- in each phase say
  pub IsOwn : (ranks here : ℕ) → Input → (arrivals : ℕ → List Letter) → (own : ℕ → ℕ → List Letter) → Type 0
  -- the text, or none if a total is too large
  pub text : (ranks : ℕ) → List Input → Option (List ℕ)
  -- whether this is the text of what the ranks keep in the end, one shard for each rank
  pub IsText : List JobShard → Option (List ℕ) → Type 0
  -- a bound on the letters that one rank sends
  pub most : List Input → ℕ

-- the bound of most jobs: two letters for each line of all files, and three more
abbrev pub two_for_each_line : List Input → ℕ
two_for_each_line inputs = 2 * length (all_lines inputs) + 3

-- the job takes the line
pub record IsGood (job : Job) (line : List ℕ) : Type 0 where
  pub short : length line ≤ max_line
  pub right : job.wrong line ≡ None
