-- The job balance: the lines of each rank are dealt out to all ranks in turn, and the text has how many each received.
use Rattle.std.specs.Prelude.{◌≡◌, ◌==◌, ℕ, zero, suc, ◌+◌, ◌%◌, List, [], ◌++◌, None, Some, codes, decimal, get_or, if◌then◌else◌, length}
use Rattle.list_facts.specs.Sums.{sum_upto}
use Rattle.bag_set.specs.Bags.{Items, insert_letter}
use Rattle.ygm_jobs.specs.declared.shard.JobShard.{JobShard}
use Rattle.ygm_jobs.specs.declared.shard.JobShard.TheVariants.{Tally, Distinct, Balance}
use Rattle.ygm_jobs.specs.Input.{Input, input_at}
use Rattle.ygm_jobs.specs.Job.{Job, two_for_each_line}
use Rattle.ygm_jobs.specs.OwnLetters.{AreForLines, LineLetter}

-- the letter for a line inserts it at the rank whose turn it is; the turn of line 0 is that of the sender
abbrev pub balance_letter : LineLetter
balance_letter ranks here number line = insert_letter ((here + number) % ranks) here line

-- ---- text

-- a rank in decimal, TAB, a count in decimal, LF
abbrev pub balance_row : ℕ → ℕ → List ℕ
balance_row rank count = decimal rank ++ codes "\t" ++ decimal count ++ codes "\n"

-- a row for each of the first ranks, in order
abbrev pub row_for_each : (ℕ → ℕ) → ℕ → List ℕ
row_for_each count zero = []
row_for_each count (suc rank) = row_for_each count rank ++ balance_row rank (count rank)

-- how many of so many lines of a rank go to another: of those numbers of lines, from 0, whose turn is that of the other
abbrev pub dealt_by : (ranks here to lines : ℕ) → ℕ
dealt_by ranks here to lines = sum_upto (λ number. if (here + number) % ranks == to then 1 else 0) lines

-- how many lines of all ranks go to one
abbrev pub dealt : (ranks : ℕ) → List Input → ℕ → ℕ
dealt ranks inputs to = sum_upto (λ from. dealt_by ranks from to (length (input_at inputs from).lines)) ranks

-- a row for each rank, in order, with the number of lines that go to it
abbrev pub balance_text : (ranks : ℕ) → List Input → List ℕ
balance_text ranks inputs = row_for_each (dealt ranks inputs) ranks

-- the items that a shard of balance keeps
abbrev pub bag_of : JobShard → Items
bag_of (Tally counts) = []
bag_of (Distinct items) = []
bag_of (Balance items) = items

-- how many items a rank keeps
abbrev pub kept_at : List JobShard → ℕ → ℕ
kept_at shards rank = length (bag_of (get_or shards rank (Balance [])))

-- ---- the job

abbrev pub balance : Job
balance = record {
  wrong = λ line. None;
  barriers = 1;
  start = λ ranks here. Balance [];
  IsOwn = AreForLines balance_letter;
  text = λ ranks inputs. Some (balance_text ranks inputs);
  IsText = λ shards text. text ≡ Some (row_for_each (kept_at shards) (length shards));
  most = two_for_each_line;
}
