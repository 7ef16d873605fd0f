-- The shards of a complete run of tally are those of a tally, and a table of them is the text of the files.
use Rattle.std.proofs.Common.{◌≡◌, ◌⊎◌, ℕ, ◌<◌, ◌≤◌, List, [], Some, All, get_or, length, flat_map, map, refl, sym, ap, subst, arith, inl, inr}
use Rattle.std.proofs.lemmas.Bool.{cases_lt}
use Rattle.std.proofs.lemmas.List.{get_or_past, length-map}
use Rattle.std.proofs.lemmas.List.Elements.{All-nil}
use Rattle.ygm_io.specs.Content.{ExposedBytes}
use Rattle.ygm_route.specs.Layout.{max_ranks}
use Rattle.term_barrier.specs.SilentRun.{IsSilent}
use Rattle.term_barrier.proofs.CompleteRun.Silent.{arrived_weight}
use Rattle.counting_set.specs.Counting.{Counts, counting_apply}
use Rattle.ygm_run.specs.Job.{AreExposed, lines_of_each}
use Rattle.ygm_run.specs.JobEnds.{HasRun}
use Rattle.line_input.specs.Lines.{lines_of}
use Rattle.ygm_run.specs.TallyRun.{IsTally, IsTallyRun, own_letters, tally_letters_of}
use Rattle.ygm_run.specs.TallyText.{IsTableOf, tally_text}
use Rattle.ygm_run.proofs.Inputs.AllRead.{all_few, all_short}
use Rattle.ygm_run.proofs.TallyRun.AllLines.{lines_fit_a_count}
use Rattle.ygm_run.proofs.TallyRun.OwnLetters.{IsShort, own_letters_count}
use Rattle.ygm_run.proofs.TallyRun.Shards.{text_of_tally}

pub counting_is_silent : IsSilent counting_apply
counting_is_silent contents here ranks l = refl

-- a rank has the lines of its file, or none
short_at : (files : List (List (List ℕ))) (rank : ℕ) → All (λ lines. All IsShort lines) files → All IsShort (get_or files rank [])
short_at files rank short = of (cases_lt rank (length files)) where
  of : (rank < length files) ⊎ (length files ≤ rank) → All IsShort (get_or files rank [])
  of (inl within) = short rank [] within
  of (inr past) = subst (λ (lines : List (List ℕ)). All IsShort lines) (sym (get_or_past files rank [] past)) (All-nil IsShort)

-- a complete run over files with short lines is a tally of them
pub tally_of_run : (ranks : ℕ) (files : List (List (List ℕ))) (shards : List Counts) → All (λ lines. All IsShort lines) files → IsTallyRun ranks files shards → IsTally ranks files shards
tally_of_run ranks files shards short run = record {
  own = λ from. own_letters ranks from (get_or files from []);
  arrivals = λ rank. run.arrivals rank 0;
  count = λ from within. own_letters_count ranks from (get_or files from []) (short_at files from short);
  weigh = λ weight to within.
      arrived_weight counting_apply ranks 1 (λ rank. []) (tally_letters_of ranks files) run.arrivals run.run counting_is_silent weight to 0 within (omega arith);
  folds = run.folds;
}

-- a table of the shards of a run is the text of the files
pub text_of_run : {S : Type 0} (left : S → ExposedBytes) (faults : S → ℕ) (ranks : ℕ) (start sources : List S) (shards : List Counts) → 0 < ranks → length start ≤ ranks → ranks ≤ max_ranks
    → length sources ≡ length start → HasRun left faults ranks start sources shards → (bytes : List (List ℕ)) → AreExposed (map left start) bytes
    → (text : List ℕ) → IsTableOf (flat_map (λ shard. shard) shards) text → text ≡ tally_text (lines_of_each bytes)
text_of_run left faults ranks start sources shards some fit most same run bytes exposed text table =
    let files = lines_of_each bytes in
    let all : length sources ≡ length (map left start) = omega (arith, same, length-map start left) in
    let many : length files ≤ ranks = omega (arith, fit, length-map start left, ap length exposed, length-map bytes Some, length-map bytes lines_of) in
    let few = lines_fit_a_count files (omega (arith, many, most)) (all_few left faults (map left start) sources bytes exposed all run.read) in
    let tally = tally_of_run ranks files shards (all_short left faults (map left start) sources bytes exposed all run.read) (run.complete bytes exposed) in
    text_of_tally ranks files shards some many few tally text table
