-- A rank that has left a barrier has left it for good, whatever its log gains.
use Rattle.std.proofs.Common.{◌≡◌, ℕ, pred, ◌≤◌, ◌<◌, Bool, true, nat_eq, ◌&&◌, is_some, Option, Some, None, List, ◌++◌, flat_map, length, length-append, refl, sym, ap, ◌∙◌, arith}
use Rattle.std.specs.List.{find}
use Rattle.std.specs.Option.{option_or}
use Rattle.std.proofs.lemmas.Grind.{flat_map-append}
use Rattle.std.proofs.lemmas.List.Elements.{filter_map-append}
use Rattle.std.proofs.lemmas.List.Folds.{find-append}
use Rattle.list_facts.proofs.Below.{row_grows}
use Rattle.msg_codec.specs.Control.{round_of}
use Rattle.msg_codec.specs.declared.letter.Letter.{Letter}
use Rattle.world_core.specs.declared.entry.Entry.{Entry}
use Rattle.world_core.specs.Counts.{counts, is_total_to, total_taken}
use Rattle.world_core.specs.Local.{Local}
use Rattle.world_core.specs.Log.{batches_taken, letters_taken, letters_taken_by, took_from}
use Rattle.world_core.specs.Rounds.{rounds_known, sums_in, sums_told}
use Rattle.world_core.specs.Sound.{IsSound}
use Rattle.world_core.specs.World.{Logs, local, log_of}
use Rattle.world_core.proofs.Counts.BeforeCount.{before_stands}
use Rattle.term_barrier.specs.Left.{HasLeft, gained, left_cut}
use Rattle.term_barrier.proofs.Left.Known.{left_ends, took_total}
use Rattle.term_barrier.proofs.Left.SameSums.{ended_below-same, ends-same, pred_within}

first_stays : (o more : Option Letter) → is_some o ≡ true → option_or o more ≡ o
first_stays None more some = absurd cc
first_stays (Some l) more some = refl

-- a Total that was taken stays the first of its round
total_stays : (here q : ℕ) (log more : List Entry) → is_some (total_taken here q log) ≡ true → total_taken here q (log ++ more) ≡ total_taken here q log
unfolding total_taken
total_stays here q log more some =
    let test : Letter → Bool = λ l. is_total_to here l && nat_eq (round_of l) q in
    ap (λ bs. find test (flat_map (λ b. b) bs)) (filter_map-append (took_from 0) log more)
    ∙ ap (find test) (flat_map-append (λ b. b) (batches_taken 0 log) (batches_taken 0 more))
    ∙ find-append test (flat_map (λ b. b) (batches_taken 0 log)) (flat_map (λ b. b) (batches_taken 0 more))
    ∙ first_stays _ _ some

module _ (me : Local) (more : List Entry) where
  more_taken : length (letters_taken me.log) ≤ length (letters_taken (me.log ++ more))
  more_taken =
      let both = ap length (flat_map-append letters_taken_by me.log more) in
      let sum = length-append (letters_taken me.log) (letters_taken more) in
      omega (arith, both, sum)

  pub more_known : rounds_known me.here me.log ≤ rounds_known me.here (me.log ++ more)
  unfolding rounds_known
  more_known =
      row_grows (λ j. is_some (total_taken me.here j me.log)) (λ j. is_some (total_taken me.here j (me.log ++ more))) _ _
      (λ j some. ap is_some (total_stays me.here j me.log more some) ∙ some)
      more_taken

  pub sums_stay : (q : ℕ) → q < rounds_known me.here me.log → sums_told me.here me.log q ≡ sums_told me.here (me.log ++ more) q
  sums_stay q known = sym (ap sums_in (total_stays me.here q me.log more (took_total me q known)))

  pub left_stays : (barrier round : ℕ) → HasLeft me barrier round → HasLeft (gained me more) barrier round
  left_stays barrier round left =
      let old = sums_told me.here me.log in
      let new = sums_told me.here (me.log ++ more) in
      let same : (j : ℕ) → j ≤ round → old j ≡ new j = λ j le. sums_stay j (omega (arith, le, left.known)) in
      record {
        known = omega (arith, left.known, more_known);
        ended = sym (ends-same old new round same) ∙ left.ended;
        number = sym (ended_below-same old new round (λ j lt. same j (omega (arith, lt)))) ∙ left.number;
      }

-- and the cut stays
pub cut_stays : (world : Logs) (rank barrier round : ℕ) (more : List Entry) → IsSound world → rank < world.layout.ranks →
    HasLeft (local world rank) barrier round → left_cut (gained (local world rank) more) round ≡ left_cut (local world rank) round
cut_stays world rank barrier round more sound within left =
    let put : round < counts (log_of world rank) = (left_ends world sound rank barrier round left).complete rank within in
    ap length (before_stands (pred round) (log_of world rank) more (omega (arith, put, pred_within round)))
