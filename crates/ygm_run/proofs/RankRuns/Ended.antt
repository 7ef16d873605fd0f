-- What the jobs of all ranks come to, once all have finished.
use Rattle.std.proofs.Common.{◌≡◌, ◌⊎◌, ℕ, zero, suc, ◌<◌, ◌≤◌, List, [], ◌∷◌, Some, None, Option, IfSome, IsOk, IsSome, Result, Ok, Err, get_or, length, map, slice_get, refl, sym, ap, ◌∙◌, subst, arith, inl, inr}
use Rattle.std.specs.Option.{option_map}
use Rattle.std.proofs.lemmas.Bool.{cases_lt}
use Rattle.std.proofs.lemmas.List.{get_or_past, get_or-map, length-map}
use Rattle.std.proofs.lemmas.Option.{slice_get-get_or, slice_get-map, slice_get_within}
use Rattle.list_facts.proofs.Fields.{field_at}
use Rattle.msg_codec.specs.declared.letter.Letter.{Letter}
use Rattle.ygm_io.specs.Content.{ExposedBytes}
use Rattle.ygm_route.specs.Layout.{Shape, max_ranks}
use Rattle.world_core.specs.declared.entry.Entry.{Entry}
use Rattle.world_core.specs.Local.{local_rank}
use Rattle.world_core.specs.Plain.{Plain, state_of}
use Rattle.world_core.specs.Sound.{IsSound}
use Rattle.world_core.specs.World.{log_of}
use Rattle.comm_rank.specs.declared.fault.CommFault.{CommFault}
use Rattle.comm_rank.specs.Fold.{fold_from}
use Rattle.comm_rank.specs.Rank.{Rank, fresh_rank, held_letters}
use Rattle.term_barrier.specs.Barriers.{fresh_barrier}
use Rattle.term_barrier.specs.Carried.{AllCarry, Carries}
use Rattle.term_barrier.specs.CompleteRun.{earlier}
use Rattle.term_barrier.specs.Cuts.{arrivals_of}
use Rattle.term_barrier.specs.Left.{left_cuts}
use Rattle.term_barrier.specs.SilentRun.{HavePassed}
use Rattle.term_barrier.proofs.Account.Turned.{agrees_up_to_date}
use Rattle.term_barrier.proofs.Carried.Passed.{have_passed}
use Rattle.term_barrier.proofs.Passed.Silent.{passed_run, silent_contents}
use Rattle.counting_set.specs.Counting.{Counts, counting_apply}
use Rattle.ygm_run.specs.declared.ranks.RankRun.{RankRun}
use Rattle.ygm_run.specs.BadLines.{tally_wrong}
use Rattle.ygm_run.specs.Inputs.{AllRead, IsRead}
use Rattle.ygm_run.specs.Job.{AreExposed, lines_of_each}
use Rattle.ygm_run.specs.JobEnds.{HasRun}
use Rattle.line_input.specs.Lines.{lines_of, text_of}
use Rattle.ygm_run.specs.RankJobs.{HasFinished, faults_in, fresh_job, left_in}
use Rattle.ygm_run.specs.RankRuns.{AllWell, AreRuns, IsByEnd, NoFaults, NoneStopped}
use Rattle.line_input.specs.Taken.{LinesTaken}
use Rattle.ygm_run.specs.ReadLines.{EndedWith}
use Rattle.ygm_run.specs.TallyRun.{AreFolds, IsTallyRun, tally_letters, tally_letters_of}
use Rattle.line_input.specs.Turns.{to_come}
use Rattle.ygm_run.proofs.Ending.Follows.{item_at}
use Rattle.ygm_run.proofs.Inputs.IsRead.{was_read}
use Rattle.ygm_run.proofs.ReadLines.AllTaken.{all_taken}
use Rattle.ygm_run.proofs.TallyRun.Run.{counting_is_silent}

-- what holds of some value for each rank, holds of those of one function
choose : {X : Type 0} (ranks : ℕ) (P : ℕ → X → Type 0) → X → ((rank : ℕ) → rank < ranks → (x : X) × P rank x) → (chosen : ℕ → X) × ((rank : ℕ) → rank < ranks → P rank (chosen rank))
choose {X} ranks P none each = ((λ rank. pick rank (cases_lt rank ranks)), (λ rank within. picked rank within (cases_lt rank ranks))) where
  pick : (rank : ℕ) → (rank < ranks) ⊎ (ranks ≤ rank) → X
  pick rank (inl within) = (each rank within).0
  pick rank (inr past) = none

  picked : (rank : ℕ) → rank < ranks → (test : (rank < ranks) ⊎ (ranks ≤ rank)) → P rank (pick rank test)
  picked rank within (inl again) = (each rank again).1
  picked rank within (inr past) = absurd (omega (arith, within, past))

-- the content of a source at a place is what remains there at first
pub content_is : {S : Type 0} (left : S → ExposedBytes) (start : List S) (rank : ℕ) (content : ExposedBytes) → slice_get (map left start) rank ≡ Some content → left_in left (slice_get start rank) ≡ content
content_is {S} left start rank content is = of (slice_get start rank) (sym (slice_get-map left start rank) ∙ is) where
  of : (source : Option S) → option_map left source ≡ Some content → left_in left source ≡ content
  of None e = cc
  of (Some source) e = cc

-- where the files expose their bytes, a rank has those of its file, and without a file none
pub bytes_at : {S : Type 0} (left : S → ExposedBytes) (start : List S) (bytes : List (List ℕ)) (rank : ℕ) → AreExposed (map left start) bytes → left_in left (slice_get start rank) ≡ Some (get_or bytes rank [])
bytes_at left [] [] rank exposed = refl
bytes_at left [] (file ∷ bytes) rank exposed = absurd cc
bytes_at left (source ∷ start) [] rank exposed = absurd cc
bytes_at left (source ∷ start) (file ∷ bytes) zero exposed = let e : left source ≡ Some file = cc in e
bytes_at left (source ∷ start) (file ∷ bytes) (suc rank) exposed = bytes_at left start bytes rank (let e : map left start ≡ map Some bytes = cc in e)

-- the lines of a rank's file
pub lines_at : (bytes : List (List ℕ)) (rank : ℕ) → lines_of (get_or bytes rank []) ≡ get_or (lines_of_each bytes) rank []
lines_at bytes rank = of (cases_lt rank (length bytes)) where
  of : (rank < length bytes) ⊎ (length bytes ≤ rank) → lines_of (get_or bytes rank []) ≡ get_or (lines_of_each bytes) rank []
  of (inl within) = sym (get_or-map lines_of bytes rank [] [] within)
  of (inr past) = ap lines_of (get_or_past bytes rank [] past) ∙ sym (get_or_past (lines_of_each bytes) rank [] (omega (arith, past, length-map bytes lines_of)))

module _ {S : Type 0} (left : S → ExposedBytes) (faults : S → ℕ) (layout : Shape) (start : List S) (runs : List RankRun) (links : Plain) (sources : List S)
    (are : AreRuns left faults layout start runs links sources)
    (ended : (rank : ℕ) (run : RankRun) → slice_get runs rank ≡ Some run → IsSome run.ended) (none_stopped : NoneStopped runs) where
  -- what a rank's file had at first
  abbrev content : ℕ → ExposedBytes
  content rank = left_in left (slice_get start rank)

  pub finished : (rank : ℕ) (run : RankRun) → slice_get runs rank ≡ Some run →
      HasFinished left faults (content rank) run.job run.comm run.barrier (state_of links) (slice_get sources rank)
  finished rank run at = of run.ended (ended rank run at) (none_stopped rank run at) (are.each rank run at).by_end where
    of : (how : Option (Result (Unit {0}) CommFault)) → IsSome how → IfSome how IsOk
        → IsByEnd left faults (content rank) how run.job run.comm run.barrier (state_of links) (slice_get sources rank)
        → HasFinished left faults (content rank) run.job run.comm run.barrier (state_of links) (slice_get sources rank)
    of None some ok by = cc
    of (Some (Ok done)) some ok by = by
    of (Some (Err fault)) some ok by = cc

  -- a rank's file was read to its end or to its first fault
  pub read_at : (rank : ℕ) (run : RankRun) (source : S) → slice_get runs rank ≡ Some run → slice_get sources rank ≡ Some source →
      IsRead tally_wrong left faults (content rank) source run.job.fault
  read_at rank run source at is =
      let done = finished rank run at in
      let reader = run.job.reader in
      let read = done.keeps.read in
      was_read left faults done.keeps.raws reader (content rank) source run.job.fault read.short
      (subst (λ (from : Option S). LinesTaken done.keeps.raws (content rank) (to_come reader.held (left_in left from))) is read.taken)
      read.given (omega (arith, read.given, done.keeps.few))
      (subst (λ (from : Option S). EndedWith run.job.fault reader (left_in left from) (faults_in faults from)) is done.ended)

  module _ (no_faults : NoFaults runs) where
    pub all_read : length sources ≤ length runs → AllRead tally_wrong left faults (map left start) sources
    all_read few rank all source at is =
        let run = item_at runs rank (omega (arith, slice_get_within sources rank source is, few)) in
        subst (λ (bytes : ExposedBytes). IsRead tally_wrong left faults bytes source None) (content_is left start rank all at)
        (subst (IsRead tally_wrong left faults (content rank) source) (no_faults rank run.0 run.1) (read_at rank run.0 source run.1 is))

    module _ (sound : IsSound links.world) (bytes : List (List ℕ)) (exposed : AreExposed (map left start) bytes) where
      abbrev ranks : ℕ
      ranks = links.world.layout.ranks

      abbrev files : List (List (List ℕ))
      files = lines_of_each bytes

      -- a rank's job, and any one past the last rank
      abbrev run_at : ℕ → RankRun
      run_at rank = get_or runs rank (record { job = fresh_job; comm = fresh_rank layout links.world.scheme 0 0 [] None; barrier = fresh_barrier layout 0 0; ended = None })

      all_ranks : length runs ≡ ranks
      all_ranks = are.all ∙ sym (ap (λ (l : Shape). l.ranks) are.same_world)

      there : (rank : ℕ) → rank < ranks → slice_get runs rank ≡ Some (run_at rank)
      there rank within = slice_get-get_or runs rank _ (omega (arith, within, all_ranks))

      done_at : (rank : ℕ) → rank < ranks →
          HasFinished left faults (content rank) (run_at rank).job (run_at rank).comm (run_at rank).barrier (state_of links) (slice_get sources rank)
      done_at rank within = finished rank (run_at rank) (there rank within)

      here_is : (rank : ℕ) → rank < ranks → (run_at rank).comm.here ≡ rank
      here_is rank within = (are.each rank (run_at rank) (there rank within)).here

      layout_is : (rank : ℕ) → rank < ranks → (run_at rank).comm.layout ≡ links.world.layout
      layout_is rank within = (are.each rank (run_at rank) (there rank within)).layout_is ∙ sym are.same_world

      -- the lines that it has read are those of its file
      read_all : (rank : ℕ) (within : rank < ranks) → map text_of (done_at rank within).keeps.raws ≡ get_or files rank []
      read_all rank within =
          let done = done_at rank within in
          let run = run_at rank in
          let taken = all_taken done.keeps.raws run.job.reader (content rank) (left_in left (slice_get sources rank)) (faults_in faults (slice_get sources rank)) run.job.fault
          done.keeps.read.taken done.ended (no_faults rank run (there rank within)) in
          subst (λ (all : ExposedBytes). IfSome all (λ file. map text_of done.keeps.raws ≡ lines_of file)) (bytes_at left start bytes rank exposed) taken
          ∙ lines_at bytes rank

      -- what it carries are the letters of its file
      abbrev Carried : ℕ → (ℕ → ℕ) → Type 0
      Carried rank rounds = Carries counting_apply (λ _. []) (tally_letters_of ranks files rank) rounds (run_at rank).barrier (run_at rank).comm (state_of links)

      carries_at : (rank : ℕ) → rank < ranks → (rounds : ℕ → ℕ) × Carried rank rounds
      carries_at rank within =
          let keeps = (done_at rank within).keeps in
          let me : Rank Counts = (run_at rank).comm in
          let with : (ℕ → ℕ → List Letter) → Type 0 = λ own. Carries counting_apply (λ _. []) own keeps.rounds (run_at rank).barrier me (state_of links) in
          let size : me.layout.ranks ≡ ranks = ap (λ (l : Shape). l.ranks) (layout_is rank within) in (
            keeps.rounds,
            subst (λ (lines : List (List ℕ)). with (tally_letters ranks rank lines)) (read_all rank within)
                (subst (λ here. with (tally_letters ranks here (map text_of keeps.raws))) (here_is rank within)
                (subst (λ n. with (tally_letters n me.here (map text_of keeps.raws))) size keeps.carries)),
          )

      chosen : (rounds : ℕ → ℕ → ℕ) × ((rank : ℕ) → rank < ranks → Carried rank (rounds rank))
      chosen = choose ranks Carried (λ k. 0) carries_at

      all_carry : AllCarry counting_apply (λ _. []) links.world 1 (tally_letters_of ranks files) chosen.0
          (λ rank. (run_at rank).barrier) (λ rank. (run_at rank).comm) (λ rank. state_of links)
      all_carry = record {
        each = chosen.1;
        of_world = λ rank within.
            let me : Rank Counts = (run_at rank).comm in
            let world = links.world in
            ap (λ (l : Shape). local_rank l me.scheme me.here (log_of world me.here)) (layout_is rank within)
            ∙ ap (λ scheme. local_rank world.layout scheme me.here (log_of world me.here)) (sym (done_at rank within).keeps.carries.stands.belongs.scheme)
            ∙ ap (λ here. local_rank world.layout world.scheme here (log_of world here)) (here_is rank within);
        left = λ rank within. (done_at rank within).passed;
      }

      abbrev cuts : ℕ → ℕ → ℕ
      cuts = left_cuts links.world chosen.0

      passed : HavePassed counting_apply ranks 1 (λ rank. []) (tally_letters_of ranks files) cuts (λ rank. held_letters (run_at rank).comm) (log_of links.world)
      passed =
          have_passed counting_apply (λ _. []) links.world 1 (tally_letters_of ranks files) chosen.0
          (λ rank. (run_at rank).barrier) (λ rank. (run_at rank).comm) (λ rank. state_of links) all_carry sound (λ rank to within. refl)

      -- a rank keeps the fold of what arrived there
      kept_at : (rank : ℕ) → rank < ranks → (run_at rank).comm.contents ≡ fold_from counting_apply rank ranks [] (arrivals_of (log_of links.world) cuts rank 0)
      kept_at rank within =
          let me : Rank Counts = (run_at rank).comm in
          let here = here_is rank within in
          let log : List Entry = log_of links.world me.here in
          silent_contents counting_apply ranks 1 (λ one. []) (tally_letters_of ranks files) cuts (λ one. held_letters (run_at one).comm) (log_of links.world) passed
          counting_is_silent (λ _. []) me (omega (arith, within, here)) (ap (λ (l : Shape). l.ranks) (layout_is rank within)) refl
          (agrees_up_to_date counting_apply (λ _. []) me log (done_at rank within).keeps.carries.stands.belongs.agrees)
          ∙ ap (λ one. fold_from counting_apply one ranks [] (earlier (arrivals_of (log_of links.world) cuts one) 1)) here

      folds : (shards : List Counts) → shards ≡ map (λ (run : RankRun). run.comm.contents) runs → AreFolds ranks (λ rank. arrivals_of (log_of links.world) cuts rank 0) shards
      folds shards is = record {
        all = ap length is ∙ length-map runs (λ (run : RankRun). run.comm.contents) ∙ all_ranks;
        each = λ rank shard at.
            let within : rank < ranks = omega (arith, slice_get_within shards rank shard at, ap length is, length-map runs (λ (run : RankRun). run.comm.contents), all_ranks) in
            sym (field_at (λ (run : RankRun). run.comm.contents) runs rank (run_at rank) shard (there rank within) (subst (λ (all : List Counts). slice_get all rank ≡ Some shard) is at))
            ∙ kept_at rank within;
      }

      pub tally_run : (shards : List Counts) → shards ≡ map (λ (run : RankRun). run.comm.contents) runs → IsTallyRun (length runs) files shards
      tally_run shards is =
          subst (λ n. IsTallyRun n files shards) (sym all_ranks)
          (record {
            arrivals = arrivals_of (log_of links.world) cuts;
            run = passed_run counting_apply ranks 1 (λ rank. []) (tally_letters_of ranks files) cuts (λ rank. held_letters (run_at rank).comm) (log_of links.world) passed;
            folds = folds shards is;
          })

-- all jobs have finished without a fault
pub has_run : {S : Type 0} (left : S → ExposedBytes) (faults : S → ℕ) (layout : Shape) (start : List S) (runs : List RankRun) (links : Plain) (sources : List S)
    → AreRuns left faults layout start runs links sources → ((rank : ℕ) (run : RankRun) → slice_get runs rank ≡ Some run → IsSome run.ended)
    → length sources ≤ length runs → IsSound links.world → (shards : List Counts) → AllWell runs shards → HasRun left faults (length runs) start sources shards
has_run left faults layout start runs links sources are ended few sound shards well = record {
  read = all_read left faults layout start runs links sources are ended well.none_stopped well.no_faults few;
  complete = λ bytes exposed. tally_run left faults layout start runs links sources are ended well.none_stopped well.no_faults sound bytes exposed shards well.shards_are;
}

-- a sound world has few ranks
pub few_ranks : {S : Type 0} (left : S → ExposedBytes) (faults : S → ℕ) (layout : Shape) (start : List S) (runs : List RankRun) (links : Plain) (sources : List S)
    → AreRuns left faults layout start runs links sources → IsSound links.world → length runs ≤ max_ranks
few_ranks left faults layout start runs links sources are sound =
    let few = sound.laid_out.few_ranks in omega (arith, few, are.all, ap (λ (l : Shape). l.ranks) are.same_world)
