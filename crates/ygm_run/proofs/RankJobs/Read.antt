-- Line turns of a job.
use Rattle.std.proofs.Common.{◌≡◌, ℕ, ◌<◌, ◌≤◌, Bool, true, false, List, [], ◌∷◌, ◌++◌, Option, None, Some, IfSome, Ok, Err, inl, inr, ◌⊎◌, length, map, refl, sym, ap, ◌∙◌, subst, arith, length-append}
use Rattle.std.proofs.lemmas.Bool.{cases_lt, false≢true}
use Rattle.std.proofs.lemmas.List.{append-nil, length-map, map-append}
use Rattle.std.proofs.lemmas.Option.{IfSome_then}
use Rattle.list_facts.proofs.Elements.{all_append}
use Rattle.ygm_io.specs.Content.{ExposedBytes, NothingLeft}
use Rattle.ygm_io.specs.Rising.{next_count}
use Rattle.world_core.specs.declared.entry.Entry.{Entry}
use Rattle.world_core.specs.Limits.{most_letters}
use Rattle.world_core.specs.Post.{PostState}
use Rattle.comm_rank.specs.declared.fault.CommFault.{CommFault}
use Rattle.comm_rank.specs.declared.fault.CommFault.TheVariants.{CountFull, NoMemory, Stopped}
use Rattle.comm_rank.specs.Agrees.{Agrees}
use Rattle.comm_rank.specs.Fault.{IfCountFull}
use Rattle.comm_rank.specs.Rank.{HasSent, Rank}
use Rattle.counting_set.specs.Counting.{Counts, add_letter, counting_apply}
use Rattle.part_hash.specs.Owner.{owner_of_key}
use Rattle.term_barrier.specs.Account.{with_more}
use Rattle.term_barrier.specs.Barriers.{BarrierState}
use Rattle.term_barrier.specs.Carried.{Carries}
use Rattle.term_barrier.proofs.Carried.Outside.{carries_entered, carries_sent}
use Rattle.term_barrier.proofs.Carried.Same.{carries_same}
use Rattle.line_input.specs.Limits.{max_line}
use Rattle.line_input.specs.Lines.{StartsTooLong, raw_lines, text_of}
use Rattle.ygm_run.specs.RankJobs.{FullAtLine, HasReadOn, HasSentLines, InJob, JobState, KeepsJob}
use Rattle.line_input.specs.Reading.{Reading}
use Rattle.ygm_run.specs.ReadLines.{HasReadLines, IsFullFile}
use Rattle.ygm_run.specs.TallyRun.{tally_letters}
use Rattle.line_input.specs.Turns.{GaveLine, LostNothing, MetEnd, MetTooLong, RawLineTaken, ReadFailed, ReadMore, TookTurn, to_come}
use Rattle.line_input.specs.declared.line_reader.Got.TheVariants.{End, Line as GotLine, More}
use Rattle.line_input.specs.declared.line_reader.LineFault.TheVariants.{LineTooLong, ReadFault}
use Rattle.ygm_run.specs.declared.status.InputFault.TheVariants.{Bad, Read}
use Rattle.line_input.specs.declared.why.LineWhy.TheVariants.{TooLong}
use Rattle.ygm_run.proofs.Inputs.GoodLines.{few_good}
use Rattle.ygm_run.proofs.RankJobs.OneMore.{one_line_more}
use Rattle.ygm_run.proofs.ReadLines.FullFile.{many_good}
use Rattle.line_input.proofs.Taken.LinesTaken.{line_cut, lines_more}

-- ---- what the reader did

-- a line was taken
pub read_line : (text : List ℕ) (old new : Reading) (left left_now : ExposedBytes) (line : RawLineTaken text (to_come old.held left) (to_come new.held left_now)) →
    new.given ≡ next_count old.given → (content : ExposedBytes) (earlier : List (List ℕ)) → length earlier ≤ most_letters →
    HasReadLines content old left earlier → HasReadLines content new left_now (earlier ++ line.raw ∷ [])
read_line text old new left left_now line counted content earlier few was = record {
  taken =
      lines_more earlier (line.raw ∷ []) content (to_come old.held left) (to_come new.held left_now) was.taken
      (line_cut line.raw (to_come old.held left) (to_come new.held left_now) line.partial line.cut);
  short = all_append (λ raw. length raw ≤ max_line) earlier (line.raw ∷ []) was.short (line.short, tt);
  given = omega (arith, counted, was.given, few, length-append earlier (line.raw ∷ []));
}

-- no line was taken
pub read_nothing : (old new : Reading) (left left_now : ExposedBytes) → to_come new.held left_now ≡ to_come old.held left → new.given ≡ old.given →
    (content : ExposedBytes) (earlier : List (List ℕ)) → HasReadLines content old left earlier → HasReadLines content new left_now (earlier ++ [])
read_nothing old new left left_now stands same content earlier was = rw (append-nil earlier) (record {
  taken = rw stands was.taken;
  short = was.short;
  given = same ∙ was.given;
})

-- where nothing is to come, nothing is left
nothing_left : (left : ExposedBytes) → NothingLeft (to_come [] left) → NothingLeft left
nothing_left None none = tt
nothing_left (Some rest) none = none

-- ---- turns that took no line

module _ {S : Type 0} (left : S → ExposedBytes) (faults : S → ℕ) (old : JobState) (reader : Reading) (one : Rank Counts) (before now : S) where
  -- the same, up to how the reading goes on or has ended
  same_lines : LostNothing left old.reader reader before now → (content : ExposedBytes) (earlier : List (List ℕ)) → length earlier ≤ most_letters →
      HasReadLines content old.reader (left before) earlier → HasReadLines content reader (left now) (earlier ++ [])
  same_lines lost content earlier few was = read_nothing old.reader reader (left before) (left now) lost.to_come_unchanged lost.count_unchanged content earlier was

  pub reads_on : ReadMore left old.reader reader before now → TookTurn left faults (Ok More) old.reader reader before now →
      HasReadOn old (record { reader = reader; fault = old.fault }) one one (left before) (left now) (faults before) (faults now)
  reads_on more took = record {
    raws = [];
    read = same_lines more.nothing_lost;
    sent = refl;
    going_on = λ going. (refl, took.faults_unchanged);
    ended = λ done. absurd (false≢true (sym took.done ∙ done));
  }

  pub met_end : MetEnd left old.reader reader before now → TookTurn left faults (Ok End) old.reader reader before now →
      HasReadOn old (record { reader = reader; fault = old.fault }) one one (left before) (left now) (faults before) (faults now)
  met_end met took = record {
    raws = [];
    read = same_lines met.nothing_lost;
    sent = refl;
    going_on = λ going. absurd (false≢true (sym going ∙ took.done));
    ended = λ done none no_fault few. rw no_fault (
      met.nothing_held.1,
      nothing_left (left now)
          (subst (λ held. NothingLeft (to_come held (left now))) met.nothing_held.1 (subst NothingLeft (sym met.nothing_lost.to_come_unchanged) met.nothing_to_come)),
      took.faults_unchanged ∙ none,
    );
  }

  pub met_fault : ReadFailed left faults old.reader reader before now → TookTurn left faults (Err ReadFault) old.reader reader before now →
      HasReadOn old (record { reader = reader; fault = Some Read }) one one (left before) (left now) (faults before) (faults now)
  met_fault met took = record {
    raws = [];
    read = same_lines met.nothing_lost;
    sent = refl;
    going_on = λ going. absurd (false≢true (sym going ∙ took.done));
    ended = λ done none no_fault few. (omega (arith, met.failed.cause, none), met.partial, met.short);
  }

  pub met_too_long : (line : ℕ) → MetTooLong left line old.reader reader before now → TookTurn left faults (Err (LineTooLong line)) old.reader reader before now →
      HasReadOn old (record { reader = reader; fault = Some (Bad line TooLong) }) one one (left before) (left now) (faults before) (faults now)
  met_too_long line met took = record {
    raws = [];
    read = same_lines met.nothing_lost;
    sent = refl;
    going_on = λ going. absurd (false≢true (sym going ∙ took.done));
    ended = λ done none no_fault few. (
      subst (λ bytes. IfSome bytes StartsTooLong) (sym met.nothing_lost.to_come_unchanged) met.to_come_too_long,
      refl,
      omega (arith, met.number_is, met.nothing_lost.count_unchanged, few),
      took.faults_unchanged ∙ none,
      old.reader.held,
      met.by_a_piece,
    );
  }

-- ---- a turn that took a line

-- the rank may send, since its count isn't full
may_send : (sent most : ℕ) → (most ≤ sent → ⊥) → sent < most
may_send sent most never = elim (cases_lt sent most) [
  | inl lt ↦ lt
  | inr le ↦ absurd (never le)
]

-- the line was sent, by this text of it
pub took_line : {S : Type 0} (left : S → ExposedBytes) (faults : S → ℕ) (old : JobState) (reader : Reading) (one me : Rank Counts) (before now : S)
    (text item : List ℕ) → GaveLine left text old.reader reader before now → TookTurn left faults (Ok (GotLine text)) old.reader reader before now →
    item ≡ text → (one.most ≤ one.sent_count → ⊥) → HasSent one me (add_letter (owner_of_key item one.layout.ranks) one.here item) →
    HasReadOn old (record { reader = reader; fault = old.fault }) one me (left before) (left now) (faults before) (faults now)
took_line left faults old reader one me before now text item gave took is never sent =
    let line = gave.raw_line in
    record {
      raws = line.raw ∷ [];
      read = read_line text old.reader reader (left before) (left now) line gave.counted;
      sent = (
        may_send one.sent_count one.most never,
        subst (λ (sends : List ℕ). HasSent one me (add_letter (owner_of_key sends one.layout.ranks) one.here sends)) (is ∙ line.text_is) sent,
      );
      going_on = λ going. (refl, took.faults_unchanged);
      ended = λ done. absurd (false≢true (sym took.done ∙ done));
    }

-- ---- what the job keeps

-- the rank enters its barrier
pub keeps_entered : (content : ExposedBytes) (job : JobState) (me : Rank Counts) (barrier : BarrierState) (post : PostState) (left : ExposedBytes) →
    KeepsJob content job me barrier post left → KeepsJob content job me (record barrier { inside = true }) post left
keeps_entered content job me barrier post left was = record {
  raws = was.raws;
  rounds = was.rounds;
  read = was.read;
  carries = carries_entered counting_apply (λ _. []) (tally_letters me.layout.ranks me.here (map text_of was.raws)) was.rounds barrier me post was.carries;
  counted = was.counted;
  few = was.few;
  most = was.most;
}

module _ (barrier : BarrierState) (post : PostState) (outside : barrier.inside ≡ false) (first : barrier.left ≡ 0) (rounds : ℕ → ℕ)
    (one me : Rank Counts) (agrees : (log : List Entry) → Agrees counting_apply (λ _. []) one log → Agrees counting_apply (λ _. []) me log) where
  carries_lines : (earlier raws : List (List ℕ)) → HasSentLines one me raws →
      Carries counting_apply (λ _. []) (tally_letters one.layout.ranks one.here (map text_of earlier)) rounds barrier one post →
      Carries counting_apply (λ _. []) (tally_letters me.layout.ranks me.here (map text_of (earlier ++ raws))) rounds barrier me post
  carries_lines earlier [] sent carries = rw (sent, append-nil earlier) carries
  carries_lines earlier (raw ∷ []) sent carries =
      let sends = sent.1 in
      let lines = map text_of earlier in
      let own = tally_letters one.layout.ranks one.here lines in
      let letters = add_letter (owner_of_key (text_of raw) one.layout.ranks) one.here (text_of raw) ∷ [] in
      let all = earlier ++ raw ∷ [] in
      carries_same counting_apply (λ _. []) (with_more one.here own barrier.left letters) (tally_letters me.layout.ranks me.here (map text_of all)) rounds rounds barrier me post
      (λ k to.
      ap (λ (r : Rank Counts). tally_letters r.layout.ranks r.here (map text_of all) k to) sends.rank
      ∙ ap (λ w. tally_letters one.layout.ranks one.here w k to) (map-append text_of earlier (raw ∷ []))
      ∙ one_line_more one.layout.ranks one.here lines (text_of raw) k to
      ∙ ap (λ n. with_more one.here own n letters k to) (sym first))
      (λ k lt. refl)
      (carries_sent counting_apply (λ _. []) own rounds barrier one me _ post outside sends agrees carries)
  carries_lines earlier (raw ∷ other ∷ raws) sent carries = absurd sent

  -- so many letters were sent, and no more than may be
  counts_lines : (earlier raws : List (List ℕ)) → HasSentLines one me raws → one.sent_count ≡ length earlier → one.most ≡ most_letters → length earlier ≤ most_letters →
      (me.sent_count ≡ length (earlier ++ raws)) × (length (earlier ++ raws) ≤ most_letters) × (me.most ≡ most_letters) × (me.stopped ≡ one.stopped)
  counts_lines earlier [] sent counted most few = rw (sent, append-nil earlier) (counted, few, most, refl)
  counts_lines earlier (raw ∷ []) sent counted most few =
      let rank = sent.1.rank in
      let sums = length-append earlier (raw ∷ []) in (
        omega (arith, ap (λ (r : Rank Counts). r.sent_count) rank, counted, sums),
        omega (arith, sent.0, counted, most, sums),
        ap (λ (r : Rank Counts). r.most) rank ∙ most,
        ap (λ (r : Rank Counts). r.stopped) rank,
      )
  counts_lines earlier (raw ∷ other ∷ raws) sent counted most few = absurd sent

module _ {S : Type 0} (left : S → ExposedBytes) (faults : S → ℕ) (content : ExposedBytes) (old new : JobState) (one me : Rank Counts)
    (barrier : BarrierState) (post : PostState) (before now : S) (outside : barrier.inside ≡ false)
    (on : HasReadOn old new one me (left before) (left now) (faults before) (faults now))
    (agrees : (log : List Entry) → Agrees counting_apply (λ _. []) one log → Agrees counting_apply (λ _. []) me log)
    (was : InJob left faults content old one barrier post (Some before)) where
  counts : (me.sent_count ≡ length (was.keeps.raws ++ on.raws)) × (length (was.keeps.raws ++ on.raws) ≤ most_letters) × (me.most ≡ most_letters) × (me.stopped ≡ one.stopped)
  counts = counts_lines barrier post outside was.first was.keeps.rounds one me agrees was.keeps.raws on.raws on.sent was.keeps.counted was.keeps.most was.keeps.few

  pub going_read : me.stopped ≡ false
  going_read = counts.3 ∙ was.going

  -- the job keeps what it keeps
  pub keeps_read : KeepsJob content new me barrier post (left now)
  keeps_read = record {
    raws = was.keeps.raws ++ on.raws;
    rounds = was.keeps.rounds;
    read = on.read content was.keeps.raws was.keeps.few was.keeps.read;
    carries = carries_lines barrier post outside was.first was.keeps.rounds one me agrees was.keeps.raws on.raws on.sent was.keeps.carries;
    counted = counts.0;
    few = counts.1;
    most = counts.2;
  }

  -- and then it goes on, inside its barrier where its reading has ended
  pub in_job_read : (last : Rank Counts) (after : PostState) (ended : Bool) → ended ≡ new.reader.done → last.stopped ≡ false →
      KeepsJob content new last (record barrier { inside = ended }) after (left now) →
      InJob left faults content new last (record barrier { inside = ended }) after (Some now)
  in_job_read last after ended is_done going keeps =
      let reads = was.outside outside in
      record {
        keeps = keeps;
        going = going;
        first = was.first;
        no_source = λ e. absurd cc;
        outside = λ e.
            let on_still = on.going_on (sym is_done ∙ e) in
            (sym is_done ∙ e, on_still.0 ∙ reads.1, on_still.1 ∙ reads.2);
        inside = λ e. on.ended (sym is_done ∙ e) reads.2 reads.1 (omega (arith, was.keeps.read.given, was.keeps.few));
      }

-- a rank without a file enters its barrier at once
pub in_job_without : {S : Type 0} (left : S → ExposedBytes) (faults : S → ℕ) (content : ExposedBytes) (job : JobState) (one me : Rank Counts)
    (barrier : BarrierState) (before after : PostState) → barrier.inside ≡ false → InJob left faults content job one barrier before None → me.stopped ≡ false →
    KeepsJob content job me (record barrier { inside = true }) after (Some []) →
    InJob left faults content job me (record barrier { inside = true }) after None
in_job_without left faults content job one me barrier before after outside was going keeps = record {
  keeps = keeps;
  going = going;
  first = was.first;
  no_source = was.no_source;
  outside = λ e. absurd (false≢true (sym e));
  inside = λ _. rw (was.outside outside).1 (was.no_source refl, refl, refl);
}

-- a rank has no file, or one
pub none_or_some : {X : Type 0} (source : Option X) → (source ≡ None) ⊎ ((x : X) × (source ≡ Some x))
none_or_some None = inl refl
none_or_some (Some x) = inr (x, refl)

-- ---- a full count

module _ (content : ExposedBytes) (job : JobState) (me : Rank Counts) (barrier : BarrierState) (post : PostState) (left : ExposedBytes)
    (was : KeepsJob content job me barrier post left) where
  full_at : (limit : ℕ) → FullAtLine me job.reader left limit → IsFullFile content limit
  full_at limit full = record {
    limit_is = full.limit_is ∙ was.most;
    lines = IfSome_then content (many_good was.raws content (to_come job.reader.held left) was.read.short was.read.taken full.line)
        (λ bytes more. omega (arith, more, few_good (raw_lines bytes), length-map (raw_lines bytes) text_of, was.counted, full.full, was.most));
  }

  -- a count that is full at a line is full by the lines of the file
  pub full_file : (fault : CommFault) → IfCountFull fault (FullAtLine me job.reader left) → IfCountFull fault (IsFullFile content)
  full_file Stopped full = tt
  full_file (CountFull at) full = full_at at full
  full_file NoMemory full = tt
