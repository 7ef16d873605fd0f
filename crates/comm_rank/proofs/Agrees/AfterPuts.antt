-- A rank still agrees with its log after it put some of what it holds.
use Rattle.std.proofs.Common.{◌≡◌, ℕ, ◌+◌, ◌-◌, ◌≤◌, Option, Result, Ok, Err, List, [], ◌∷◌, ◌++◌, length, take, refl, sym, ap, ◌∙◌, subst, append-nil, append_assoc, arith}
use Rattle.std.specs.Bool.{IsTrue}
use Rattle.std.specs.List.{AllByRecursion, filter}
use Rattle.std.proofs.lemmas.Grind.{flat_map-append}
use Rattle.std.specs.Result.{IfErr, IfOk}
use Rattle.msg_codec.specs.declared.letter.Letter.{Letter}
use Rattle.ygm_route.specs.Layout.{Shape}
use Rattle.send_buffers.specs.Buffers.{AreRouted, Buffered, queue_at, queued}
use Rattle.comm_rank.proofs.Store.Queued.{none_held}
use Rattle.world_core.specs.declared.entry.Entry.{Entry}
use Rattle.world_core.specs.declared.entry.Entry.TheVariants.{Put, Took}
use Rattle.world_core.specs.Limits.{most_letters}
use Rattle.world_core.specs.Log.{IsPut, IsTake, batches_taken, letters_put, letters_put_by, letters_taken}
use Rattle.world_core.specs.Modest.{IsModest}
use Rattle.world_core.specs.Pairs.{arrived, for_rank, is_data, of_pair, own_count, sent, sent_number}
use Rattle.world_core.specs.Post.{PostState, local_at}
use Rattle.world_core.specs.Rules.{IsHonest}
use Rattle.list_facts.proofs.Elements.{all_append}
use Rattle.world_core.proofs.Log.Appended.{letters_taken-put, batches_taken-put}
use Rattle.world_core.proofs.Counts.StaysFree.{no_counts}
use Rattle.world_core.proofs.Modest.AfterPut.{modest_puts}
use Rattle.list_facts.specs.Prefix.{IsSuffix}
use Rattle.msg_codec.specs.Control.{is_control}
use Rattle.list_facts.specs.Sublist.{IsSublist}
use Rattle.comm_rank.specs.Agrees.{Agrees, Belongs, Forwards, IsServed, MaySend, MayTurn, PutsData}
use Rattle.comm_rank.specs.Fold.{Applies, fold_from, handed_from}
use Rattle.comm_rank.specs.declared.fault.CommFault.{CommFault}
use Rattle.comm_rank.specs.Moves.{HasPutAll, HasPutEach, MayPut, Moved, PutAllFailed, PutOut, PutsFailed}
use Rattle.comm_rank.specs.Rank.{Rank, held_letters, local_of, ran_at, sent_to}
use Rattle.comm_rank.specs.Held.{AreData}
use Rattle.comm_rank.specs.Store.{AreOf}
use Rattle.comm_rank.specs.Turns.{FirstFull, Gained, PutsKeep}
use Rattle.comm_rank.proofs.Agrees.Served.{served_more}

-- ---- what a log took is unchanged when it gains puts

pub same_taken : (placed log : List Entry) → AllByRecursion IsPut placed → letters_taken (log ++ placed) ≡ letters_taken log
same_taken [] log all = ap letters_taken (append-nil log)
same_taken (Put to batch ∷ placed) log all =
    ap letters_taken (sym (append_assoc log (Put to batch ∷ []) placed)) ∙ same_taken placed (log ++ Put to batch ∷ []) all.1 ∙ letters_taken-put log to batch
same_taken (Took from batch ∷ placed) log all = absurd all.0

pub same_batches_taken : (from : ℕ) (placed log : List Entry) → AllByRecursion IsPut placed → batches_taken from (log ++ placed) ≡ batches_taken from log
same_batches_taken from [] log all = ap (batches_taken from) (append-nil log)
same_batches_taken from (Put to batch ∷ placed) log all =
    ap (batches_taken from) (sym (append_assoc log (Put to batch ∷ []) placed)) ∙ same_batches_taken from placed (log ++ Put to batch ∷ []) all.1 ∙ batches_taken-put log to from batch
same_batches_taken from (Took sender batch ∷ placed) log all = absurd all.0

-- a log that put data letters alone gains puts of data letters alone
pub data_put : (log now placed : List Entry) → now ≡ log ++ placed → PutsData log →
    PutsData placed → PutsData now
data_put log now placed gained all more =
    let whole : letters_put now ≡ letters_put log ++ letters_put placed = ap letters_put gained ∙ flat_map-append letters_put_by log placed in
    subst (AllByRecursion (λ l. IsTrue (is_data l))) (sym whole) (all_append (λ l. IsTrue (is_data l)) (letters_put log) (letters_put placed) all more)

-- takes put no letter
pub takes_put_none : (taken : List Entry) → AllByRecursion IsTake taken → letters_put taken ≡ []
takes_put_none [] takes = refl
takes_put_none (Took from batch ∷ taken) takes = takes_put_none taken takes.1
takes_put_none (Put to batch ∷ taken) takes = absurd takes.0

-- and so does one that a turn ended or cut off
pub data_gained : (before after taken placed : List Entry) → Gained before after taken placed → PutsData before →
    PutsData after
data_gained before after taken placed gained all =
    let none : PutsData taken = subst (AllByRecursion (λ l. IsTrue (is_data l))) (sym (takes_put_none taken gained.takes)) tt in
    data_put (before ++ taken) after placed gained.log (data_put before (before ++ taken) taken refl all none) gained.data_alone

-- ---- the rank

-- a rank that belongs to a post has the log that the post shows
local_is : {C : Type 0} (apply : Applies C) (start : C → C) (me : Rank C) (post : PostState) → Belongs apply start me post → local_at post me.here ≡ local_of me (post.log me.here)
local_is apply start me post belongs = (let a = belongs.layout in let b = belongs.scheme in cc)

-- The buffers of a rank are those of its place, with what it holds.
pub record AreHeldBy {C : Type 0} (me : Rank C) (held : Buffered) : Type 0 where
  pub are : AreOf me.layout me.scheme me.here held
  pub queues : held.queues ≡ me.held

module _ {C : Type 0} (apply : Applies C) (start : C → C) (me : Rank C) (old : PostState) (belongs : Belongs apply start me old) (may : MayTurn me (old.log me.here)) (held : Buffered) (are : AreHeldBy me held) where
  agrees : Agrees apply start me (old.log me.here)
  agrees = belongs.agrees

  -- the same buffers, as the rank names its place
  place_is : held ≡ record held { layout = me.layout; scheme = me.scheme; here = me.here; queues = me.held }
  place_is =
      ap (λ x. record held { layout = x }) are.are.layout_is
      ∙ ap (λ x. record held { layout = me.layout; scheme = x }) are.are.scheme_is
      ∙ ap (λ x. record held { layout = me.layout; scheme = me.scheme; here = x }) are.are.here_is
      ∙ ap (λ x. record held { layout = me.layout; scheme = me.scheme; here = me.here; queues = x }) are.queues

  pub may_put : me.sent_count ≤ most_letters → MayPut held old
  may_put few = subst (λ b. MayPut b old) (sym place_is) (record {
    serves = belongs.serves;
    layout = belongs.layout;
    scheme = belongs.scheme;
    data_alone = subst (λ qs. AreData (queued qs)) are.queues are.are.data_alone;
    forwards = subst (λ l. Forwards l (held_letters me)) (sym (local_is apply start me old belongs)) agrees.forwards;
    few = omega (arith, few, agrees.sent_count);
    may_send = subst (λ l. MaySend l (held_letters me)) (sym (local_is apply start me old belongs)) may;
  })

  module _ (after : Buffered) (new : PostState) (placed : List Entry) (moved : Moved held after old new placed) (few : me.sent_count ≤ most_letters) where
    abbrev here : ℕ
    here = me.here

    abbrev now : Rank C
    now = record me { held = after.queues }

    at_here : held.here ≡ here
    at_here = are.are.here_is

    log : new.log here ≡ old.log here ++ placed
    log = (let P : ℕ → Type 0 = λ h. new.log h ≡ old.log h ++ placed in subst P at_here moved.log)

    keeps : PutsKeep here old new
    keeps = subst (λ h. PutsKeep h old new) at_here moved.keeps

    sent_unchanged : (to : ℕ) → sent_to now (new.log here) to ≡ sent_to me (old.log here) to
    sent_unchanged to =
        (let P : ℕ → Type 0 = λ h. sent h to (new.log h) (queued after.queues) ≡ sent h to (old.log h) (queued held.queues) in subst P at_here (moved.sent_unchanged to))
        ∙ ap (λ qs. sent here to (old.log here) (queued qs)) are.queues

    count_unchanged : own_count here (new.log here) + sent_number here (queued after.queues) ≡ own_count here (old.log here) + sent_number here (held_letters me)
    count_unchanged =
        (let P : ℕ → Type 0 = λ h. own_count h (new.log h) + sent_number h (queued after.queues) ≡ own_count h (old.log h) + sent_number h (queued held.queues) in subst P at_here moved.count_unchanged)
        ∙ ap (λ qs. own_count here (old.log here) + sent_number here (queued qs)) are.queues

    -- what it may put now
    may_put_now : MayPut after new
    may_put_now = moved.may_put (may_put few)

    after_here : after.here ≡ here
    after_here = ap (λ (b : Buffered). b.here) moved.place ∙ at_here

    local_now : local_at new after.here ≡ local_of now (new.log here)
    local_now = (let a = after_here in let b = keeps.same.layout in let c = keeps.same.scheme in let d = belongs.layout in let e = belongs.scheme in cc)

    ran_unchanged : ran_at now (new.log here) ≡ ran_at me (old.log here)
    ran_unchanged =
        let same : arrived here (new.log here) ≡ arrived here (old.log here) = ap (arrived here) log ∙ ap (for_rank here) (same_taken placed (old.log here) moved.puts) in
        ap (λ xs. take (length xs - length (for_rank here me.waiting)) xs) same

    put_out : PutOut me now (old.log here) (new.log here) placed
    put_out = record {
      log = log;
      puts = moved.puts;
      data_alone = moved.data_alone;
      rank = refl;
      sent = sent_unchanged;
      same_open = λ next. moved.same_open next ∙ ap (λ qs. (queue_at qs next).gathered) are.queues;
      ran = ran_unchanged;
    }

    agrees_after : Agrees apply start now (new.log here)
    agrees_after =
        let P : List Entry → Type 0 = λ l. IsModest (local_of me l) in
        record {
          nothing_waits = agrees.nothing_waits;
          forwards = subst (λ l. Forwards l (queued after.queues)) local_now may_put_now.forwards;
          sent_count = agrees.sent_count ∙ sym count_unchanged;
          run_count = agrees.run_count ∙ ap length (sym ran_unchanged);
          contents = agrees.contents ∙ ap (fold_from apply here me.layout.ranks (start me.contents)) (sym ran_unchanged);
          given_is_sent = λ to.
              let Q : List Letter → List Letter → Type 0 = λ ran sent. IsSublist (of_pair here to (handed_from apply here me.layout.ranks (start me.contents) ran)) sent in
              subst (λ ran. Q ran (sent_to now (new.log here) to)) (sym ran_unchanged) (subst (λ sent. Q (ran_at me (old.log here)) sent) (sym (sent_unchanged to)) (agrees.given_is_sent to));
          modest = subst P (sym log) (modest_puts (local_of me (old.log here)) placed moved.puts agrees.modest);
          controls = subst (λ xs. IsSuffix me.controls (filter is_control xs)) (sym (ap letters_taken log ∙ same_taken placed (old.log here) moved.puts)) agrees.controls;
          served = subst (IsServed apply here me.layout.ranks (start me.contents)) (sym log)
              (served_more apply here me.layout.ranks (start me.contents) (old.log here) placed (no_counts placed moved.data_alone) agrees.served);
        }

    pub belongs_after : Belongs apply start now new
    belongs_after = record {
      serves = keeps.same.serves here ∙ belongs.serves;
      layout = keeps.same.layout ∙ belongs.layout;
      scheme = keeps.same.scheme ∙ belongs.scheme;
      agrees = agrees_after;
    }

    pub may_turn_after : MayTurn now (new.log here)
    may_turn_after = subst (λ l. MaySend l (queued after.queues)) local_now may_put_now.may_send

    pub puts_keep_after : PutsKeep here old new
    puts_keep_after = keeps

    pub honest_after : IsHonest (local_of me (old.log here)) → IsHonest (local_of me (new.log here))
    honest_after h =
        let P : ℕ → Type 0 = λ r. IsHonest (local_at old r) → IsHonest (local_at new r) in
        let now_is : local_at new here ≡ local_of me (new.log here) = (let b = keeps.same.layout in let c = keeps.same.scheme in let d = belongs.layout in let e = belongs.scheme in cc) in
        subst IsHonest now_is (subst P at_here moved.honest (subst IsHonest (sym (local_is apply start me old belongs)) h))

  pub has_put_all : (after : Buffered) (new : PostState) (put : ℕ) (full : Option ℕ) (ranks : ℕ) → ranks ≡ me.layout.ranks → AreRouted after → me.sent_count ≤ most_letters →
      HasPutEach ranks held after old new put full → HasPutAll me (record me { held = after.queues }) old new put full
  has_put_all after new put full ranks is routed few p = record {
    placed = p.placed;
    out = put_out after new p.placed p.moved few;
    count = p.count;
    none_or_full = λ to within. p.none_or_full to (omega (arith, within, is));
    first_full = subst (λ n. FirstFull n after.queues old new full) is p.first_full;
    none_held = λ none gathered.
        let size : length after.queues ≡ me.layout.ranks =
        routed.all ∙ ap (λ (b : Buffered). b.layout.ranks) p.moved.place ∙ ap (λ (s : Shape). s.ranks) are.are.layout_is in
        none_held after.queues (λ to within. p.none_closed none to (omega (arith, within, is, size))) (λ to within. gathered to (omega (arith, within, size)));
  }

  pub put_all_failed : (after : Buffered) (new : PostState) (fault : CommFault) → me.sent_count ≤ most_letters → PutsFailed held after old new fault → PutAllFailed me (record me { held = after.queues }) old new fault
  put_all_failed after new fault few f = record { placed = f.placed; out = put_out after new f.placed f.moved few; no_memory = f.no_memory }

-- letters moved, whatever ended the puts
pub moved_each : (ranks : ℕ) (before after : Buffered) (old new : PostState) (r : Result (ℕ × Option ℕ) CommFault) →
    IfOk r (λ what. HasPutEach ranks before after old new what.0 what.1) → IfErr r (PutsFailed before after old new) → (placed : List Entry) × Moved before after old new placed
moved_each ranks before after old new (Ok what) put failed = (put.placed, put.moved)
moved_each ranks before after old new (Err fault) put failed = (failed.placed, failed.moved)
