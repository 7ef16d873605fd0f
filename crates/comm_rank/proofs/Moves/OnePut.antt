-- A put of a batch that a rank holds.
use Rattle.std.proofs.Common.{◌≡◌, ◌≢◌, ℕ, ◌+◌, ◌<◌, ◌≤◌, Bool, true, false, not, ◌&&◌, nat_eq, None, Err, List, [], ◌∷◌, ◌++◌, length, drop, refl, sym, ap, ◌∙◌, subst, append-nil, append_assoc, length-append, length-drop, length-set, arith, inl, inr, if◌then◌else◌}
use Rattle.std.specs.Bool.{IsTrue}
use Rattle.std.specs.List.{AllByRecursion, flat_map}
use Rattle.std.proofs.lemmas.Bool.{cases_eq}
use Rattle.std.proofs.lemmas.List.{get_or-set_other, nil_from_length}
use Rattle.list_facts.proofs.Elements.{all_append, all_first, all_second, all_weaker, both_of}
use Rattle.msg_codec.specs.declared.letter.Letter.{Letter}
use Rattle.ygm_route.specs.Layout.{Shape}
use Rattle.send_buffers.specs.Buffers.{AreRouted, Buffered, IsBatchFor, IsRouted, Queue, empty_queue, given_back, letters_in, queue_at, queued}
use Rattle.send_buffers.specs.Calls.{HandsOut, InPlace}
use Rattle.world_core.specs.declared.entry.Entry.{Entry}
use Rattle.world_core.specs.declared.entry.Entry.TheVariants.{Put}
use Rattle.world_core.specs.ControlRules.{is_free}
use Rattle.world_core.specs.Local.{Local, having_put, is_rank, to_forward}
use Rattle.world_core.specs.Log.{IsPut}
use Rattle.world_core.specs.Pairs.{is_data, of_pair, own_count, pair_put, pair_taken, sent, sent_number}
use Rattle.world_core.specs.Post.{CountsNeverFall, FullsRise, IfFull, IfNoMemory, PutKeeps, SameFulls, SamePost, PostState, local_at}
use Rattle.world_core.specs.declared.post.PutBack.{PutBack}
use Rattle.world_core.specs.declared.post.PutBack.TheVariants.{Full, NoMemory}
use Rattle.world_core.specs.Rising.{Rose}
use Rattle.world_core.specs.Rules.{first_broken, IsHonest}
use Rattle.world_core.specs.Rules.Deed.{Puts}
use Rattle.world_core.proofs.Counts.StaysFree.{data_uncounted, stays_free}
use Rattle.world_core.proofs.Deeds.Honest.{honest_more}
use Rattle.world_core.proofs.Pairs.Appended.{pair_put-put, pair_taken-put}
use Rattle.world_core.proofs.Pairs.Numbers.{own_count-put, sent_number-is}
use Rattle.world_core.proofs.Posts.CountsNeverFall.{never_fall_refl, never_fall_trans}
use Rattle.comm_rank.specs.Agrees.{Forwards, MaySend}
use Rattle.comm_rank.specs.Held.{AreData, NoneClosed}
use Rattle.comm_rank.specs.Moves.{MayPut, Moved, OthersUnchanged, PutsOne, SameOpen, put_count}
use Rattle.comm_rank.specs.Store.{Loses}
use Rattle.comm_rank.specs.Turns.{MetFull, PutsKeep}
use Rattle.comm_rank.proofs.Agrees.AfterPuts.{data_put}
use Rattle.comm_rank.proofs.Moves.BatchPut.{IsNext, MayPutBatch, to_forward_rest, unbroken_batch}
use Rattle.comm_rank.proofs.Rank.Same.{same_then}
use Rattle.comm_rank.proofs.Store.Queued.{all_at, all_of_each}
use Rattle.comm_rank.proofs.Store.SameStore.{in_place_then}

-- ---- it breaks no rule

-- the letters of a batch are among those that are held
pub handed_out_data : (before after : Buffered) (next : ℕ) (batch : List Letter) → HandsOut before after next batch → AreData (queued before.queues) → AreData batch
handed_out_data before after next batch out all =
    let P : Letter → Type 0 = λ l. IsTrue (is_data l) in
    let here : AllByRecursion P (letters_in (queue_at before.queues next)) = all_at P before.queues next all in
    let there : AllByRecursion P ((batch ++ flat (queue_at after.queues next).closed) ++ (queue_at after.queues next).gathered) = subst (λ queue. AllByRecursion P (letters_in queue)) out.oldest here in
    all_first P batch _ (all_first P (batch ++ flat (queue_at after.queues next).closed) _ there)
  where
    flat : List (List Letter) → List Letter
    flat batches = flat_map (λ b. b) batches

-- what is held for the other next hops is unchanged, and for this one only the batch went
other_queue : (before after : Buffered) (to : ℕ) (batch : List Letter) → HandsOut before after to batch → (next : ℕ) → next ≢ to → queue_at after.queues next ≡ queue_at before.queues next
other_queue before after to batch out next other = ap (λ qs. queue_at qs next) out.others ∙ get_or-set_other before.queues to next (queue_at after.queues to) empty_queue other

open_unchanged : (before after : Buffered) (to : ℕ) (batch : List Letter) → HandsOut before after to batch → SameOpen before.queues after.queues
open_unchanged before after to batch out next = elim (cases_eq next to) [
  | inl is ↦ ap (λ k. (queue_at after.queues k).gathered) is ∙ sym (ap (λ (queue : Queue). queue.gathered) out.oldest) ∙ ap (λ k. (queue_at before.queues k).gathered) (sym is)
  | inr other ↦ ap (λ (queue : Queue). queue.gathered) (other_queue before after to batch out next other)
]

pub others_unchanged : (before after : Buffered) (to : ℕ) (batch : List Letter) → HandsOut before after to batch → OthersUnchanged to before.queues after.queues
others_unchanged before after to batch out = record {
  all = ap length out.others ∙ length-set before.queues to (queue_at after.queues to);
  others = other_queue before after to batch out;
}

pub all_unchanged : (to : ℕ) (before after : List Queue) → after ≡ before → OthersUnchanged to before after
all_unchanged to before after same = record { all = ap length same; others = λ other differs. ap (λ queues. queue_at queues other) same }

-- the letters that remain are among those that were held
after_data : (before after : Buffered) (to : ℕ) (batch : List Letter) → HandsOut before after to batch → AreData (queued before.queues) → AreData (queued after.queues)
after_data before after to batch out all = all_of_each P after.queues (λ next within. elim (cases_eq next to) [
  | inl is ↦ subst (λ k. AllByRecursion P (letters_in (queue_at after.queues k))) (sym is) rest
  | inr other ↦ subst (λ queue. AllByRecursion P (letters_in queue)) (sym (other_queue before after to batch out next other)) (all_at P before.queues next all)
])
  where
    P : Letter → Type 0
    P l = IsTrue (is_data l)

    rest : AllByRecursion P (letters_in (queue_at after.queues to))
    rest =
        let whole : AllByRecursion P (letters_in (given_back (queue_at after.queues to) batch)) = subst (λ queue. AllByRecursion P (letters_in queue)) out.oldest (all_at P before.queues to all) in
        all_second P batch _ (subst (AllByRecursion P) (append_assoc batch _ _) whole)

-- it has to forward no more than it took and didn't put
to_forward_length : (me : Local) (s d : ℕ) → length (pair_put s d me.log) ≤ length (pair_taken s d me.log) → length (to_forward me s d) + length (pair_put s d me.log) ≤ length (pair_taken s d me.log)
unfolding to_forward
to_forward_length me s d few = by_test (is_rank me.layout s && is_rank me.layout d && not (nat_eq me.here s) && not (nat_eq me.here d))
  where
    by_test : (b : Bool) → length (if b then drop (length (pair_put s d me.log)) (pair_taken s d me.log) else []) + length (pair_put s d me.log) ≤ length (pair_taken s d me.log)
    by_test true = omega (arith, few, length-drop (length (pair_put s d me.log)) (pair_taken s d me.log))
    by_test false = omega (arith, few)

module _ (before : Buffered) (state : PostState) (may : MayPut before state) where
  abbrev me : Local
  me = local_at state before.here

  pub may_put_batch : (after : Buffered) (to : ℕ) (batch : List Letter) → AreRouted before → to < before.layout.ranks → IsBatchFor before to batch → AreData batch →
      Loses (queued before.queues) (queued after.queues) batch → MayPutBatch me to batch
  may_put_batch after to batch routed within for_hop tagged loses =
      let ranks : state.layout.ranks ≡ before.layout.ranks = ap (λ (s : Shape). s.ranks) may.layout in
      record {
        here = omega (arith, routed.here, ranks);
        within = omega (arith, within, ranks);
        some = for_hop.some;
        each = both_of (IsRouted before to) (λ l. IsTrue (is_data l)) (IsNext me to) batch
            (λ l r tag. record {
              tag = tag;
              to_within = omega (arith, r.destination, ranks);
              from_within = omega (arith, r.sender, ranks);
              leads = (let a = may.layout in let b = may.scheme in let h = r.next_hop in cc);
            }) for_hop.each tagged;
        few = omega (arith, may.few, loses.senders before.here);
        free = elim may.may_send [
          | inl free ↦ inl free
          | inr none ↦ inr (nil_from_length _ (omega (arith, loses.senders before.here, ap length none, sent_number-is before.here (queued before.queues), sent_number-is before.here batch)))
        ];
        first = λ s d other. record { rest = of_pair s d (queued after.queues); joined = sym (loses.pairs s d) ∙ may.forwards.held s d other };
      }

-- ---- what moves

pub puts_keep : (here : ℕ) (old new : PostState) → PutKeeps here old new → CountsNeverFall old new → PutsKeep here old new
puts_keep here old new keeps counts = record { same = keeps.same; stops = keeps.stops; misses = keeps.misses; halts = keeps.halts; counts = counts }

same_put : (a b : ℕ) (x y : List Letter) → (let e : Entry = Put a x in e) ≡ Put b y → (b ≡ a) × (y ≡ x)
same_put a b x y h = (cc, cc)

pub honest_put : (here to : ℕ) (batch : List Letter) (old new : PostState) → SamePost here old new → new.log here ≡ old.log here ++ Put to batch ∷ [] →
    first_broken (local_at old here) (Puts to batch) ≡ None → IsHonest (local_at old here) → IsHonest (local_at new here)
honest_put here to batch old new same log ok honest =
    let more : IsHonest (record (local_at old here) { log = old.log here ++ Put to batch ∷ [] }) =
    honest_more (local_at old here) (Put to batch) honest (λ t ls h.
    let both = same_put to t batch ls h in
    let P : ℕ → List Letter → Type 0 = λ t ls. first_broken (local_at old here) (Puts t ls) ≡ None in
    subst (λ t. P t ls) (sym both.0) (subst (λ ls. P to ls) (sym both.1) ok)) in
    let now : local_at new here ≡ record (local_at old here) { log = old.log here ++ Put to batch ∷ [] } = (let a = same.layout in let b = same.scheme in cc) in
    subst IsHonest (sym now) more

-- it may still send what it holds after a put of data letters
may_still : (here to : ℕ) (batch before after : List Letter) (old new : PostState) → AreData batch → Loses before after batch →
    new.log here ≡ old.log here ++ Put to batch ∷ [] → SamePost here old new → MaySend (local_at old here) before → MaySend (local_at new here) after
may_still here to batch before after old new tagged loses log same may =
    let now : local_at new here ≡ having_put (local_at old here) to batch = (let a = same.layout in let b = same.scheme in cc) in
    elim may [
      | inl free ↦ inl (ap is_free now ∙ stays_free (local_at old here) (Put to batch) (data_uncounted batch tagged) free)
      | inr none ↦ inr (nil_from_length _ (omega (arith, loses.senders here, ap length none, sent_number-is here before, sent_number-is here after)))
    ]

-- what remains of what it has to forward
forwards_on : (me : Local) (to : ℕ) (batch before after : List Letter) → Loses before after batch → Forwards me before → Forwards (having_put me to batch) after
forwards_on me to batch before after loses forwards = record {
  held = λ s d other. sym (to_forward_rest me to batch s d (of_pair s d after) (sym (forwards.held s d other) ∙ loses.pairs s d));
  no_more_put = λ s d other.
      let fewer : length (of_pair s d batch) + length (pair_put s d me.log) ≤ length (pair_taken s d me.log) =
      omega (arith, to_forward_length me s d (forwards.no_more_put s d other), ap length (forwards.held s d other), ap length (loses.pairs s d), length-append (of_pair s d batch) (of_pair s d after)) in
      omega (arith, fewer, ap length (pair_put-put s d me.log to batch), length-append (pair_put s d me.log) (of_pair s d batch), ap length (pair_taken-put s d me.log to batch));
}

pub unbroken_put : (before after : Buffered) (to : ℕ) (batch : List Letter) (old : PostState) → AreRouted before → to < before.layout.ranks → HandsOut before after to batch →
    Loses (queued before.queues) (queued after.queues) batch → MayPut before old → first_broken (local_at old before.here) (Puts to batch) ≡ None
unbroken_put before after to batch old routed within out loses may =
    unbroken_batch (local_at old before.here) to batch
    (may_put_batch before old may after to batch routed within out.routed (handed_out_data before after to batch out may.data_alone) loses)

-- the batch may step back
pub batch_in_place : (before after : Buffered) (to : ℕ) (batch : List Letter) → InPlace before after → IsBatchFor before to batch → IsBatchFor after to batch
batch_in_place before after to batch place is = subst (λ b. IsBatchFor b to batch) (sym place) (record {
  some = is.some;
  share = is.share;
  each = all_weaker (IsRouted before to) (IsRouted (record before { queues = after.queues; room = after.room }) to) batch
      (λ l r. record { destination = r.destination; sender = r.sender; next_hop = r.next_hop }) is.each;
})

module _ (before after : Buffered) (to : ℕ) (batch : List Letter) (old new : PostState) (routed : AreRouted before) (within : to < before.layout.ranks) (out : HandsOut before after to batch)
    (place : InPlace before after) (loses : Loses (queued before.queues) (queued after.queues) batch) (log : new.log before.here ≡ old.log before.here ++ Put to batch ∷ []) (keeps : PutsKeep before.here old new)
    (may : MayPut before old) where
  abbrev here : ℕ
  here = before.here

  tagged : AreData batch
  tagged = handed_out_data before after to batch out may.data_alone

  unbroken : first_broken (local_at old here) (Puts to batch) ≡ None
  unbroken = unbroken_put before after to batch old routed within out loses may

  put_now : local_at new here ≡ having_put (local_at old here) to batch
  put_now = (let a = keeps.same.layout in let b = keeps.same.scheme in cc)

  -- the other letters are data letters still
  data_after : AreData (queued after.queues)
  data_after = after_data before after to batch out may.data_alone

  may_put_after : MayPut (record before { queues = after.queues; room = after.room }) new
  may_put_after = record {
    serves = keeps.same.serves here ∙ may.serves;
    layout = keeps.same.layout ∙ may.layout;
    scheme = keeps.same.scheme ∙ may.scheme;
    data_alone = data_after;
    forwards = subst (λ me. Forwards me (queued after.queues)) (sym put_now) (forwards_on (local_at old here) to batch (queued before.queues) (queued after.queues) loses may.forwards);
    few = omega (arith, may.few, ap (own_count here) log, own_count-put here (old.log here) to batch, loses.senders here);
    may_send = may_still here to batch (queued before.queues) (queued after.queues) old new tagged loses log keeps.same may.may_send;
  }

  pub moved_one : Moved before after old new (Put to batch ∷ [])
  moved_one = record {
    log = log;
    puts = (tt, tt);
    data_alone = subst (AllByRecursion (λ l. IsTrue (is_data l))) (sym (append-nil batch)) tagged;
    honest = honest_put here to batch old new keeps.same log unbroken;
    may_put = λ _. subst (λ b. MayPut b new) (sym place) may_put_after;
    sent_unchanged = λ d.
        ap (λ xs. pair_put here d xs ++ of_pair here d (queued after.queues)) log
        ∙ ap (λ xs. xs ++ of_pair here d (queued after.queues)) (pair_put-put here d (old.log here) to batch)
        ∙ append_assoc (pair_put here d (old.log here)) (of_pair here d batch) (of_pair here d (queued after.queues))
        ∙ ap (λ xs. pair_put here d (old.log here) ++ xs) (sym (loses.pairs here d));
    count_unchanged = omega (arith, ap (own_count here) log, own_count-put here (old.log here) to batch, loses.senders here);
    same_open = open_unchanged before after to batch out;
    place = place;
    keeps = keeps;
  }

pub moved_none : (before after : Buffered) (old new : PostState) → after.queues ≡ before.queues → InPlace before after → new.log before.here ≡ old.log before.here → PutsKeep before.here old new →
    Moved before after old new []
moved_none before after old new held place log keeps =
    let here = before.here in
    let now : local_at new here ≡ local_at old here = (let a = keeps.same.layout in let b = keeps.same.scheme in cc) in
    record {
      log = log ∙ sym (append-nil _);
      puts = tt;
      data_alone = tt;
      honest = subst IsHonest (sym now);
      may_put = λ may. subst (λ b. MayPut b new) (sym place) (record {
        serves = keeps.same.serves here ∙ may.serves;
        layout = keeps.same.layout ∙ may.layout;
        scheme = keeps.same.scheme ∙ may.scheme;
        data_alone = subst (λ qs. AreData (queued qs)) (sym held) may.data_alone;
        forwards = subst (λ qs. Forwards (local_at new here) (queued qs)) (sym held) (subst (λ me. Forwards me (queued before.queues)) (sym now) may.forwards);
        few = omega (arith, may.few, ap (own_count here) log, ap (λ qs. sent_number here (queued qs)) held);
        may_send = subst (λ qs. MaySend (local_at new here) (queued qs)) (sym held) (subst (λ me. MaySend me (queued before.queues)) (sym now) may.may_send);
      });
      sent_unchanged = λ d. ap (λ xs. sent here d xs (queued after.queues)) log ∙ ap (λ qs. sent here d (old.log here) (queued qs)) held;
      count_unchanged = omega (arith, ap (own_count here) log, ap (λ qs. sent_number here (queued qs)) held);
      same_open = λ next. ap (λ qs. (queue_at qs next).gathered) held;
      place = place;
      keeps = keeps;
    }

-- ---- one after another

pub keeps_then : (here : ℕ) (a b c : PostState) → PutsKeep here a b → PutsKeep here b c → PutsKeep here a c
keeps_then here a b c first later = record {
  same = same_then here here a b c refl first.same later.same;
  stops = λ rank. later.stops rank ∙ first.stops rank;
  misses = λ rank. later.misses rank ∙ first.misses rank;
  halts = later.halts ∙ first.halts;
  counts = never_fall_trans a b c first.counts later.counts;
}

pub moved_then : (a b c : Buffered) (t u v : PostState) (first later : List Entry) → Moved a b t u first → Moved b c u v later → Moved a c t v (first ++ later)
moved_then a b c t u v first later m n =
    let here : b.here ≡ a.here = ap (λ (x : Buffered). x.here) m.place in
    let log : v.log a.here ≡ u.log a.here ++ later = (let P : ℕ → Type 0 = λ h. v.log h ≡ u.log h ++ later in subst P here n.log) in
    let honest : IsHonest (local_at u a.here) → IsHonest (local_at v a.here) = (let P : ℕ → Type 0 = λ h. IsHonest (local_at u h) → IsHonest (local_at v h) in subst P here n.honest) in
    let keeps : PutsKeep a.here u v = subst (λ h. PutsKeep h u v) here n.keeps in
    let sent : (d : ℕ) → sent a.here d (v.log a.here) (queued c.queues) ≡ sent a.here d (u.log a.here) (queued b.queues) =
    (let P : ℕ → Type 0 = λ h. (d : ℕ) → sent h d (v.log h) (queued c.queues) ≡ sent h d (u.log h) (queued b.queues) in subst P here n.sent_unchanged) in
    let count : own_count a.here (v.log a.here) + sent_number a.here (queued c.queues) ≡ own_count a.here (u.log a.here) + sent_number a.here (queued b.queues) =
    (let P : ℕ → Type 0 = λ h. own_count h (v.log h) + sent_number h (queued c.queues) ≡ own_count h (u.log h) + sent_number h (queued b.queues) in subst P here n.count_unchanged) in
    record {
      log = log ∙ ap (λ xs. xs ++ later) m.log ∙ append_assoc (t.log a.here) first later;
      puts = all_append IsPut first later m.puts n.puts;
      data_alone = data_put first (first ++ later) later refl m.data_alone n.data_alone;
      honest = λ h. honest (m.honest h);
      may_put = λ may. n.may_put (m.may_put may);
      sent_unchanged = λ d. sent d ∙ m.sent_unchanged d;
      count_unchanged = count ∙ m.count_unchanged;
      same_open = λ next. n.same_open next ∙ m.same_open next;
      place = in_place_then a b c m.place n.place;
      keeps = keeps_then a.here t u v m.keeps keeps;
    }

pub keeps_none : (here : ℕ) (t : PostState) → PutsKeep here t t
keeps_none here t = record {
  same = record { layout = refl; scheme = refl; ring = refl; batches = refl; serves = λ rank. refl; other_logs = λ rank other. refl };
  stops = λ rank. refl;
  misses = λ rank. refl;
  halts = refl;
  counts = never_fall_refl t;
}

pub count_of_none : (b : Bool) → b ≡ false → put_count b ≡ 0
count_of_none true h = absurd cc
count_of_none false h = refl

pub count_of_one : (b : Bool) → b ≡ true → put_count b ≡ 1
count_of_one true h = refl
count_of_one false h = absurd cc

pub puts_one : (b : Bool) (to : ℕ) (before after : List Queue) (old new : PostState) → b ≡ true → PutsOne b to before after old new →
    (length (queue_at before to).closed ≡ length (queue_at after to).closed + 1) × SameFulls old new
puts_one true to before after old new h k = k
puts_one false to before after old new h k = absurd cc

pub others_then : (to : ℕ) (a b c : List Queue) → OthersUnchanged to a b → OthersUnchanged to b c → OthersUnchanged to a c
others_then to a b c first later = record { all = later.all ∙ first.all; others = λ other differs. later.others other differs ∙ first.others other differs }

-- ---- a put that was refused

pub found_full : {P : Type 0} (back : PutBack) (batch : List Letter) → back ≡ Full batch → IfFull (Err back) P → P
found_full {P} back batch is h = let Q : PutBack → Type 0 = λ b. IfFull (Err b) P in subst Q is h

pub had_no_memory : {P : Type 0} (back : PutBack) (batch : List Letter) → back ≡ NoMemory batch → IfNoMemory (Err back) P → P
had_no_memory {P} back batch is h = let Q : PutBack → Type 0 = λ b. IfNoMemory (Err b) P in subst Q is h

-- no link was found full before this one
pub found_full_at_last : (b : Bool) (to : ℕ) (before after : List Queue) (old mid new : PostState) → b ≡ false → SameFulls old mid →
    PutsOne b to before after mid new → MetFull to after old new × FullsRise to old new
found_full_at_last true to before after old mid new is fulls one = absurd cc
found_full_at_last false to before after old mid new is fulls one = (
  record { rose = subst (λ n. Rose n (new.fulls to)) (fulls to) one.0.rose; some = one.0.some },
  record {
    rose = subst (λ n. Rose n (new.fulls to)) (fulls to) one.1.rose;
    never_falls = omega (arith, one.1.never_falls, fulls to);
    others = λ rank ne. one.1.others rank ne ∙ fulls rank;
  },
)

-- where a link is full, a batch for it is held
pub some_held : (to : ℕ) (before after : List Queue) → after ≡ before → 0 < length (queue_at before to).closed → NoneClosed after to → ⊥
some_held to before after same some none = absurd (omega (arith, some, ap (λ qs. length (queue_at qs to).closed) same, ap length none))
