-- What a send does to a rank: the letter is held, and is the last that was sent to its destination.
use Rattle.std.proofs.Common.{◌≡◌, ◌≢◌, ℕ, ◌+◌, true, false, ◌&&◌, nat_eq, eq-eqb, eqb-true, List, [], ◌∷◌, ◌++◌, refl, sym, ap, ◌∙◌, append-nil, append_assoc}
use Rattle.std.specs.Bool.{IsTrue}
use Rattle.std.proofs.lemmas.Bool.{false_from_ne_true}
use Rattle.msg_codec.specs.declared.letter.Letter.{Letter}
use Rattle.world_core.specs.declared.entry.Entry.{Entry}
use Rattle.send_buffers.specs.Buffers.{Queue, queued}
use Rattle.world_core.specs.Pairs.{is_data, is_of_pair, of_pair, pair_put}
use Rattle.list_facts.proofs.Tests.{and_second}
use Rattle.comm_rank.specs.Held.{Gains}
use Rattle.comm_rank.specs.Rank.{HasSent, Rank, held_letters, sent_to}

pub has_sent : {C : Type 0} (me : Rank C) (held : List Queue) (count : ℕ) (l : Letter) → Gains (held_letters me) (queued held) (l ∷ []) → count ≡ me.sent_count + 1 →
    HasSent me (record me { sent_count = count; held = held }) l
has_sent {C} me held count l gains counted = record {
  held = gains;
  sent = λ log to.
      ap (λ xs. pair_put me.here to log ++ xs) (gains.pairs me.here to) ∙ sym (append_assoc (pair_put me.here to log) (of_pair me.here to (held_letters me)) (of_pair me.here to (l ∷ [])));
  rank = ap (λ n. record me { sent_count = n; held = held }) counted;
}

-- the letter is the last to its destination
pub sent_there : {C : Type 0} (old new : Rank C) (l : Letter) (log : List Entry) → IsTrue (is_data l) → l.from ≡ old.here → HasSent old new l → sent_to new log l.to ≡ sent_to old log l.to ++ l ∷ []
sent_there old new l log tagged mine sent =
    let from : nat_eq l.from old.here ≡ true = eq-eqb l.from old.here mine in
    let to : nat_eq l.to l.to ≡ true = eq-eqb l.to l.to refl in
    let one : of_pair old.here l.to (l ∷ []) ≡ l ∷ [] = rw (tagged, from, to) refl in
    sent.sent log l.to ∙ ap (λ xs. sent_to old log l.to ++ xs) one

-- what was sent to other ranks is unchanged
pub sent_elsewhere : {C : Type 0} (old new : Rank C) (l : Letter) (log : List Entry) (to : ℕ) → to ≢ l.to → HasSent old new l → sent_to new log to ≡ sent_to old log to
sent_elsewhere old new l log to other sent =
    let no : is_of_pair old.here to l ≡ false = false_from_ne_true (is_of_pair old.here to l) (λ yes. other (sym (eqb-true l.to to (and_second (is_data l && nat_eq l.from old.here) (nat_eq l.to to) yes)))) in
    let none : of_pair old.here to (l ∷ []) ≡ [] = rw no refl in
    sent.sent log to ∙ ap (λ xs. sent_to old log to ++ xs) none ∙ append-nil _
