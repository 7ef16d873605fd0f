-- A rank that agrees with its log and sends a letter still agrees with it.
use Rattle.std.proofs.Common.{◌≡◌, ℕ, ◌+◌, List, [], ◌∷◌, ◌++◌, sym, ap, ◌∙◌, subst, append-nil, append_assoc, arith}
use Rattle.std.specs.Bool.{IsTrue}
use Rattle.msg_codec.specs.declared.letter.Letter.{Letter}
use Rattle.world_core.specs.declared.entry.Entry.{Entry}
use Rattle.send_buffers.specs.Buffers.{Queue, queued}
use Rattle.world_core.specs.Pairs.{is_data, of_pair, pair_put, sent_number}
use Rattle.list_facts.specs.Sublist.{IsSublist}
use Rattle.list_facts.proofs.Sublist.{sublist_longer}
use Rattle.comm_rank.specs.Agrees.{Agrees, Forwards}
use Rattle.comm_rank.specs.Fold.{Applies, handed_from}
use Rattle.comm_rank.specs.Held.{Gains}
use Rattle.comm_rank.specs.Rank.{Rank, held_letters, local_of, ran_at, sent_to}
use Rattle.comm_rank.proofs.Agrees.Arrived.{none_of_others, own_one}

module _ {C : Type 0} (apply : Applies C) (start : C → C) (me : Rank C) (log : List Entry) (agrees : Agrees apply start me log) (held : List Queue) (count : ℕ) where
  -- one more letter of its own is held and counted
  pub agrees_sent : (l : Letter) → l.from ≡ me.here → IsTrue (is_data l) → Gains (held_letters me) (queued held) (l ∷ []) → count ≡ me.sent_count + 1 →
      Agrees apply start (record me { sent_count = count; held = held }) log
  agrees_sent l mine tagged gains counted =
      record {
        nothing_waits = agrees.nothing_waits;
        forwards = record {
          held = λ from to other.
              let none : of_pair from to (l ∷ []) ≡ [] = none_of_others me.here from to (l ∷ []) other (record { sender = mine; tag = tagged }, tt) in
              gains.pairs from to ∙ ap (λ xs. of_pair from to (held_letters me) ++ xs) none ∙ append-nil _ ∙ agrees.forwards.held from to other;
          no_more_put = agrees.forwards.no_more_put;
        };
        sent_count = omega (arith, counted, agrees.sent_count, gains.senders me.here, own_one me.here l tagged mine);
        run_count = agrees.run_count;
        contents = agrees.contents;
        given_is_sent = λ to.
            let longer : sent_to me log to ++ of_pair me.here to (l ∷ []) ≡ sent_to (record me { sent_count = count; held = held }) log to =
            append_assoc (pair_put me.here to log) (of_pair me.here to (held_letters me)) (of_pair me.here to (l ∷ [])) ∙ ap (λ xs. pair_put me.here to log ++ xs) (sym (gains.pairs me.here to)) in
            subst (IsSublist _) longer (sublist_longer (of_pair me.here to (l ∷ [])) (agrees.given_is_sent to));
        modest = agrees.modest;
        controls = agrees.controls;
        served = agrees.served;
      }

  pub agrees_unchanged : held ≡ me.held → count ≡ me.sent_count → Agrees apply start (record me { sent_count = count; held = held }) log
  agrees_unchanged same counted =
      let P : ℕ → List Queue → Type 0 = λ n ls. Agrees apply start (record me { sent_count = n; held = ls }) log in
      subst (λ n. P n held) (sym counted) (subst (λ ls. P me.sent_count ls) (sym same) agrees)

-- A rank that holds the same letters in other batches still agrees with its log.
pub agrees_rebatched : {C : Type 0} (apply : Applies C) (start : C → C) (me : Rank C) (log : List Entry) (held : List Queue) → queued held ≡ held_letters me → Agrees apply start me log →
    Agrees apply start (record me { held = held }) log
agrees_rebatched apply start me log held same agrees = record {
  nothing_waits = agrees.nothing_waits;
  forwards = subst (Forwards (local_of me log)) (sym same) agrees.forwards;
  sent_count = omega (arith, agrees.sent_count, ap (sent_number me.here) same);
  run_count = agrees.run_count;
  contents = agrees.contents;
  given_is_sent = λ to. subst (λ ls. IsSublist (of_pair me.here to (handed_from apply me.here me.layout.ranks (start me.contents) (ran_at me log))) (pair_put me.here to log ++ of_pair me.here to ls)) (sym same) (agrees.given_is_sent to);
  modest = agrees.modest;
  controls = agrees.controls;
  served = agrees.served;
}
