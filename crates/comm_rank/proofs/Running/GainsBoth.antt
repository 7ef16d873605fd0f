-- What is held gains own letters, and letters to forward.
use Rattle.std.proofs.Common.{◌≡◌, ◌≢◌, ℕ, ◌++◌, false, List, [], ◌∷◌, refl, sym, ap, ◌∙◌, append-nil, append_assoc, length-append, arith, eqb-true}
use Rattle.std.specs.List.{AllByRecursion}
use Rattle.std.proofs.lemmas.Bool.{false_from_ne_true}
use Rattle.std.proofs.lemmas.List.Elements.{filter-append}
use Rattle.msg_codec.specs.declared.letter.Letter.{Letter}
use Rattle.world_core.specs.Pairs.{is_of_pair, of_pair}
use Rattle.world_core.proofs.Pairs.Numbers.{sent_number-one}
use Rattle.world_core.proofs.Pairs.OfPair.{pair_of}
use Rattle.list_facts.proofs.Tests.{and_second}
use Rattle.comm_rank.specs.Held.{AreData, Gains}
use Rattle.comm_rank.specs.Running.{GainsBoth, IsOf}
use Rattle.comm_rank.proofs.Agrees.Arrived.{none_of_others, own_number}

pub both_none : (here : ℕ) (held : List Letter) → GainsBoth here held held [] []
both_none here held = record {
  own = λ to. sym (append-nil _);
  number = omega arith;
  others = λ from to ne. sym (append-nil _);
  data_alone = λ all. all;
}

pair_more : (from to : ℕ) (a b c xs ys : List Letter) → of_pair from to b ≡ of_pair from to a ++ of_pair from to xs → of_pair from to c ≡ of_pair from to b ++ of_pair from to ys →
    of_pair from to c ≡ of_pair from to a ++ of_pair from to (xs ++ ys)
pair_more from to a b c xs ys first later =
    later ∙ ap (λ zs. zs ++ of_pair from to ys) first ∙ append_assoc (of_pair from to a) (of_pair from to xs) (of_pair from to ys)
    ∙ ap (λ zs. of_pair from to a ++ zs) (sym (filter-append (is_of_pair from to) xs ys))

pub both_more : (here : ℕ) (a b c own more others further : List Letter) → GainsBoth here a b own others → GainsBoth here b c more further → GainsBoth here a c (own ++ more) (others ++ further)
both_more here a b c own more others further first later = record {
  own = λ to. pair_more here to a b c own more (first.own to) (later.own to);
  number = omega (arith, first.number, later.number, length-append own more);
  others = λ from to ne. pair_more from to a b c others further (first.others from to ne) (later.others from to ne);
  data_alone = λ all. later.data_alone (first.data_alone all);
}

-- letters of the rank itself
pub both_own : (here : ℕ) (before after own : List Letter) → AllByRecursion (IsOf here) own → (AreData before → AreData after) → Gains before after own → GainsBoth here before after own []
both_own here before after own all kept gains = record {
  own = λ to. gains.pairs here to;
  number = omega (arith, gains.senders here, own_number here own all);
  others = λ from to ne. gains.pairs from to ∙ ap (λ xs. of_pair from to before ++ xs) (none_of_others here from to own ne all);
  data_alone = kept;
}

-- a letter of another rank
pub both_other : (here : ℕ) (before after : List Letter) (l : Letter) → l.from ≢ here → (AreData before → AreData after) → Gains before after (l ∷ []) → GainsBoth here before after [] (l ∷ [])
both_other here before after l ne kept gains =
    let none : (to : ℕ) → is_of_pair here to l ≡ false = λ to. false_from_ne_true _ (λ yes. ne (pair_of here to l yes).0) in
    record {
      own = λ to. let e : is_of_pair here to l ≡ false = none to in gains.pairs here to ∙ ap (λ xs. of_pair here to before ++ xs) (rw e refl);
      number = omega (arith, gains.senders here, sent_number-one here l false (false_from_ne_true _ (λ yes. ne (eqb-true _ _ (and_second _ _ yes)))));
      others = λ from to other. gains.pairs from to;
      data_alone = kept;
    }
