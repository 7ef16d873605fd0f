-- What ran from a sender is a prefix of what that sender sent.
use Rattle.std.proofs.Common.{◌≡◌, ℕ, ◌&&◌, List, take, drop, ap, sym, ◌∙◌}
use Rattle.std.specs.Bool.{◌==◌}
use Rattle.std.proofs.lemmas.Bool.{and_from}
use Rattle.std.proofs.lemmas.List.{take-append-drop}
use Rattle.std.proofs.lemmas.List.Elements.{filter-append}
use Rattle.list_facts.proofs.Filters.{filter_within}
use Rattle.msg_codec.specs.declared.letter.Letter.{Letter}
use Rattle.world_core.specs.declared.entry.Entry.{Entry}
use Rattle.world_core.specs.Log.{letters_taken}
use Rattle.world_core.specs.Pairs.{arrived, for_rank, is_data, is_of_pair, of_pair, pair_put, pair_taken}
use Rattle.list_facts.specs.Prefix.{IsPrefix}
use Rattle.list_facts.proofs.Prefix.{prefix_append, prefix_trans}
use Rattle.list_facts.proofs.Tests.{and_first, and_second}
use Rattle.comm_rank.specs.Rank.{Rank, held_letters, ran_from, sent_to}

-- the letters of a pair are among those for its destination
pub pair_of_rank : (from to : ℕ) (letters : List Letter) → of_pair from to (for_rank to letters) ≡ of_pair from to letters
pair_of_rank from to letters = filter_within (is_of_pair from to) (λ l. is_data l && (l.to == to)) letters
    (λ l h. and_from _ _ (and_first _ _ (and_first (is_data l && (l.from == from)) _ h)) (and_second (is_data l && (l.from == from)) _ h))

pub ran_begins : {H : Type 0} (sender me : Rank H) (theirs mine : List Entry) → IsPrefix (pair_taken sender.here me.here mine) (pair_put sender.here me.here theirs)
    → IsPrefix (ran_from me mine sender.here) (sent_to sender theirs me.here)
ran_begins sender me theirs mine got =
    let s = sender.here in
    let d = me.here in
    let whole = arrived d mine in
    let taken : IsPrefix (ran_from me mine s) (pair_taken s d mine) = record {
      rest = _;
      joined = sym (filter-append _ (take _ whole) (drop _ whole)) ∙ ap (of_pair s d) (take-append-drop _ whole) ∙ pair_of_rank s d (letters_taken mine);
    } in
    prefix_trans (prefix_trans taken got) (prefix_append (pair_put s d theirs) (of_pair s d (held_letters sender)))
