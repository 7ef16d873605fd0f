-- What an honest log has, whatever the other ranks do.
use Rattle.std.proofs.Common.{◌≡◌, ℕ, zero, suc, ◌≤◌, ◌<◌, Bool, true, false, nat_eq, eqb-true, ne_eqb, Some, None, List, [], ◌∷◌, ◌++◌, length, take, slice_get, get_or, refl, sym, ap, ◌∙◌, subst, append-nil, if◌then◌else◌, arith, add-one}
use Rattle.list_facts.proofs.Elements.{all_if, all_append}
use Rattle.list_facts.proofs.Prefix.{prefix_refl, prefix_longer}
use Rattle.std.specs.List.{AllByRecursion}
use Rattle.std.proofs.lemmas.Grind.{flat_map-append}
use Rattle.msg_codec.specs.declared.letter.Letter.{Letter}
use Rattle.ygm_route.specs.declared.scheme.Scheme.{Scheme}
use Rattle.ygm_route.specs.Layout.{Shape}
use Rattle.world_core.specs.declared.entry.Entry.{Entry}
use Rattle.world_core.specs.declared.entry.Entry.TheVariants.{Put, Took}
use Rattle.world_core.specs.Limits.{most_letters}
use Rattle.world_core.specs.Local.{Local, local_rank}
use Rattle.world_core.specs.Log.{batches_put, letters_of}
use Rattle.world_core.specs.Pairs.{of_pair, own_count, pair_put, pair_taken}
use Rattle.world_core.specs.Rules.{first_broken, IsHonest}
use Rattle.world_core.specs.Rules.Deed.{Puts}
use Rattle.list_facts.specs.Prefix.{IsPrefix}
use Rattle.world_core.proofs.Counts.InOrder.{Ordered, ordered_nil, ordered_put, ordered_took}
use Rattle.world_core.proofs.Counts.TrueCounts.{Numbered, numbered_nil, numbered_put, numbered_took}
use Rattle.world_core.proofs.Deeds.AfterPut.{forward_batch, own_batch}
use Rattle.world_core.proofs.Pairs.Appended.{pair_put-put, pair_taken-put, pair_put-took, pair_taken-took}
use Rattle.world_core.proofs.Pairs.Numbers.{own_count-put, own_count-took, sent_number-nil}
use Rattle.world_core.proofs.Deeds.Lasting.{IsLawfulPut, lawful_put}
use Rattle.world_core.proofs.Deeds.Unbroken.{Unbroken, unbroken, sender_within, receiver_within}
use Rattle.world_core.proofs.Deeds.Sent.{IsSent, sent}
use Rattle.world_core.proofs.Local.Between.{IsThird}
use Rattle.world_core.proofs.Log.AtEntry.{entry_more}
use Rattle.world_core.proofs.Log.Appended.{batches_put-put, batches_put-took}
use Rattle.list_facts.proofs.Tests.{or_false_second}
use Rattle.std.proofs.Math.Seq.{take-length}
use Rattle.std.proofs.lemmas.List.{take_more}
use Rattle.std.proofs.lemmas.Option.{slice_get-get_or}

pub record Alone (me : Local) : Type 0 where
  pub carry : (to : ℕ) → AllByRecursion (IsSent me.layout me.scheme me.here to) (letters_of (batches_put to me.log))
  pub forward : (s d : ℕ) → IsThird me.layout s d me.here → IsPrefix (pair_put s d me.log) (pair_taken s d me.log)
  pub few : own_count me.here me.log ≤ most_letters
  pub targets : (to : ℕ) → me.layout.ranks ≤ to → batches_put to me.log ≡ []
  pub lawful : (to : ℕ) → AllByRecursion (IsLawfulPut me.layout me.scheme me.here to) (batches_put to me.log)
  pub numbered : Numbered me
  pub ordered : Ordered me

abbrev pub after : Local → Entry → Local
after me entry = record me { log = me.log ++ entry ∷ [] }

one_batch : (b : Bool) (batch : List Letter) → letters_of (if b then batch ∷ [] else []) ≡ (if b then batch else [])
one_batch true batch = append-nil batch
one_batch false batch = refl

pub alone_nil : (layout : Shape) (scheme : Scheme) (here : ℕ) → Alone (local_rank layout scheme here [])
alone_nil layout scheme here = record {
  carry = λ to. tt;
  forward = λ s d third. prefix_refl [];
  few = rw (sent_number-nil here) (omega arith);
  targets = λ to past. refl;
  lawful = λ to. tt;
  numbered = numbered_nil (local_rank layout scheme here []) refl;
  ordered = ordered_nil (local_rank layout scheme here []) refl;
}

pub alone_put : (me : Local) (to : ℕ) (letters : List Letter) → Alone me → Unbroken me to letters → Alone (after me (Put to letters))
alone_put me to letters alone ok = record {
  carry = λ rank.
      let Q : List Letter → Type 0 = AllByRecursion (IsSent me.layout me.scheme me.here rank) in
      let whole : letters_of (batches_put rank (me.log ++ Put to letters ∷ [])) ≡ letters_of (batches_put rank me.log) ++ (if nat_eq to rank then letters else []) =
      ap letters_of (batches_put-put me.log to rank letters) ∙ flat_map-append (λ b. b) (batches_put rank me.log) (if nat_eq to rank then letters ∷ [] else []) ∙ ap (λ xs. letters_of (batches_put rank me.log) ++ xs) (one_batch (nat_eq to rank) letters) in
      let batch : AllByRecursion (IsSent me.layout me.scheme me.here to) letters =
      sent me to [] letters (sender_within me to letters ok.ranks) (or_false_second _ _ ok.ranks) ok.tags ok.hops ok.held in
      subst Q (sym whole) (all_append _ _ _ (alone.carry rank)
      (all_if _ (nat_eq to rank) letters (λ e. let R : ℕ → Type 0 = λ r. AllByRecursion (IsSent me.layout me.scheme me.here r) letters in subst R (eqb-true to rank e) batch)));
  forward = λ s d third.
      let start : IsPrefix (pair_put s d me.log ++ of_pair s d []) (pair_taken s d me.log) = rw (append-nil (pair_put s d me.log)) (alone.forward s d third) in
      rw (pair_put-put s d me.log to letters, pair_taken-put s d me.log to letters) (forward_batch me to s d [] letters third ok.held start);
  few = rw (own_count-put me.here me.log to letters) (own_batch me to [] letters ok.few (omega (arith, alone.few, sent_number-nil me.here)));
  targets = λ rank past.
      let within : to < me.layout.ranks = receiver_within me to letters ok.ranks in
      let apart : nat_eq to rank ≡ false = ne_eqb to rank (λ e. absurd (omega arith)) in
      batches_put-put me.log to rank letters ∙ rw apart (append-nil (batches_put rank me.log) ∙ alone.targets rank past);
  lawful = λ rank.
      let Q : ℕ → Type 0 = λ r. AllByRecursion (IsLawfulPut me.layout me.scheme me.here r) (letters ∷ []) in
      rw (batches_put-put me.log to rank letters) (all_append _ _ _ (alone.lawful rank)
      (all_if _ (nat_eq to rank) (letters ∷ []) (λ e. subst Q (eqb-true to rank e) (lawful_put me to letters ok, tt))));
  numbered = numbered_put me to alone.numbered letters ok;
  ordered = ordered_put me to alone.ordered letters ok;
}

pub alone_took : (me : Local) (from : ℕ) (letters : List Letter) → Alone me → Alone (after me (Took from letters))
alone_took me from letters alone = record {
  carry = λ rank. rw (batches_put-took me.log from rank letters) (alone.carry rank);
  forward = λ s d third. rw (pair_put-took s d me.log from letters, pair_taken-took s d me.log from letters)
      (prefix_longer (of_pair s d letters) (alone.forward s d third));
  few = rw (own_count-took me.here me.log from letters) alone.few;
  targets = λ rank past. batches_put-took me.log from rank letters ∙ alone.targets rank past;
  lawful = λ rank. rw (batches_put-took me.log from rank letters) (alone.lawful rank);
  numbered = numbered_took me from letters alone.numbered;
  ordered = ordered_took me from letters alone.ordered;
}

-- the first entries of an honest log
up_to : (me : Local) → IsHonest me → (k : ℕ) → k ≤ length me.log → Alone (record me { log = take k me.log })
up_to me honest zero le = alone_nil me.layout me.scheme me.here
up_to me honest (suc k) le =
    let d : Entry = Took 0 [] in
    let before : Alone (record me { log = take k me.log }) = up_to me honest k (omega arith) in
    let entry : Entry = get_or me.log k d in
    let there : slice_get me.log k ≡ Some entry = slice_get-get_or me.log k d (omega arith) in
    let next : (e : Entry) → slice_get me.log k ≡ Some e → Alone (after (record me { log = take k me.log }) e) = elim [
      | Put to letters ↦ λ h. alone_put (record me { log = take k me.log }) to letters before (unbroken _ to letters (honest k to letters h))
      | Took from letters ↦ λ h. alone_took (record me { log = take k me.log }) from letters before
    ] in
    let P : List Entry → Type 0 = λ log. Alone (record me { log = log }) in
    let more : take (suc k) me.log ≡ take k me.log ++ entry ∷ [] = ap (λ n. take n me.log) (sym (add-one k)) ∙ take_more me.log k d (omega arith) in
    subst P (sym more) (next entry there)

pub alone_honest : (me : Local) → IsHonest me → Alone me
alone_honest me honest =
    let P : List Entry → Type 0 = λ log. Alone (record me { log = log }) in
    subst P (take-length me.log) (up_to me honest (length me.log) (omega arith))

-- An honest log stays honest with one entry more, where that is no put or breaks no rule.
pub honest_more : (me : Local) (entry : Entry) → IsHonest me →
    ((to : ℕ) (letters : List Letter) → entry ≡ Put to letters → first_broken me (Puts to letters) ≡ None) → IsHonest (after me entry)
honest_more me entry honest ok k to letters h =
    let P : List Entry → Entry → Type 0 = λ log e. (rank : ℕ) (batch : List Letter) → e ≡ Put rank batch → first_broken (record me { log = log }) (Puts rank batch) ≡ None in
    entry_more P me.log entry
    (λ j e there rank batch same. honest j rank batch (there ∙ ap Some same)) ok k (Put to letters) h to letters refl
