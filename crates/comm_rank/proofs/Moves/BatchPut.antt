-- A put of a batch of data letters, own ones and those of other ranks, under every scheme.
use Rattle.std.proofs.Common.{◌≡◌, ◌≢◌, ◌⊎◌, ℕ, ◌+◌, ◌<◌, ◌≤◌, Bool, true, false, not, ◌||◌, ◌&&◌, nat_eq, lt-ltb, eq-eqb, ne_eqb, None, List, [], ◌∷◌, ◌++◌, length, drop, refl, sym, ap, ◌∙◌, subst, append_assoc, arith, inl, inr, length-append, if◌then◌else◌}
use Rattle.std.specs.Bool.{IsTrue}
use Rattle.std.specs.List.{AllByRecursion, list_any}
use Rattle.std.proofs.Math.Bool.{and-false}
use Rattle.std.proofs.Math.Seq.{drop-append_seam, drop-nil}
use Rattle.std.proofs.lemmas.Bool.{cases_eq}
use Rattle.std.proofs.lemmas.List.{drop-drop}
use Rattle.std.proofs.lemmas.List.Elements.{filter-append}
use lib.Pointwise.{pointwise, bytes_decides}
use Rattle.list_facts.specs.Prefix.{IsPrefix}
use Rattle.list_facts.proofs.Elements.{all_first, all_second, all_weaker}
use Rattle.list_facts.proofs.Filters.{none_kept}
use Rattle.list_facts.proofs.Tests.{none_any}
use Rattle.msg_codec.specs.Control.{is_control}
use Rattle.msg_codec.specs.declared.letter.Letter.{Letter}
use Rattle.ygm_route.specs.Hop.{hop}
use Rattle.world_core.specs.declared.entry.Entry.TheVariants.{Put}
use Rattle.world_core.specs.ControlRules.{is_free, sent_while_counted, wrong_control, count_early, count_unforwarded, count_wrong, total_early, total_wrong}
use Rattle.world_core.specs.Limits.{most_letters}
use Rattle.world_core.specs.Local.{Local, having_put, is_rank, to_forward}
use Rattle.world_core.specs.Pairs.{is_data, is_of_pair, of_pair, of_sender, own_count, pair_put, pair_taken, sent_number}
use Rattle.world_core.specs.Rules.{bad_tag, first_broken, is_first_of, not_held, same_letter, some_letter_after, too_many_sent, wrong_hop}
use Rattle.world_core.specs.Rules.Deed.{Puts}
use Rattle.world_core.proofs.Counts.StaysFree.{data_uncounted, stays_free}
use Rattle.world_core.proofs.Deeds.EachLetter.{held_next, held_own, hop_right, not_mine, not_too_many}
use Rattle.world_core.proofs.Deeds.TwoKinds.{data_not_count, data_not_total}
use Rattle.world_core.proofs.Deeds.Unbroken.{Unbroken}
use Rattle.world_core.proofs.Local.ToForward.{may_forward}
use Rattle.world_core.proofs.Pairs.Appended.{pair_put-put, pair_taken-put}
use Rattle.world_core.proofs.Pairs.Numbers.{sent_number-append, sent_number-one}
use Rattle.world_core.proofs.Pairs.OfPair.{own_pair}

-- ---- a batch that a rank may put

-- a data letter between ranks of the world, whose next hop is the rank `to`
pub record IsNext (me : Local) (to : ℕ) (l : Letter) : Type 0 where
  pub tag : IsTrue (is_data l)
  pub to_within : l.to < me.layout.ranks
  pub from_within : l.from < me.layout.ranks
  pub leads : to ≡ hop me.layout me.scheme me.here l.to

-- A batch that a rank may put to another: it holds data letters between ranks of the world, whose next hop is the other
-- rank. It has no own letter too many, and the rank is free or it has none. Its letters of each other sender and
-- destination are the first that the rank has to forward of that pair.
pub record MayPutBatch (me : Local) (to : ℕ) (letters : List Letter) : Type 0 where
  pub here : me.here < me.layout.ranks
  pub within : to < me.layout.ranks
  pub some : 0 < length letters
  pub each : AllByRecursion (IsNext me to) letters
  pub few : own_count me.here me.log + sent_number me.here letters ≤ most_letters
  pub free : (is_free me ≡ true) ⊎ (of_sender me.here letters ≡ [])
  pub first : (from d : ℕ) → from ≢ me.here → IsPrefix (of_pair from d letters) (to_forward me from d)

-- ---- what a put leaves

drop_if : (b : Bool) (n : ℕ) (xs : List Letter) → (if b then drop n xs else []) ≡ drop n (if b then xs else [])
drop_if true n xs = refl
drop_if false n xs = sym (drop-nil n)

-- a put takes its letters from what remains to forward
pub to_forward_put : (me : Local) (to : ℕ) (letters : List Letter) (from d : ℕ) →
    to_forward (having_put me to letters) from d ≡ drop (length (of_pair from d letters)) (to_forward me from d)
unfolding to_forward
to_forward_put me to letters from d =
    let put : length (pair_put from d (having_put me to letters).log) ≡ length (pair_put from d me.log) + length (of_pair from d letters) =
    ap length (pair_put-put from d me.log to letters) ∙ length-append (pair_put from d me.log) (of_pair from d letters) in
    let taken : List Letter = pair_taken from d me.log in
    let more : ℕ = length (of_pair from d letters) in
    let less : drop (length (pair_put from d (having_put me to letters).log)) (pair_taken from d (having_put me to letters).log) ≡ drop more (drop (length (pair_put from d me.log)) taken) =
    ap (drop (length (pair_put from d (having_put me to letters).log))) (pair_taken-put from d me.log to letters)
    ∙ ap (λ n. drop n taken) put ∙ sym (drop-drop more (length (pair_put from d me.log)) taken) in
    ap (λ xs. if may_forward me from d then xs else []) less ∙ drop_if (may_forward me from d) more (drop (length (pair_put from d me.log)) taken)

-- where they are the first of these, what follows them remains
pub to_forward_rest : (me : Local) (to : ℕ) (letters : List Letter) (from d : ℕ) (rest : List Letter) →
    to_forward me from d ≡ of_pair from d letters ++ rest → to_forward (having_put me to letters) from d ≡ rest
to_forward_rest me to letters from d rest is =
    to_forward_put me to letters from d ∙ ap (drop (length (of_pair from d letters))) is ∙ drop-append_seam (of_pair from d letters) rest

-- a rank that is free stays so as it puts data letters
pub free_after : (me : Local) (to : ℕ) (letters : List Letter) → is_free me ≡ true → AllByRecursion (λ l. IsTrue (is_data l)) letters →
    is_free (having_put me to letters) ≡ true
free_after me to letters free tagged = stays_free me (Put to letters) (data_uncounted letters tagged) free

-- ---- a rule that no letter breaks, each after those before it, isn't broken by the batch

module _ (breaks : Local → ℕ → Letter → Bool) (me : Local) (to : ℕ) (letters : List Letter)
    (each : (before later : List Letter) (l : Letter) → letters ≡ before ++ l ∷ later → breaks (having_put me to before) to l ≡ false) where
  unbroken_after : (before rest : List Letter) → letters ≡ before ++ rest → some_letter_after breaks before rest me to ≡ false
  unbroken_after before [] is = refl
  unbroken_after before (l ∷ rest) is =
      rw (each before rest l is) (unbroken_after (before ++ l ∷ []) rest (is ∙ sym (append_assoc before (l ∷ []) rest)))

-- ---- each letter of a batch that the rank may put

same_itself : (l : Letter) → same_letter l l ≡ true
same_itself l =
    let to : nat_eq l.to l.to ≡ true = eq-eqb l.to l.to refl in
    let from : nat_eq l.from l.from ≡ true = eq-eqb l.from l.from refl in
    let tag : nat_eq l.tag l.tag ≡ true = eq-eqb l.tag l.tag refl in
    let body : pointwise nat_eq l.body l.body ≡ true = (bytes_decides l.body l.body).1 refl in
    rw (to, from, tag, body) refl

pair_seam : (from d : ℕ) (before later : List Letter) (l : Letter) → is_of_pair from d l ≡ true →
    of_pair from d (before ++ l ∷ later) ≡ of_pair from d before ++ l ∷ of_pair from d later
pair_seam from d before later l pair = filter-append (is_of_pair from d) before (l ∷ later) ∙ rw pair refl

module _ (me : Local) (to : ℕ) (before later : List Letter) (l : Letter) (may : MayPutBatch me to (before ++ l ∷ later)) where
  next : IsNext me to l
  next = (all_second (IsNext me to) before (l ∷ later) may.each).0

  held_right : not_held (having_put me to before) to l ≡ false
  held_right = elim (cases_eq l.from me.here) [
    | inl own ↦ held_own (having_put me to before) to l next.tag own
    | inr other ↦
        let p = may.first l.from l.to other in
        let rest : List Letter = of_pair l.from l.to later ++ p.rest in
        let all : to_forward me l.from l.to ≡ of_pair l.from l.to before ++ l ∷ rest =
        sym p.joined ∙ ap (λ xs. xs ++ p.rest) (pair_seam l.from l.to before later l (own_pair l next.tag))
        ∙ append_assoc (of_pair l.from l.to before) (l ∷ of_pair l.from l.to later) p.rest in
        held_next (having_put me to before) to l next.tag other
        (ap (λ xs. is_first_of xs l) (to_forward_rest me to before l.from l.to (l ∷ rest) all) ∙ same_itself l)
  ]

  few_right : too_many_sent (having_put me to before) to l ≡ false
  few_right = by_sender (is_data l && nat_eq l.from me.here) refl
    where
      by_sender : (b : Bool) → (is_data l && nat_eq l.from me.here) ≡ b → too_many_sent (having_put me to before) to l ≡ false
      by_sender true mine =
          not_too_many me to before l (own_count me.here me.log + sent_number me.here before) refl mine
          (omega (arith, may.few, sent_number-append me.here before (l ∷ later), sent_number-append me.here (l ∷ []) later, sent_number-one me.here l true mine))
      by_sender false other = not_mine (having_put me to before) to l other

  free_right : sent_while_counted (having_put me to before) to l ≡ false
  free_right = elim may.free [
    | inl free ↦
        let tagged : AllByRecursion (λ x. IsTrue (is_data x)) before =
        all_weaker (IsNext me to) (λ x. IsTrue (is_data x)) before (λ x h. h.tag) (all_first (IsNext me to) before (l ∷ later) may.each) in
        rw (free_after me to before free tagged) (and-false (is_data l && nat_eq l.from me.here))
    | inr none ↦
        let other : (is_data l && nat_eq l.from me.here) ≡ false =
        (all_second (λ x. (is_data x && nat_eq x.from me.here) ≡ false) before (l ∷ later)
        (none_kept (λ x. is_data x && nat_eq x.from me.here) (before ++ l ∷ later) none)).0 in
        rw other refl
  ]

-- ---- the batch

-- a put that breaks none of the rules, one by one
unbroken_first : (me : Local) (to : ℕ) (letters : List Letter) → Unbroken me to letters → first_broken me (Puts to letters) ≡ None
unfolding first_broken
unbroken_first me to letters ok =
    rw (ok.ranks, ok.some, ok.tags, ok.unmixed, ok.hops, ok.held, ok.few, ok.free, ok.control, ok.next_count, ok.forwarded, ok.count, ok.next_total, ok.total) refl

ranks_hold : (a b c : Bool) → a ≡ true → b ≡ true → c ≡ false → (not a || not b || c) ≡ false
ranks_hold true true c _ _ h = h
ranks_hold false b c h _ _ = absurd cc
ranks_hold true false c _ h _ = absurd cc

-- its sender and its destination are ranks of the world
ends_within : (me : Local) (to : ℕ) (l : Letter) → IsNext me to l → (not (is_rank me.layout l.to) || not (is_rank me.layout l.from)) ≡ false
ends_within me to l next =
    let a : is_rank me.layout l.to ≡ true = lt-ltb _ _ next.to_within in
    let b : is_rank me.layout l.from ≡ true = lt-ltb _ _ next.from_within in
    rw (a, b) refl

module _ (me : Local) (to : ℕ) (letters : List Letter) (may : MayPutBatch me to letters) where
  -- a rule on a letter and those before it
  after_others : (breaks : Local → ℕ → Letter → Bool) →
      ((before later : List Letter) (l : Letter) → MayPutBatch me to (before ++ l ∷ later) → breaks (having_put me to before) to l ≡ false) →
      some_letter_after breaks [] letters me to ≡ false
  after_others breaks fails =
      unbroken_after breaks me to letters (λ before later l is. fails before later l (subst (MayPutBatch me to) is may)) [] letters refl

  -- a rule on a letter alone
  alone : (breaks : Local → ℕ → Letter → Bool) → ((before : List Letter) (l : Letter) → IsNext me to l → breaks (having_put me to before) to l ≡ false) →
      some_letter_after breaks [] letters me to ≡ false
  alone breaks fails = after_others breaks (λ before later l whole. fails before l (next me to before later l whole))

  no_control : list_any is_control letters ≡ false
  no_control =
      none_any is_control letters
      (all_weaker (IsNext me to) (λ l. is_control l ≡ false) letters
      (λ l h. let count = data_not_count l h.tag in let total = data_not_total l h.tag in rw (count, total) refl) may.each)

  pub unbroken_batch : first_broken me (Puts to letters) ≡ None
  unbroken_batch = unbroken_first me to letters (record {
    ranks = ranks_hold _ _ _ (lt-ltb _ _ may.here) (lt-ltb _ _ may.within)
        (none_any _ letters (all_weaker (IsNext me to) _ letters (ends_within me to) may.each));
    some = ne_eqb (length letters) 0 (λ none. absurd (omega (arith, may.some, none)));
    tags = alone bad_tag (λ before l h. let tag = h.tag in rw tag refl);
    unmixed = rw no_control refl;
    hops = alone wrong_hop (λ before l h. hop_right (having_put me to before) to to l h.tag h.leads refl);
    held = after_others not_held (held_right me to);
    few = after_others too_many_sent (few_right me to);
    free = after_others sent_while_counted (free_right me to);
    control = alone wrong_control (λ before l h. let count = data_not_count l h.tag in let total = data_not_total l h.tag in rw (count, total) refl);
    next_count = alone count_early (λ before l h. let count = data_not_count l h.tag in rw count refl);
    forwarded = alone count_unforwarded (λ before l h. let count = data_not_count l h.tag in rw count refl);
    count = alone count_wrong (λ before l h. let count = data_not_count l h.tag in rw count refl);
    next_total = alone total_early (λ before l h. let total = data_not_total l h.tag in rw total refl);
    total = alone total_wrong (λ before l h. let total = data_not_total l h.tag in rw total refl);
  })
