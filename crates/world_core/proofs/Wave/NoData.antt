-- In a still world a rank puts and takes no data letter, unless that makes the sum before the next cut greater.
use Rattle.std.proofs.Common.{◌≡◌, ℕ, suc, ◌&&◌, Bool, true, false, not, nat_eq, Some, slice_get, List, [], ◌∷◌, ◌++◌, length, filter, refl, sym, ap, ◌∙◌, subst, inl, inr, arith, length-append}
use Rattle.std.proofs.lemmas.Bool.{cases_lt, false_from_ne_true, not-false}
use Rattle.std.proofs.lemmas.Grind.{flat_map-append}
use Rattle.std.proofs.lemmas.List.{nil_from_length}
use Rattle.std.proofs.lemmas.List.Elements.{filter-append}
use Rattle.list_facts.specs.Prefix.{IsPrefix}
use Rattle.list_facts.proofs.Tests.{and_false_second, none_any, or_false_first}
use Rattle.msg_codec.specs.Control.{is_control, is_count}
use Rattle.msg_codec.specs.declared.letter.Letter.{Letter}
use Rattle.world_core.specs.declared.entry.Entry.{Entry}
use Rattle.world_core.specs.declared.entry.Entry.TheVariants.{Put, Took}
use Rattle.world_core.specs.ControlRules.{sent_while_counted}
use Rattle.world_core.specs.Counts.{before_count, counts, puts_count}
use Rattle.world_core.specs.Local.{Local, having_put}
use Rattle.world_core.specs.Log.{letters_of}
use Rattle.world_core.specs.Pairs.{is_data, own_count}
use Rattle.world_core.specs.Rules.{bad_tag, mixed_control, not_held}
use Rattle.world_core.specs.Rules.Deed.{Puts}
use Rattle.world_core.specs.Wave.{data_of}
use Rattle.world_core.proofs.Counts.AfterPut.{counts-none}
use Rattle.world_core.proofs.Counts.BeforeCount.{before_all}
use Rattle.world_core.proofs.Deeds.Unbroken.{Unbroken}
use Rattle.world_core.proofs.Deeds.TwoKinds.{data_not_count}
use Rattle.world_core.proofs.Deeds.Unmixed.{no_control, no_count}
use Rattle.world_core.proofs.Pairs.Numbers.{own_count-put, sent_number-append, sent_number-one}
use Rattle.world_core.proofs.Wave.HeldBack.{IsFrozen, own_refused, other_refused}
use Rattle.world_core.proofs.Wave.Unmoved.{HasNoData}

-- ---- the letters of a batch that breaks no rule

-- one that begins with a data letter holds no Count
puts_no_count : (me : Local) (to : ℕ) (l : Letter) (more : List Letter) → is_data l ≡ true → mixed_control me (Puts to (l ∷ more)) ≡ false →
    puts_count (Put to (l ∷ more)) ≡ false
puts_no_count me to l [] is unmixed = none_any is_count (l ∷ []) (data_not_count l is, tt)
puts_no_count me to l (m ∷ more) is unmixed = none_any is_count (l ∷ m ∷ more) (no_count (l ∷ m ∷ more) (no_control me to l m more unmixed))

-- one that begins with another letter holds no data letter
puts_no_data : (me : Local) (to : ℕ) (l : Letter) (more : List Letter) → is_data l ≡ false → bad_tag (having_put me to []) to l ≡ false →
    mixed_control me (Puts to (l ∷ more)) ≡ false → filter is_data (l ∷ more) ≡ []
puts_no_data me to l [] other tag unmixed = rw other refl
puts_no_data me to l (m ∷ more) other tag unmixed =
    absurd (
    let no_data : not (is_data l) ≡ true = ap not other in
    let control : is_control l ≡ true = not-false _ (and_false_second _ _ no_data tag) in
    let none : is_control l ≡ false = (no_control me to l m more unmixed).0 in
    cc)

-- ---- a put

module _ (me : Local) (to q : ℕ) (frozen : IsFrozen me q) where
  module _ (l : Letter) (more : List Letter) (ok : Unbroken me to (l ∷ more))
      (same : own_count me.here (before_count (suc q) me.log) ≡ own_count me.here (before_count (suc q) (me.log ++ Put to (l ∷ more) ∷ [])))
      (is : is_data l ≡ true) where
    -- a letter of another rank isn't held
    not_other : nat_eq l.from me.here ≡ false → ⊥
    not_other other = absurd (
        let refused = other_refused me to q frozen l is other in
        let held : not_held (having_put me to []) to l ≡ false = or_false_first _ _ ok.held in
        cc)

    -- after Count q + 1 an own letter is refused, and before it one makes the sum greater
    not_own : nat_eq l.from me.here ≡ true → ⊥
    not_own own = elim (cases_lt (suc q) (counts me.log)) [
      | inl after ↦ absurd (
          let refused = own_refused me to q frozen l is own after in
          let free : sent_while_counted (having_put me to []) to l ≡ false = or_false_first _ _ ok.free in
          cc)
      | inr before ↦
          let log : List Entry = me.log ++ Put to (l ∷ more) ∷ [] in
          let same_counts = counts-none me.log (Put to (l ∷ more)) (puts_no_count me to l more is ok.unmixed) in
          let old = before_all (suc q) me.log before in
          let new = before_all (suc q) log (omega (arith, before, same_counts)) in
          let mine : (is_data l && nat_eq l.from me.here) ≡ true = rw (is, own) refl in
          absurd (omega (
            arith,
            same,
            ap (own_count me.here) old,
            ap (own_count me.here) new,
            own_count-put me.here me.log to (l ∷ more),
            sent_number-append me.here (l ∷ []) more,
            sent_number-one me.here l true mine,
          ))
    ]

    never : ⊥
    never = by_sender (nat_eq l.from me.here) refl
      where
        by_sender : (b : Bool) → nat_eq l.from me.here ≡ b → ⊥
        by_sender true own = not_own own
        by_sender false other = not_other other

  pub put_no_data : (letters : List Letter) → Unbroken me to letters →
      own_count me.here (before_count (suc q) me.log) ≡ own_count me.here (before_count (suc q) (me.log ++ Put to letters ∷ [])) → HasNoData (Put to letters)
  put_no_data [] ok same = record { put = refl; taken = refl }
  put_no_data (l ∷ more) ok same =
      let other : is_data l ≡ false = false_from_ne_true (is_data l) (never l more ok same) in
      record { put = puts_no_data me to l more other (or_false_first _ _ ok.tags) ok.unmixed; taken = refl }

-- ---- a take

nth_after : (taken rest : List (List Letter)) → slice_get (taken ++ rest) (length taken) ≡ slice_get rest 0
nth_after [] rest = refl
nth_after (batch ∷ taken) rest = nth_after taken rest

first_without : (rest : List (List Letter)) (letters : List Letter) → data_of rest ≡ [] → slice_get rest 0 ≡ Some letters → filter is_data letters ≡ []
first_without [] letters none h = absurd cc
first_without (batch ∷ rest) letters none h =
    let is : batch ≡ letters = cc in
    let parts : data_of (batch ∷ rest) ≡ filter is_data batch ++ data_of rest = filter-append is_data batch (letters_of rest) in
    let first : filter is_data batch ≡ [] =
    nil_from_length _ (omega (arith, ap length parts, ap length none, length-append (filter is_data batch) (data_of rest))) in
    ap (filter is_data) (sym is) ∙ first

-- where all data letters that were put over a link were taken, the next batch has none
next_without : (taken rest : List (List Letter)) (letters : List Letter) → slice_get (taken ++ rest) (length taken) ≡ Some letters →
    data_of taken ≡ data_of (taken ++ rest) → filter is_data letters ≡ []
next_without taken rest letters next same =
    let parts : data_of (taken ++ rest) ≡ data_of taken ++ data_of rest =
    ap (filter is_data) (flat_map-append _ taken rest) ∙ filter-append is_data (letters_of taken) (letters_of rest) in
    let none : data_of rest ≡ [] =
    nil_from_length _ (omega (arith, ap length parts, ap length same, length-append (data_of taken) (data_of rest))) in
    first_without rest letters none (sym (nth_after taken rest) ∙ next)

pub take_no_data : (from : ℕ) (taken put : List (List Letter)) (letters : List Letter) → IsPrefix taken put →
    slice_get put (length taken) ≡ Some letters → data_of taken ≡ data_of put → HasNoData (Took from letters)
take_no_data from taken put letters p next same = record {
  put = refl;
  taken =
      let P : List (List Letter) → Type 0 = λ batches. slice_get batches (length taken) ≡ Some letters in
      next_without taken p.rest letters (subst P (sym p.joined) next) (same ∙ ap data_of (sym p.joined));
}
