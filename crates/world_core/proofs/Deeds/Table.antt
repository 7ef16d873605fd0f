-- The first rule that a put breaks: of the rules on the whole deed, and then of those on data letters or of those on a
-- control letter.
use Rattle.std.proofs.Common.{◌≡◌, ℕ, Bool, true, false, not, ◌&&◌, ◌||◌, nat_eq, Some, None, List, [], ◌∷◌, ◌++◌, length, refl, sym, ap, ◌∙◌, if◌then◌else◌}
use Rattle.std.specs.List.{AllByRecursion, list_any}
use Rattle.list_facts.proofs.Elements.{all_append, all_weaker}
use Rattle.list_facts.proofs.Tests.{none_any}
use Rattle.msg_codec.specs.Control.{is_count}
use Rattle.msg_codec.specs.declared.letter.Letter.{Letter}
use Rattle.world_core.specs.declared.why.Why.TheVariants.{NoSuchRank, EmptyBatch, BadTag, MixedControl}
use Rattle.world_core.specs.ControlRules.{count_early, count_unforwarded, count_wrong, is_free, sent_while_counted, total_early, total_wrong, wrong_control}
use Rattle.world_core.specs.Local.{Local, having_put}
use Rattle.world_core.specs.Pairs.{is_data}
use Rattle.world_core.specs.Rules.{Deed, Rule, bad_tag, first_broken, first_broken_of, mixed_control, no_such_rank, some_letter, some_letter_after}
use Rattle.world_core.specs.Rules.Deed.{Puts}
use Rattle.world_core.specs.Trial.{control_rules, data_rules}
use Rattle.world_core.proofs.Counts.AfterPut.{sent_while_counted-put}
use Rattle.world_core.proofs.Deeds.TwoKinds.{AreData, control_not_data, data_not_count, data_not_total, IsLone}

-- ---- tables

-- a table none of whose rules is broken
none_broken : (table : List Rule) (me : Local) (deed : Deed) → AllByRecursion (λ r. r.breaks me deed ≡ false) table → first_broken_of table me deed ≡ None
none_broken [] me deed all = refl
none_broken (r ∷ table) me deed all = rw all.0 (none_broken table me deed all.1)

-- and one before it
first_table : (first second : List Rule) (me : Local) (deed : Deed) → first_broken_of second me deed ≡ None → first_broken_of (first ++ second) me deed ≡ first_broken_of first me deed
first_table [] second me deed none = none
first_table (r ∷ first) second me deed none = ap (λ o. if r.breaks me deed then Some r.why else o) (first_table first second me deed none)

-- ---- the rules on the whole deed, by the answer of each

pub whole_deed : (me : Local) (to : ℕ) (letters : List Letter) (a b c d : Bool) →
    no_such_rank me (Puts to letters) ≡ a → nat_eq (length letters) 0 ≡ b → some_letter bad_tag me (Puts to letters) ≡ c → mixed_control me (Puts to letters) ≡ d →
    (if a then Some NoSuchRank else if b then Some EmptyBatch else if c then Some BadTag else if d then Some MixedControl
    else first_broken_of (data_rules ++ control_rules) me (Puts to letters))
    ≡ first_broken me (Puts to letters)
unfolding first_broken
whole_deed me to letters a b c d ha hb hc hd = sym (rw (ha, hb, hc, hd) refl)

-- ---- data letters break no rule on control letters

each_keeps : (breaks : Local → ℕ → Letter → Bool) (me : Local) (to : ℕ) → ((before : List Letter) (l : Letter) → is_data l ≡ true → breaks (having_put me to before) to l ≡ false) →
    (before letters : List Letter) → AreData letters → some_letter_after breaks before letters me to ≡ false
each_keeps breaks me to keeps before [] all = refl
each_keeps breaks me to keeps before (l ∷ letters) all = rw (keeps before l all.0) (each_keeps breaks me to keeps (before ++ l ∷ []) letters all.1)

pub data_table : (me : Local) (to : ℕ) (letters : List Letter) → AreData letters →
    first_broken_of (data_rules ++ control_rules) me (Puts to letters) ≡ first_broken_of data_rules me (Puts to letters)
data_table me to letters all =
    let keeps : (breaks : Local → ℕ → Letter → Bool) → ((other : Local) (l : Letter) → is_data l ≡ true → breaks other to l ≡ false) → some_letter_after breaks [] letters me to ≡ false =
    λ breaks fails. each_keeps breaks me to (λ before l tag. fails (having_put me to before) l tag) [] letters all in
    first_table data_rules control_rules me (Puts to letters) (none_broken control_rules me (Puts to letters) (
      keeps wrong_control (λ other l tag. rw (data_not_count l tag, data_not_total l tag) refl),
      (
        keeps count_early (λ other l tag. rw (data_not_count l tag) refl),
        (
          keeps count_unforwarded (λ other l tag. rw (data_not_count l tag) refl),
          (
            keeps count_wrong (λ other l tag. rw (data_not_count l tag) refl),
            (keeps total_early (λ other l tag. rw (data_not_total l tag) refl), (keeps total_wrong (λ other l tag. rw (data_not_total l tag) refl), tt)),
          ),
        ),
      ),
    ))

-- a control letter breaks no rule on data letters
pub control_table : (me : Local) (to : ℕ) (letters : List Letter) (l : Letter) → IsLone letters l →
    first_broken_of (data_rules ++ control_rules) me (Puts to letters) ≡ first_broken_of control_rules me (Puts to (l ∷ []))
control_table me to letters l is = rw (is.lone, control_not_data l is.control) refl

-- ---- letters of its own that a rank puts while counted

none_counts : (letters : List Letter) → AreData letters → list_any is_count letters ≡ false
none_counts letters all = none_any is_count letters (all_weaker (λ l. is_data l ≡ true) (λ l. is_count l ≡ false) letters data_not_count all)

either_own : (own more counted now : Bool) → now ≡ (own && counted) → (now || (more && counted)) ≡ ((own || more) && counted)
either_own true true true now h = rw h refl
either_own true true false now h = rw h refl
either_own true false true now h = rw h refl
either_own true false false now h = rw h refl
either_own false more counted now h = rw h refl

own_after : (me : Local) (to : ℕ) (before letters : List Letter) → AreData before → AreData letters →
    some_letter_after sent_while_counted before letters me to ≡ (list_any (λ l. is_data l && nat_eq l.from me.here) letters && not (is_free me))
own_after me to before [] earlier all = refl
own_after me to before (l ∷ letters) earlier all =
    ap (λ b. sent_while_counted (having_put me to before) to l || b)
    (own_after me to (before ++ l ∷ []) letters (all_append (λ x. is_data x ≡ true) before (l ∷ []) earlier (all.0, tt)) all.1)
    ∙ either_own (is_data l && nat_eq l.from me.here) (list_any (λ x. is_data x && nat_eq x.from me.here) letters) (not (is_free me)) _
    (sent_while_counted-put me to before (none_counts before earlier) l)

-- of data letters, some own letter is put while counted where there is one and the rank isn't free
pub own_while_counted : (me : Local) (to : ℕ) (letters : List Letter) → AreData letters →
    some_letter sent_while_counted me (Puts to letters) ≡ (list_any (λ l. is_data l && nat_eq l.from me.here) letters && not (is_free me))
own_while_counted me to letters all = own_after me to [] letters tt all
