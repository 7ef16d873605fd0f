-- Words are accepted where no refusal holds, and else the first that holds is reported.
use Rattle.std.proofs.Common.{◌≡◌, ◌↔◌, ℕ, Bool, true, false, cond, List, [], ◌∷◌, Option, None, Some, Ok, Err, find, refl, ap, sym, ◌∙◌, subst, inl, inr, true≢false}
use Rattle.ygm_run.specs.declared.words.UsageKind.{UsageKind}
use Rattle.ygm_run.specs.Refusals.{AreAccepted, Holds, IsFirst}
use Rattle.ygm_run.specs.Words.{Asked, Command, asked_by, command_of, holds, order_of, refusals, refused_or}
use Rattle.ygm_run.proofs.CommandLine.Accepted.{listed, none_passes}
use Rattle.ygm_run.proofs.Refusals.Holds.{says}

-- what is found among refusals says which is the first that holds
abbrev Finds : List UsageKind → Command → Option UsageKind → Type 0
Finds kinds command (Some kind) = IsFirst kinds command kind
Finds kinds command None = (kind : UsageKind) → IsFirst kinds command kind → ⊥

by_first : (kinds : List UsageKind) (command : Command) (first : UsageKind) (it : Bool) → holds command first ≡ it
    → Finds kinds command (find (holds command) kinds)
    → Finds (first ∷ kinds) command (cond it (Some first) (find (holds command) kinds))
by_first kinds command first true it later = inl ((says command first).0 it, refl)
by_first kinds command first false it later = of (find (holds command) kinds) later where
  not_it : Holds command first → ⊥
  not_it it_holds = true≢false (sym ((says command first).1 it_holds) ∙ it)

  of : (found : Option UsageKind) → Finds kinds command found → Finds (first ∷ kinds) command found
  of (Some kind) is = inr (not_it, is)
  of None none = λ kind is. elim is [ inl (it_holds, same) ↦ not_it it_holds | inr (not, is_later) ↦ none kind is_later ]

finds : (kinds : List UsageKind) (command : Command) → Finds kinds command (find (holds command) kinds)
finds [] command = λ kind is. is
finds (first ∷ kinds) command = by_first kinds command first (holds command first) refl (finds kinds command)

-- one refusal is the first
one_first : (kinds : List UsageKind) (command : Command) (kind other : UsageKind) → IsFirst kinds command kind → IsFirst kinds command other
    → kind ≡ other
one_first [] command kind other none also = absurd none
one_first (first ∷ later) command kind other (inl (it_holds, is)) (inl (also, is_too)) = is ∙ sym is_too
one_first (first ∷ later) command kind other (inl (it_holds, is)) (inr (not, also)) = absurd (not it_holds)
one_first (first ∷ later) command kind other (inr (not, is)) (inl (it_holds, also)) = absurd (not it_holds)
one_first (first ∷ later) command kind other (inr (not, is)) (inr (nor, also)) = one_first later command kind other is also

-- the first refusal that holds is one that holds
first_holds : (kinds : List UsageKind) (command : Command) (kind : UsageKind) → IsFirst kinds command kind → Holds command kind
first_holds [] command kind none = absurd none
first_holds (first ∷ later) command kind (inl (it_holds, is)) = subst (Holds command) (sym is) it_holds
first_holds (first ∷ later) command kind (inr (not, is)) = first_holds later command kind is

-- words are accepted exactly where no refusal holds
pub accepted_exactly : (words : List (List ℕ)) (asked : Asked)
    → (order_of words ≡ Ok asked) ↔ (AreAccepted (command_of words) × (asked ≡ asked_by (command_of words)))
accepted_exactly words asked = of (find (holds command) refusals) refl where
  command : Command
  command = command_of words

  of : (found : Option UsageKind) → find (holds command) refusals ≡ found
      → (refused_or found (asked_by command) ≡ Ok asked) ↔ (AreAccepted command × (asked ≡ asked_by command))
  of None none = (
    (λ e. (λ kind it_holds. true≢false (sym ((says command kind).1 it_holds) ∙ none_passes (holds command) refusals none kind (listed kind)), let same : asked ≡ asked_by command = cc in same)),
    (λ (accepted, same). ap Ok (sym same)),
  )
  of (Some kind) some = (
    (λ e. absurd (cc)),
    (λ (accepted, same). absurd (accepted kind (first_holds refusals command kind (subst (Finds refusals command) some (finds refusals command))))),
  )

-- the refusal is the first that holds
pub refused_exactly : (words : List (List ℕ)) (kind : UsageKind) → (order_of words ≡ Err kind) ↔ IsFirst refusals (command_of words) kind
refused_exactly words kind = of (find (holds command) refusals) (finds refusals command) where
  command : Command
  command = command_of words

  of : (found : Option UsageKind) → Finds refusals command found → (refused_or found (asked_by command) ≡ Err kind) ↔ IsFirst refusals command kind
  of (Some other) is = (
    (λ e. let same : other ≡ kind = cc in subst (IsFirst refusals command) same is),
    (λ first. ap Err (one_first refusals command other kind is first)),
  )
  of None none = ((λ e. absurd (cc)), (λ first. absurd (none kind first)))
