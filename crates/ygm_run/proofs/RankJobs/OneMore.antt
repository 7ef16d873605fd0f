-- The letters of a rank's lines and one more.
use Rattle.std.proofs.Common.{◌≡◌, ℕ, zero, suc, eqb, Bool, true, false, ◌&&◌, cond, List, [], ◌∷◌, ◌++◌, map, refl, sym, ap, ◌∙◌, subst, inl, inr, arith}
use Rattle.std.specs.List.{filter}
use Rattle.std.proofs.lemmas.Bool.{cases_eq, eq-eqb, ne_eqb}
use Rattle.std.proofs.lemmas.List.{map-append}
use Rattle.std.proofs.lemmas.List.Elements.{filter-append}
use Rattle.world_core.specs.Pairs.{of_pair}
use Rattle.term_barrier.specs.Account.{with_more}
use Rattle.term_barrier.proofs.Account.Sent.{more_elsewhere}
use Rattle.counting_set.specs.Counting.{add_letter}
use Rattle.part_hash.specs.Owner.{owner_of_key}
use Rattle.ygm_run.specs.TallyRun.{own_letters, tally_letters}

own_letters-append : (ranks here to : ℕ) (xs ys : List (List ℕ)) → own_letters ranks here (xs ++ ys) to ≡ own_letters ranks here xs to ++ own_letters ranks here ys to
own_letters-append ranks here to xs ys =
    ap (map (add_letter to here)) (filter-append (λ line. eqb (owner_of_key line ranks) to) xs ys)
    ∙ map-append (add_letter to here) (filter (λ line. eqb (owner_of_key line ranks) to) xs) (filter (λ line. eqb (owner_of_key line ranks) to) ys)

at_owner : (here to : ℕ) (line : List ℕ) (b : Bool) → cond b (add_letter to here line ∷ []) [] ≡ map (add_letter to here) (cond b (line ∷ []) [])
at_owner here to line true = refl
at_owner here to line false = refl

by_owner : (here owner to : ℕ) (line : List ℕ) → cond (eqb owner to) (add_letter owner here line ∷ []) [] ≡ map (add_letter to here) (cond (eqb owner to) (line ∷ []) [])
by_owner here owner to line = elim (cases_eq owner to) [
  | inl e ↦ subst (λ d. cond (eqb owner d) (add_letter owner here line ∷ []) [] ≡ map (add_letter d here) (cond (eqb owner d) (line ∷ []) [])) e (at_owner here owner line (eqb owner owner))
  | inr ne ↦ rw (ne_eqb owner to ne) refl
]

-- the letter of a line, among those of its destination
line_of_pair : (ranks here to : ℕ) (line : List ℕ) → of_pair here to (add_letter (owner_of_key line ranks) here line ∷ []) ≡ own_letters ranks here (line ∷ []) to
line_of_pair ranks here to line =
    let owner = owner_of_key line ranks in
    ap (λ b. cond ((true && b) && eqb owner to) (add_letter owner here line ∷ []) []) (eq-eqb here here refl) ∙ by_owner here owner to line

-- they are those of the lines, and in phase 0 the letter of the one
pub one_line_more : (ranks here : ℕ) (lines : List (List ℕ)) (line : List ℕ) (k to : ℕ) →
    tally_letters ranks here (lines ++ line ∷ []) k to
    ≡ with_more here (tally_letters ranks here lines) 0 (add_letter (owner_of_key line ranks) here line ∷ []) k to
one_line_more ranks here lines line zero to =
    own_letters-append ranks here to lines (line ∷ [])
    ∙ ap (λ w. own_letters ranks here lines to ++ w) (sym (line_of_pair ranks here to line))
one_line_more ranks here lines line (suc k) to =
    sym (more_elsewhere here (tally_letters ranks here lines) 0 (suc k) (add_letter (owner_of_key line ranks) here line ∷ []) to (λ e. omega (arith, e)))
