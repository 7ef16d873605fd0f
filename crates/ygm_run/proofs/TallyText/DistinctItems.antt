-- Lists of items that rise in byte order: one with an item more, and that their items determine them.
use Rattle.std.proofs.Common.{◌≡◌, ◌↔◌, ℕ, ◌+◌, ◌⊎◌, List, [], ◌∷◌, AllPairs, Contains, Ordering, Less, Equal, Greater, inl, inr, refl, sym, ap, ◌∙◌, subst, arith, ⊎_elim}
use Rattle.std.specs.BTreeSet.{insert_key}
use Rattle.std.specs.List.Sorted.{IsStrictlySortedBy}
use Rattle.std.specs.Ordering.{ordering_reverse, match_ordering}
use Rattle.std.proofs.lemmas.Cmp.{nat_list_cmp_total, tied_itself}
use Rattle.std.proofs.lemmas.List.Elements.{All-from_recursion, recursion_from_All, All-contains, All-weaker}
use Rattle.std.proofs.lemmas.Map.Keys.{sorted_head, sorted_tail, sorted_from_all_adjacent, Less-from_sorted}
use Rattle.std.proofs.lemmas.Map.Lookups.{exact_bytes}
use Rattle.std.proofs.lemmas.Map.Views.{All-insert_key}
use Rattle.ygm_run.specs.TallyText.{byte_order, IsBefore, distinct_items}
use Rattle.list_facts.proofs.Members.{Contains-here, Contains-there, Contains-cons_cases, Contains-nil}

-- each item is before those after it
abbrev pub Rises : List (List ℕ) → Type 0
Rises items = IsStrictlySortedBy byte_order items

pub rises_from_pairs : (items : List (List ℕ)) → AllPairs IsBefore items → Rises items
rises_from_pairs items h = sorted_from_all_adjacent nat_list_cmp_total items [] (λ k within. h k (k + 1) [] (omega arith) within)

pub pairs_from_rises : (items : List (List ℕ)) → Rises items → AllPairs IsBefore items
pairs_from_rises items h i j d less within = Less-from_sorted byte_order items i j d h less within

-- the first item is before each other one
first_is_before : (x y : List ℕ) (xs : List (List ℕ)) → Rises (x ∷ xs) → Contains xs y → IsBefore x y
first_is_before x y xs h among = All-contains (IsBefore x) xs y (All-from_recursion (IsBefore x) xs (sorted_head byte_order x xs h)) among

not_before_itself : (x y : List ℕ) → x ≡ y → IsBefore x y → ⊥
not_before_itself x y is less = let tie = tied_itself nat_list_cmp_total x in let same = ap (byte_order x) is in cc

turned : (x y : List ℕ) → byte_order x y ≡ Greater → IsBefore y x
turned x y h = nat_list_cmp_total.antisymm y x ∙ ap ordering_reverse h

not_both : (x y : List ℕ) → IsBefore x y → IsBefore y x → ⊥
not_both x y h back = let same = nat_list_cmp_total.antisymm x y ∙ ap ordering_reverse back in cc

-- an item that is before the first isn't in the list
not_among : (x y : List ℕ) (ys : List (List ℕ)) → Rises (y ∷ ys) → IsBefore x y → Contains (y ∷ ys) x → ⊥
not_among x y ys h less among =
    ⊎_elim
    (λ is. not_before_itself x y (sym is) less)
    (λ later. not_both x y less (first_is_before y x ys h later))
    (Contains-cons_cases y x ys among)

-- an item that is after the first is among the others
among_others : (x q : List ℕ) (xs : List (List ℕ)) → IsBefore x q → Contains (x ∷ xs) q → Contains xs q
among_others x q xs less among = ⊎_elim (λ is. absurd (not_before_itself x q is less)) (λ later. later) (Contains-cons_cases x q xs among)

same_first : (x y : List ℕ) (xs ys : List (List ℕ)) → Rises (x ∷ xs) → Rises (y ∷ ys) → Contains (y ∷ ys) x → Contains (x ∷ xs) y → (o : Ordering) → byte_order x y ≡ o → x ≡ y
same_first x y xs ys s t there back Less h = absurd (not_among x y ys t h there)
same_first x y xs ys s t there back Equal h = exact_bytes x y h
same_first x y xs ys s t there back Greater h = absurd (not_among y x xs s (turned x y h) back)

-- two rising lists with the same items are equal
pub same_items : (xs ys : List (List ℕ)) → Rises xs → Rises ys → ((q : List ℕ) → Contains xs q → Contains ys q) → ((q : List ℕ) → Contains ys q → Contains xs q) → xs ≡ ys
same_items [] [] s t there back = refl
same_items [] (y ∷ ys) s t there back = absurd (Contains-nil y (back y (Contains-here y ys)))
same_items (x ∷ xs) [] s t there back = absurd (Contains-nil x (there x (Contains-here x xs)))
same_items (x ∷ xs) (y ∷ ys) s t there back =
    let first : x ≡ y = same_first x y xs ys s t (there x (Contains-here x xs)) (back y (Contains-here y ys)) (byte_order x y) refl in
    let rest : xs ≡ ys =
    same_items xs ys (sorted_tail byte_order x xs s) (sorted_tail byte_order y ys t)
    (λ q among. among_others y q ys (subst (λ z. IsBefore z q) first (first_is_before x q xs s among)) (there q (Contains-there x q xs among)))
    (λ q among. among_others x q xs (subst (λ z. IsBefore z q) (sym first) (first_is_before y q ys t among)) (back q (Contains-there y q ys among))) in
    λ i. first i ∷ rest i

-- ---- one item more

rises_at : (x y : List ℕ) (ys : List (List ℕ)) → Rises (y ∷ ys) → (Rises ys → Rises (insert_key byte_order ys x)) → (o : Ordering) → byte_order x y ≡ o
    → Rises (match_ordering o (x ∷ y ∷ ys) (y ∷ ys) (y ∷ insert_key byte_order ys x))
unfolding IsStrictlySortedBy
rises_at x y ys h rest Less less =
    ((less, recursion_from_All (IsBefore x) ys (All-weaker (IsBefore y) (IsBefore x) (λ z above. nat_list_cmp_total.trans x y z less above) ys (All-from_recursion (IsBefore y) ys h.0))), h)
rises_at x y ys h rest Equal tie = h
rises_at x y ys h rest Greater above =
    (recursion_from_All (IsBefore y) (insert_key byte_order ys x) (All-insert_key byte_order x (IsBefore y) ys (All-from_recursion (IsBefore y) ys h.0) (turned x y above)), rest h.1)

pub Rises-insert_key : (x : List ℕ) (ys : List (List ℕ)) → Rises ys → Rises (insert_key byte_order ys x)
unfolding IsStrictlySortedBy
Rises-insert_key x [] h = (tt, tt)
Rises-insert_key x (y ∷ ys) h = rises_at x y ys h (Rises-insert_key x ys) (byte_order x y) refl

-- the list after has x and what the list before had
abbrev Joins : List ℕ → List (List ℕ) → List (List ℕ) → Type 0
Joins x before after = (q : List ℕ) → Contains after q ↔ ((x ≡ q) ⊎ Contains before q)

joins_at : (x y : List ℕ) (ys : List (List ℕ)) → Joins x ys (insert_key byte_order ys x) → (o : Ordering) → byte_order x y ≡ o
    → Joins x (y ∷ ys) (match_ordering o (x ∷ y ∷ ys) (y ∷ ys) (y ∷ insert_key byte_order ys x))
joins_at x y ys rest Less less q =
    (Contains-cons_cases x q (y ∷ ys), ⊎_elim (λ is. subst (Contains (x ∷ y ∷ ys)) is (Contains-here x (y ∷ ys))) (Contains-there x q (y ∷ ys)))
joins_at x y ys rest Equal tie q =
    (inr, ⊎_elim (λ is. subst (Contains (y ∷ ys)) (sym (exact_bytes x y tie) ∙ is) (Contains-here y ys)) (λ among. among))
joins_at x y ys rest Greater above q =
    let more = insert_key byte_order ys x in (
      (λ among. ⊎_elim (λ is. inr (subst (Contains (y ∷ ys)) is (Contains-here y ys))) (λ later. ⊎_elim inl (λ was. inr (Contains-there y q ys was)) ((rest q).0 later)) (Contains-cons_cases y q more among)),
      (λ either. ⊎_elim (λ is. Contains-there y q more ((rest q).1 (inl is))) (λ among. ⊎_elim (λ is. subst (Contains (y ∷ more)) is (Contains-here y more)) (λ later. Contains-there y q more ((rest q).1 (inr later))) (Contains-cons_cases y q ys among)) either),
    )

pub Contains-insert_key : (x : List ℕ) (ys : List (List ℕ)) → Joins x ys (insert_key byte_order ys x)
Contains-insert_key x [] q = (Contains-cons_cases x q [], ⊎_elim (λ is. subst (Contains (x ∷ [])) is (Contains-here x [])) (Contains-there x q []))
Contains-insert_key x (y ∷ ys) q = joins_at x y ys (Contains-insert_key x ys) (byte_order x y) refl q

-- ---- the distinct items

pub Rises-distinct_items : (lines : List (List ℕ)) → Rises (distinct_items lines)
unfolding IsStrictlySortedBy
Rises-distinct_items [] = tt
Rises-distinct_items (line ∷ lines) = Rises-insert_key line (distinct_items lines) (Rises-distinct_items lines)

pub Contains-distinct_items : (lines : List (List ℕ)) (q : List ℕ) → Contains (distinct_items lines) q ↔ Contains lines q
Contains-distinct_items [] q = (λ h. h, λ h. h)
Contains-distinct_items (line ∷ lines) q =
    let added = Contains-insert_key line (distinct_items lines) q in
    let rest = Contains-distinct_items lines q in (
      (λ among. ⊎_elim (λ is. subst (Contains (line ∷ lines)) is (Contains-here line lines)) (λ later. Contains-there line q lines (rest.0 later)) (added.0 among)),
      (λ among. added.1 (⊎_elim inl (λ later. inr (rest.1 later)) (Contains-cons_cases line q lines among))),
    )
