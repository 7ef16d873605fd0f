-- Prefixes and suffixes of a list.
use Rattle.std.proofs.Common.{◌≡◌, ℕ, ◌-◌, ◌≤◌, Bool, List, [], ◌∷◌, ◌++◌, length, take, drop, filter, flat_map, refl, sym, ap, ◌∙◌, append_assoc, append-nil, arith, length-append}
use Rattle.std.proofs.Math.Seq.{take-append_seam}
use Rattle.std.proofs.lemmas.Grind.{flat_map-append}
use Rattle.std.proofs.lemmas.List.{drop_at, take-append-drop}
use Rattle.std.proofs.lemmas.List.Elements.{filter-append}
use Rattle.list_facts.specs.Prefix.{IsPrefix, IsSuffix}

-- ---- prefixes

pub prefix_refl : {X : Type 0} (xs : List X) → IsPrefix xs xs
prefix_refl xs = record { rest = []; joined = append-nil xs }

pub prefix_append : {X : Type 0} (xs more : List X) → IsPrefix xs (xs ++ more)
prefix_append xs more = record { rest = more; joined = refl }

pub prefix_take : {X : Type 0} (count : ℕ) (xs : List X) → IsPrefix (take count xs) xs
prefix_take count xs = record { rest = drop count xs; joined = take-append-drop count xs }

pub prefix_is_take : {X : Type 0} {xs ys : List X} → IsPrefix xs ys → xs ≡ take (length xs) ys
prefix_is_take {X} {xs} p = sym (take-append_seam xs p.rest) ∙ ap (take (length xs)) p.joined

pub prefix_trans : {X : Type 0} {xs ys zs : List X} → IsPrefix xs ys → IsPrefix ys zs → IsPrefix xs zs
prefix_trans {X} {xs} p q = record {
  rest = p.rest ++ q.rest;
  joined = sym (append_assoc xs p.rest q.rest) ∙ ap (λ ws. ws ++ q.rest) p.joined ∙ q.joined;
}

-- the list goes on
pub prefix_longer : {X : Type 0} {xs ys : List X} (more : List X) → IsPrefix xs ys → IsPrefix xs (ys ++ more)
prefix_longer {X} {xs} more p = record {
  rest = p.rest ++ more;
  joined = sym (append_assoc xs p.rest more) ∙ ap (λ ws. ws ++ more) p.joined;
}

pub prefix_length : {X : Type 0} {xs ys : List X} → IsPrefix xs ys → length xs ≤ length ys
prefix_length {X} {xs} p = omega (arith, length-append xs p.rest, ap length p.joined)

pub prefix_filter : {X : Type 0} {xs ys : List X} (test : X → Bool) → IsPrefix xs ys → IsPrefix (filter test xs) (filter test ys)
prefix_filter {X} {xs} test p = record {
  rest = filter test p.rest;
  joined = sym (filter-append test xs p.rest) ∙ ap (filter test) p.joined;
}

pub prefix_flat_map : {X Y : Type 0} {xs ys : List X} (f : X → List Y) → IsPrefix xs ys → IsPrefix (flat_map f xs) (flat_map f ys)
prefix_flat_map {X} {Y} {xs} f p = record {
  rest = flat_map f p.rest;
  joined = sym (flat_map-append f xs p.rest) ∙ ap (flat_map f) p.joined;
}

-- of lists that are joined end to end
pub prefix_joined : {X : Type 0} {xs ys : List (List X)} → IsPrefix xs ys → IsPrefix (flat_map (λ x. x) xs) (flat_map (λ x. x) ys)
prefix_joined p = prefix_flat_map (λ x. x) p

pub prefix_nil : {X : Type 0} {xs : List X} → IsPrefix xs [] → xs ≡ []
prefix_nil {X} {xs = []} p = refl
prefix_nil {X} {xs = x ∷ xs} p = absurd (let none = p.joined in cc)

-- no element follows
pub prefix_whole : {X : Type 0} {xs ys : List X} → IsPrefix xs ys → length ys ≤ length xs → xs ≡ ys
prefix_whole {X} {xs} {ys} p le = by_rest p.rest p.joined
  where
    by_rest : (rest : List X) → xs ++ rest ≡ ys → xs ≡ ys
    by_rest [] e = sym (append-nil xs) ∙ e
    by_rest (x ∷ rest) e = absurd (omega (arith, le, ap length e, length-append xs (x ∷ rest)))

pub prefix_both_ways : {X : Type 0} {xs ys : List X} → IsPrefix xs ys → IsPrefix ys xs → xs ≡ ys
prefix_both_ways p q = prefix_whole p (prefix_length q)

-- of two prefixes of a list, the shorter is a prefix of the longer
pub prefix_shorter : {X : Type 0} {xs ys zs : List X} → IsPrefix xs zs → IsPrefix ys zs → length xs ≤ length ys → IsPrefix xs ys
prefix_shorter {X} {xs = []} {ys = ys} p q le = record { rest = ys; joined = refl }
prefix_shorter {X} {xs = x ∷ xs} {ys = []} p q le = absurd (omega (arith, le))
prefix_shorter {X} {xs = x ∷ xs} {ys = y ∷ ys} {zs = []} p q le = absurd (let e = p.joined in cc)
prefix_shorter {X} {xs = x ∷ xs} {ys = y ∷ ys} {zs = z ∷ zs} p q le =
    let one = heads x z (xs ++ p.rest) zs p.joined in
    let two = heads y z (ys ++ q.rest) zs q.joined in
    let p' : IsPrefix xs zs = record { rest = p.rest; joined = one.1 } in
    let q' : IsPrefix ys zs = record { rest = q.rest; joined = two.1 } in
    let later : IsPrefix xs ys = prefix_shorter p' q' (omega (arith, le)) in
    record {
      rest = later.rest;
      joined = ap (λ h. h ∷ (xs ++ later.rest)) (one.0 ∙ sym two.0) ∙ ap (λ t. y ∷ t) later.joined;
    }
  where
    heads : (a b : X) (us vs : List X) → a ∷ us ≡ b ∷ vs → (a ≡ b) × (us ≡ vs)
    heads a b us vs e = (cc, cc)

-- ---- suffixes

pub suffix_refl : {X : Type 0} (xs : List X) → IsSuffix xs xs
suffix_refl xs = record { before = []; joined = refl }

pub suffix_append : {X : Type 0} (before xs : List X) → IsSuffix xs (before ++ xs)
suffix_append before xs = record { before = before; joined = refl }

pub suffix_drop : {X : Type 0} (count : ℕ) (xs : List X) → IsSuffix (drop count xs) xs
suffix_drop count xs = record { before = take count xs; joined = take-append-drop count xs }

pub suffix_is_drop : {X : Type 0} {xs ys : List X} → IsSuffix xs ys → xs ≡ drop (length ys - length xs) ys
suffix_is_drop {X} {xs} {ys} p =
    let count : length p.before ≡ length ys - length xs = omega (arith, length-append p.before xs, ap length p.joined) in
    sym (drop_at p.before xs (length ys - length xs) count) ∙ ap (drop (length ys - length xs)) p.joined

pub suffix_length : {X : Type 0} {xs ys : List X} → IsSuffix xs ys → length xs ≤ length ys
suffix_length {X} {xs} p = omega (arith, length-append p.before xs, ap length p.joined)

-- a list has one suffix of a length
pub suffix_same : {X : Type 0} {xs ys zs : List X} → IsSuffix xs zs → IsSuffix ys zs → length xs ≡ length ys → xs ≡ ys
suffix_same {X} {xs} {ys} {zs} p q same =
    suffix_is_drop p ∙ ap (λ n. drop (length zs - n) zs) same ∙ sym (suffix_is_drop q)

-- ---- for the laws

pub ruleset cuts = (prefix_take, prefix_is_take, suffix_drop, suffix_is_drop)

pub ruleset order = (prefix_refl, prefix_trans, prefix_both_ways, prefix_shorter)
