-- How each step keeps the words and the slots of one link.
use Rattle.std.proofs.Common.{◌≡◌, ◌≢◌, ℕ, ◌+◌, ◌%◌, ◌<◌, ◌≤◌, Bool, true, false, true≢false, List, [], ◌∷◌, ◌++◌, length, set, Option, Some, refl, sym, ap, ◌∙◌, subst, arith, length-append, mod-lt, le_refl, lt_of_not-le}
use mathlib.Core.Option.{some, none}
use native.Mathlib.Decide.{dec_le, ℕ_discrete}
use native.Mathlib.Nat.{add-mod_right}
use lib.ListN.{get_elem?}
use Rattle.atomic_table.proofs.Lists.{set_here, set_else, one_turn}
use Rattle.list_facts.proofs.Prefix.{prefix_length, prefix_longer}
use Rattle.mail_table.specs.OneLink.{Homes, Holds, LinkAgrees, one_if}
use Rattle.mail_table.proofs.Found.{found_before, found_below, found_last, found_there, prefix_found}

-- two numbers less than n apart, in either order, with one remainder
near : (a b n : ℕ) → Dec (a ≤ b) → b < a + n → a < b + n → a % n ≡ b % n → a ≡ b
near a b n (yes le) lt gt e = one_turn a b n le lt e
near a b n (no gt) _ lt e = let h : b < a = lt_of_not-le gt in let h' : b ≤ a = omega arith in sym (one_turn b a n h' lt (sym e))

-- slots of different numbers of one turn are apart
apart : (base n a b : ℕ) → b < a + n → a < b + n → a ≢ b → base + b % n ≢ base + a % n
apart base n a b lt gt other e =
    other (near a b n (dec_le a b) lt gt (let x : ℕ = a % n in let y : ℕ = b % n in let e' : base + y ≡ base + x = e in let same : x ≡ y = omega arith in same))

off : {P : Type 0} → false ≡ true → P
off e = absurd (true≢false (sym e))

module _ {X : Type 0} (ring base : ℕ) (pos : 0 < ring) (homes : Homes X) (wide : base + ring ≤ length homes) (put : List X) where
  inside : (t : ℕ) → base + t % ring < length homes
  inside t = let below : t % ring < ring = mod-lt t pos in let r : ℕ = t % ring in let below' : r < ring = below in omega arith

  -- the sender takes the slot of the next batch
  pub fills : (tail head : ℕ) (taken : List X) (emptying : Bool) → LinkAgrees ring base homes tail head put false taken emptying → length put < head + ring →
      (value : Option X) × (get_elem? homes (base + length put % ring) ≡ some (some value))
      × LinkAgrees ring base (set homes (base + length put % ring) none) tail head put true taken emptying
  fills tail head taken emptying ok roomy =
      let p : ℕ = length put in let t0 : ℕ = length taken in let within : t0 ≤ p = prefix_length ok.taken_are in
      let got = ok.at_home p within roomy off in
      let o : ℕ = one_if emptying in let is : t0 ≡ head + o = ok.head_is in (
        got.0,
        got.1,
        record {
          tail_is = ok.tail_is;
          head_is = ok.head_is;
          taken_are = ok.taken_are;
          room = (let enough : p + 1 ≤ head + ring = omega arith in enough);
          at_home = λ t low high apart_.
              let other : t ≢ p = apart_ refl in
              let l : t0 ≤ t = low in
              let old = ok.at_home t low high off in
              (old.0, set_else homes (base + p % ring) (base + t % ring) none (apart base ring p t (omega arith) (omega arith) (λ e. other (sym e))) ∙ old.1, old.2);
        },
      )

  -- the sender gives the slot back with the batch, which is put
  pub puts : (tail head : ℕ) (taken : List X) (emptying : Bool) (x : X) (tail' : ℕ) → tail' ≡ length put + 1 → LinkAgrees ring base homes tail head put true taken emptying →
      LinkAgrees ring base (set homes (base + length put % ring) (some (Some x))) tail' head (put ++ x ∷ []) false taken emptying
  puts tail head taken emptying x tail' next ok =
      let p : ℕ = length put in let q : ℕ = length (put ++ x ∷ []) in let more : q ≡ p + 1 = length-append put (x ∷ []) in
      let room : p + 1 ≤ head + ring = ok.room in record {
        tail_is = next ∙ sym more;
        head_is = ok.head_is;
        taken_are = prefix_longer (x ∷ []) ok.taken_are;
        room = (let enough : q + 0 ≤ head + ring = omega arith in enough);
        at_home = λ t low high _. home_of t low high (ℕ_discrete t p);
      }
    where
      home_of : (t : ℕ) → length taken ≤ t → t < head + ring → Dec (t ≡ length put) →
          (value : Option X) × (get_elem? (set homes (base + length put % ring) (some (Some x))) (base + t % ring) ≡ some (some value)) × Holds (put ++ x ∷ []) t value
      home_of t low high (yes e) = (
        Some x,
        subst (λ (s : ℕ). get_elem? (set homes (base + length put % ring) (some (Some x))) (base + s % ring) ≡ some (some (Some x))) (sym e)
            (set_here homes (base + length put % ring) (some (Some x)) (inside (length put))),
        λ z at. ap Some (found_last put x z (subst (λ (s : ℕ). get_elem? (put ++ x ∷ []) s ≡ some z) e at)),
      )
      home_of t low high (no other) =
          let p : ℕ = length put in let t0 : ℕ = length taken in let within : t0 ≤ p = prefix_length ok.taken_are in let room : p + 1 ≤ head + ring = ok.room in
          let o : ℕ = one_if emptying in let is : t0 ≡ head + o = ok.head_is in
          let old = ok.at_home t low high (λ _. other) in (
            old.0,
            set_else homes (base + p % ring) (base + t % ring) (some (Some x)) (apart base ring p t (omega arith) (omega arith) (λ e. other (sym e))) ∙ old.1,
            λ z at. old.2 z (found_before put x z t at other),
          )

  -- the receiver takes the slot of the next batch, and so the batch
  pub takes : (tail head : ℕ) (taken : List X) (filling : Bool) → LinkAgrees ring base homes tail head put filling taken false → length taken < length put →
      (x : X) × (get_elem? put (length taken) ≡ some x) × (get_elem? homes (base + length taken % ring) ≡ some (some (Some x)))
      × LinkAgrees ring base (set homes (base + length taken % ring) none) tail head put filling (taken ++ x ∷ []) true
  takes tail head taken filling ok there =
      let p : ℕ = length put in let t0 : ℕ = length taken in let f : ℕ = one_if filling in let room : p + f ≤ head + ring = ok.room in let is : t0 ≡ head + 0 = ok.head_is in
      let x = found_there put t0 there in
      let q : ℕ = length (taken ++ x.0 ∷ []) in let more : q ≡ t0 + 1 = length-append taken (x.0 ∷ []) in
      let got = ok.at_home t0 (le_refl t0) (omega arith) (λ _ e. omega arith) in (
        x.0,
        x.1,
        subst (λ (y : Option X). get_elem? homes (base + t0 % ring) ≡ some (some y)) (got.2 x.0 x.1) got.1,
        record {
          tail_is = ok.tail_is;
          head_is = (let next : q ≡ head + 1 = omega arith in next);
          taken_are = prefix_found taken put x.0 ok.taken_are x.1;
          room = ok.room;
          at_home = λ t low high free.
              let l : q ≤ t = low in
              let old = ok.at_home t (omega arith) high free in
              (old.0, set_else homes (base + t0 % ring) (base + t % ring) none (apart base ring t0 t (omega arith) (omega arith) (λ e. omega arith)) ∙ old.1, old.2);
        },
      )

  -- the receiver gives back the slot of the last batch that it took
  pub frees : (tail head : ℕ) (taken : List X) (filling : Bool) (y : Option X) (head' k : ℕ) → head' ≡ length taken → length taken ≡ k + 1 → LinkAgrees ring base homes tail head put filling taken true →
      LinkAgrees ring base (set homes (base + k % ring) (some y)) tail head' put filling taken false
  frees tail head taken filling y head' k next before ok =
      let p : ℕ = length put in let t0 : ℕ = length taken in let f : ℕ = one_if filling in let room : p + f ≤ head + ring = ok.room in let is : t0 ≡ head + 1 = ok.head_is in
      let next' : head' ≡ t0 = next in record {
        tail_is = ok.tail_is;
        head_is = (let now : t0 ≡ head' + 0 = omega arith in now);
        taken_are = ok.taken_are;
        room = (let enough : p + f ≤ head' + ring = omega arith in enough);
        at_home = λ t low high free. home_of t low high free (ℕ_discrete t (k + ring));
      }
    where
      home_of : (t : ℕ) → length taken ≤ t → t < head' + ring → (filling ≡ true → t ≢ length put) → Dec (t ≡ k + ring) →
          (value : Option X) × (get_elem? (set homes (base + k % ring) (some y)) (base + t % ring) ≡ some (some value)) × Holds put t value
      home_of t low high free (yes e) = (
        y,
        subst (λ (s : ℕ). get_elem? (set homes (base + k % ring) (some y)) (base + s) ≡ some (some y)) (sym (ap (λ (s : ℕ). s % ring) e ∙ add-mod_right k ring))
            (set_here homes (base + k % ring) (some y) (inside k)),
        λ x at. let p : ℕ = length put in let t0 : ℕ = length taken in let f : ℕ = one_if filling in let room : p + f ≤ head + ring = ok.room in
            let is : t0 ≡ head + 1 = ok.head_is in let was : t0 ≡ k + 1 = before in let b : t < p = found_below put t x at in absurd (omega arith),
      )
      home_of t low high free (no other) =
          let t0 : ℕ = length taken in let is : t0 ≡ head + 1 = ok.head_is in let was : t0 ≡ k + 1 = before in let next' : head' ≡ t0 = next in let l : t0 ≤ t = low in
          let ne : t ≢ k + ring = other in
          let h : t < head' + ring = high in
          let below : t < head + ring = omega arith in
          let old = ok.at_home t low below free in
          (old.0, set_else homes (base + k % ring) (base + t % ring) (some y) (apart base ring k t (omega arith) (omega arith) (λ e. omega arith)) ∙ old.1, old.2)

-- a link whose words and slots are unchanged
pub stays : {X : Type 0} (ring base : ℕ) (homes homes' : Homes X) (tail head tail' head' : ℕ) (put : List X) (filling : Bool) (taken : List X) (emptying : Bool) → tail' ≡ tail → head' ≡ head →
    ((t : ℕ) → get_elem? homes' (base + t % ring) ≡ get_elem? homes (base + t % ring)) → LinkAgrees ring base homes tail head put filling taken emptying → LinkAgrees ring base homes' tail' head' put filling taken emptying
stays ring base homes homes' tail head tail' head' put filling taken emptying e f same ok =
    let h : head' ≡ head = f in let o : ℕ = one_if emptying in let g : ℕ = one_if filling in let p : ℕ = length put in let t0 : ℕ = length taken in
    let is : t0 ≡ head + o = ok.head_is in let room : p + g ≤ head + ring = ok.room in record {
      tail_is = e ∙ ok.tail_is;
      head_is = (let now : t0 ≡ head' + o = omega arith in now);
      taken_are = ok.taken_are;
      room = (let enough : p + g ≤ head' + ring = omega arith in enough);
      at_home = λ t low high free. let hi : t < head' + ring = high in let old = ok.at_home t low (omega arith) free in (old.0, same t ∙ old.1, old.2);
    }
