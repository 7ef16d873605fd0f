-- What a rank has to forward, and its first letter.
use Rattle.std.proofs.Common.{◌≡◌, ◌≢◌, ℕ, Bool, true, false, not, nat_eq, nat_lt, lt-ltb, le-ltb, List, [], ◌∷◌, ◌++◌, length, drop, refl, eq-eqb, ltb-true, ne_eqb, if◌then◌else◌, ◌≤◌, ◌&&◌, sym, ap, ◌∙◌, subst, append_assoc, arith, length-append, length-drop, inl, inr, zero, suc, ◌+◌, Some, slice_get}
use Rattle.msg_codec.specs.declared.letter.Letter.{Letter}
use Rattle.world_core.specs.Local.{Local, is_rank, having_put, to_forward}
use Rattle.world_core.specs.Pairs.{pair_put, pair_taken, of_pair}
use Rattle.world_core.specs.Rules.{is_first_of, same_letter}
use Rattle.list_facts.proofs.Tests.{and_first, and_second}
use Rattle.std.proofs.Math.Seq.{drop-append_seam}
use Rattle.std.proofs.lemmas.Bool.{cases_lt}
use Rattle.std.proofs.lemmas.List.{drop_all}
use Rattle.list_facts.specs.Prefix.{IsPrefix}
use Rattle.world_core.proofs.Local.Between.{IsThird, not_equal}
use Rattle.world_core.proofs.Pairs.Appended.{pair_put-put, pair_taken-put}
use Rattle.world_core.proofs.Deeds.SameLetter.{same_letter-is}

first_if : (b : Bool) (xs : List Letter) (l : Letter) → is_first_of (if b then xs else []) l ≡ true → (b ≡ true) × (is_first_of xs l ≡ true)
first_if true xs l h = (refl, h)
first_if false xs l h = absurd cc

-- What a rank forwards is neither its own nor for itself, and is the first after what it put.
pub record IsForwarded (me : Local) (s d : ℕ) (l : Letter) : Type 0 where
  pub not_sender : me.here ≢ s
  pub not_destination : me.here ≢ d
  pub first : is_first_of (drop (length (pair_put s d me.log)) (pair_taken s d me.log)) l ≡ true

pub forwarding : (me : Local) (s d : ℕ) (l : Letter) → is_first_of (to_forward me s d) l ≡ true → IsForwarded me s d l
unfolding to_forward
forwarding me s d l h =
    let both = first_if _ _ l h in
    record {
      not_sender = not_equal _ _ (and_second _ _ (and_first _ _ both.0));
      not_destination = not_equal _ _ (and_second _ _ both.0);
      first = both.1;
    }

-- what a rank put, with the next letter of a longer list
pub goes_on : (put rest : List Letter) (l : Letter) → is_first_of rest l ≡ true → IsPrefix (put ++ l ∷ []) (put ++ rest)
goes_on put [] l h = absurd cc
goes_on put (f ∷ more) l h = record { rest = more; joined = append_assoc put (l ∷ []) more ∙ ap (λ x. put ++ x ∷ more) (sym (same_letter-is f l h)) }

pub next_prefix : (put taken : List Letter) (l : Letter) → IsPrefix put taken → is_first_of (drop (length put) taken) l ≡ true → IsPrefix (put ++ l ∷ []) taken
next_prefix put taken l p h =
    let rest : drop (length put) taken ≡ p.rest = ap (drop (length put)) (sym p.joined) ∙ drop-append_seam put p.rest in
    let P : List Letter → Type 0 = λ xs. is_first_of xs l ≡ true in
    let Q : List Letter → Type 0 = IsPrefix (put ++ l ∷ []) in
    subst Q p.joined (goes_on put p.rest l (subst P rest h))

pub is_first : (xs : List Letter) (n : ℕ) (x l : Letter) → slice_get xs n ≡ Some x → is_first_of (drop n xs) l ≡ same_letter x l
is_first [] n x l h = absurd cc
is_first (y ∷ xs) zero x l h = let same : y ≡ x = cc in ap (λ z. same_letter z l) same
is_first (y ∷ xs) (suc n) x l h = is_first xs n x l h

pub none_first : (xs : List Letter) (n : ℕ) (l : Letter) → length xs ≤ n → is_first_of (drop n xs) l ≡ false
none_first [] zero l h = refl
none_first [] (suc n) l h = refl
none_first (y ∷ xs) zero l h = absurd (omega arith)
none_first (y ∷ xs) (suc n) l h = none_first xs n l (omega arith)

-- whether a rank may have something to forward for a pair: both are ranks, and it is neither
abbrev pub may_forward : Local → ℕ → ℕ → Bool
may_forward me s d = is_rank me.layout s && is_rank me.layout d && not (nat_eq me.here s) && not (nat_eq me.here d)

pub forwards_between : (me : Local) (s d : ℕ) → is_rank me.layout s ≡ true → is_rank me.layout d ≡ true → me.here ≢ s → me.here ≢ d → may_forward me s d ≡ true
forwards_between me s d from to not_s not_d =
    let other_s : nat_eq me.here s ≡ false = ne_eqb _ _ not_s in
    let other_d : nat_eq me.here d ≡ false = ne_eqb _ _ not_d in
    rw (from, to, other_s, other_d) refl

module _ (me : Local) (to : ℕ) (before : List Letter) (s d n : ℕ) (count : n ≡ length (pair_put s d me.log) + length (of_pair s d before)) where
  same_rest : drop (length (pair_put s d (having_put me to before).log)) (pair_taken s d (having_put me to before).log) ≡ drop n (pair_taken s d me.log)
  same_rest =
      let put : length (pair_put s d (having_put me to before).log) ≡ n = ap length (pair_put-put s d me.log to before) ∙ length-append (pair_put s d me.log) (of_pair s d before) ∙ sym count in
      ap (λ m. drop m (pair_taken s d (having_put me to before).log)) put ∙ ap (drop n) (pair_taken-put s d me.log to before)

  pub next_held : (x l : Letter) → may_forward me s d ≡ true → slice_get (pair_taken s d me.log) n ≡ Some x →
      is_first_of (to_forward (having_put me to before) s d) l ≡ same_letter x l
  unfolding to_forward
  next_held x l between h = rw between (ap (λ xs. is_first_of xs l) same_rest ∙ is_first (pair_taken s d me.log) n x l h)

  pub next_none : (l : Letter) → length (pair_taken s d me.log) ≤ n → is_first_of (to_forward (having_put me to before) s d) l ≡ false
  unfolding to_forward
  next_none l few = either (may_forward me s d)
    where
      either : (b : Bool) → is_first_of (if b then drop (length (pair_put s d (having_put me to before).log)) (pair_taken s d (having_put me to before).log) else []) l ≡ false
      either true = ap (λ xs. is_first_of xs l) same_rest ∙ none_first (pair_taken s d me.log) n l few
      either false = refl

-- it may not for letters of its own, nor for letters for itself
pub no_own : (me : Local) (s d : ℕ) → s ≡ me.here → may_forward me s d ≡ false
no_own me s d e =
    let same : nat_eq me.here s ≡ true = eq-eqb _ _ (sym e) in
    either (is_rank me.layout s && is_rank me.layout d) (nat_eq me.here s) (not (nat_eq me.here d)) same
  where
    either : (a b c : Bool) → b ≡ true → (a && not b && c) ≡ false
    either true b c h = rw h refl
    either false b c h = refl

pub none_for_itself : (me : Local) (s d : ℕ) → d ≡ me.here → may_forward me s d ≡ false
none_for_itself me s d e =
    let same : nat_eq me.here d ≡ true = eq-eqb _ _ (sym e) in
    either (is_rank me.layout s && is_rank me.layout d && not (nat_eq me.here s)) (nat_eq me.here d) same
  where
    either : (a b : Bool) → b ≡ true → (a && not b) ≡ false
    either true b h = rw h refl
    either false b h = refl

-- a rank forwards nothing for a pair that it may not forward for
forwards_none : (me : Local) (s d : ℕ) (l : Letter) → may_forward me s d ≡ false → is_first_of (to_forward me s d) l ≡ false
unfolding to_forward
forwards_none me s d l h = rw h refl

pub not_own : (me : Local) (s d : ℕ) (l : Letter) → d ≡ me.here → is_first_of (to_forward me s d) l ≡ false
not_own me s d l e = forwards_none me s d l (none_for_itself me s d e)

pub not_sender : (me : Local) (s d : ℕ) (l : Letter) → s ≡ me.here → is_first_of (to_forward me s d) l ≡ false
not_sender me s d l e = forwards_none me s d l (no_own me s d e)

-- a rank that may forward for a pair is neither of the two
forwards_third : (me : Local) (s d : ℕ) → may_forward me s d ≡ true → IsThird me.layout s d me.here
forwards_third me s d h =
    let others : (is_rank me.layout s && is_rank me.layout d && not (nat_eq me.here s)) ≡ true = and_first _ _ h in
    let both : (is_rank me.layout s && is_rank me.layout d) ≡ true = and_first _ _ others in
    record {
      from_within = ltb-true s me.layout.ranks (and_first _ _ both);
      to_within = ltb-true d me.layout.ranks (and_second _ _ both);
      not_sender = not_equal me.here s (and_second _ _ others);
      not_destination = not_equal me.here d (and_second _ _ h);
    }

none_if : (b : Bool) (xs : List Letter) → (b ≡ true → xs ≡ []) → (if b then xs else []) ≡ []
none_if true xs f = f refl
none_if false xs f = refl

-- a rank that put as many letters of a pair as it took has none to forward
pub none_to_forward : (me : Local) (s d : ℕ) → (IsThird me.layout s d me.here → length (pair_taken s d me.log) ≤ length (pair_put s d me.log)) →
    to_forward me s d ≡ []
unfolding to_forward
none_to_forward me s d few = none_if (may_forward me s d) _ (λ h. drop_all _ _ (few (forwards_third me s d h)))

-- ---- whether a rank has something to forward

-- nothing is left of a list where as many are dropped
drop_left : (xs : List Letter) (n : ℕ) → nat_lt n (length xs) ≡ nat_lt 0 (length (drop n xs))
drop_left xs n = elim (cases_lt n (length xs)) [
  | inl less ↦ lt-ltb n (length xs) less ∙ sym (lt-ltb 0 (length (drop n xs)) (simp length-drop (omega arith)))
  | inr most ↦ le-ltb n (length xs) most ∙ sym (le-ltb 0 (length (drop n xs)) (simp length-drop (omega arith)))
]

pub forwards_some : (me : Local) (s d : ℕ) → may_forward me s d ≡ true →
    nat_lt (length (pair_put s d me.log)) (length (pair_taken s d me.log)) ≡ nat_lt 0 (length (to_forward me s d))
unfolding to_forward
forwards_some me s d may = rw may (drop_left (pair_taken s d me.log) (length (pair_put s d me.log)))

pub forwards_nothing : (me : Local) (s d : ℕ) → may_forward me s d ≡ false → nat_lt 0 (length (to_forward me s d)) ≡ false
unfolding to_forward
forwards_nothing me s d h = rw h refl
