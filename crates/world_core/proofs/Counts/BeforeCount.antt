-- The log before a Count: what it is after the log gained entries, and of which logs it is a prefix.
use Rattle.std.proofs.Common.{◌≡◌, ℕ, zero, suc, ◌+◌, ◌≤◌, ◌<◌, Bool, true, false, cond, List, [], ◌∷◌, ◌++◌, length, filter, refl, ap, ◌∙◌, arith, length-append}
use Rattle.std.proofs.lemmas.List.Elements.{filter-append}
use Rattle.list_facts.specs.Prefix.{IsPrefix}
use Rattle.list_facts.proofs.Prefix.{prefix_append, prefix_refl}
use Rattle.world_core.specs.declared.entry.Entry.{Entry}
use Rattle.world_core.specs.Counts.{counts, before_count, puts_count}

pub counts-append : (xs ys : List Entry) → counts (xs ++ ys) ≡ counts xs + counts ys
counts-append xs ys = ap length (filter-append puts_count xs ys) ∙ length-append (filter puts_count xs) (filter puts_count ys)

pub counts_of_prefix : (xs ys : List Entry) → IsPrefix xs ys → counts xs ≤ counts ys
counts_of_prefix xs ys p = omega (arith, ap counts p.joined, counts-append xs p.rest)

-- ---- a log with this Count: what it gains changes nothing

same_first : (b : Bool) (e : Entry) (fs xs ys : List Entry) → 0 < length (cond b (e ∷ fs) fs) → (0 < length fs → xs ≡ ys) →
    cond b [] (e ∷ xs) ≡ cond b [] (e ∷ ys)
same_first true e fs xs ys lt f = refl
same_first false e fs xs ys lt f = ap (λ zs. e ∷ zs) (f lt)

same_later : (b : Bool) (e : Entry) (q : ℕ) (fs xs ys xs' ys' : List Entry) → suc q < length (cond b (e ∷ fs) fs) →
    (q < length fs → xs ≡ ys) → (suc q < length fs → xs' ≡ ys') → cond b xs xs' ≡ cond b ys ys'
same_later true e q fs xs ys xs' ys' lt f g = f (omega (arith, lt))
same_later false e q fs xs ys xs' ys' lt f g = g lt

pub before_stands : (q : ℕ) (log more : List Entry) → q < counts log → before_count q (log ++ more) ≡ before_count q log
before_stands q [] more lt = absurd (omega (arith, lt))
before_stands zero (e ∷ log) more lt = same_first (puts_count e) e (filter puts_count log) _ _ lt (before_stands zero log more)
before_stands (suc q) (e ∷ log) more lt =
    ap (λ zs. e ∷ zs) (same_later (puts_count e) e q (filter puts_count log) _ _ _ _ lt (before_stands q log more) (before_stands (suc q) log more))

-- ---- a log without it: all of the log

all_first : (b : Bool) (e : Entry) (fs xs ys : List Entry) → length (cond b (e ∷ fs) fs) ≤ 0 → (length fs ≤ 0 → xs ≡ ys) →
    cond b [] (e ∷ xs) ≡ e ∷ ys
all_first true e fs xs ys le f = absurd (omega (arith, le))
all_first false e fs xs ys le f = ap (λ zs. e ∷ zs) (f le)

all_later : (b : Bool) (e : Entry) (q : ℕ) (fs xs xs' ys : List Entry) → length (cond b (e ∷ fs) fs) ≤ suc q →
    (length fs ≤ q → xs ≡ ys) → (length fs ≤ suc q → xs' ≡ ys) → cond b xs xs' ≡ ys
all_later true e q fs xs xs' ys le f g = f (omega (arith, le))
all_later false e q fs xs xs' ys le f g = g le

pub before_all : (q : ℕ) (log : List Entry) → counts log ≤ q → before_count q log ≡ log
before_all q [] le = refl
before_all zero (e ∷ log) le = all_first (puts_count e) e (filter puts_count log) _ _ le (before_all zero log)
before_all (suc q) (e ∷ log) le =
    ap (λ zs. e ∷ zs) (all_later (puts_count e) e q (filter puts_count log) _ _ _ le (before_all q log) (before_all (suc q) log))

-- ---- a log that gains it

this_first : (b : Bool) (e : Entry) (fs xs ys : List Entry) → length (cond b (e ∷ fs) fs) ≡ 0 → (length fs ≡ 0 → xs ≡ ys) →
    cond b [] (e ∷ xs) ≡ e ∷ ys
this_first true e fs xs ys is f = absurd (omega (arith, is))
this_first false e fs xs ys is f = ap (λ zs. e ∷ zs) (f is)

this_later : (b : Bool) (e : Entry) (q : ℕ) (fs xs xs' ys : List Entry) → length (cond b (e ∷ fs) fs) ≡ suc q →
    (length fs ≡ q → xs ≡ ys) → (length fs ≡ suc q → xs' ≡ ys) → cond b xs xs' ≡ ys
this_later true e q fs xs xs' ys is f g = f (omega (arith, is))
this_later false e q fs xs xs' ys is f g = g is

pub before_this : (q : ℕ) (log : List Entry) (x : Entry) → counts log ≡ q → puts_count x ≡ true → before_count q (log ++ x ∷ []) ≡ log
before_this zero [] x is count = rw count refl
before_this (suc q) [] x is count = absurd (omega (arith, is))
before_this zero (e ∷ log) x is count = this_first (puts_count e) e (filter puts_count log) _ _ is (λ h. before_this zero log x h count)
before_this (suc q) (e ∷ log) x is count =
    ap (λ zs. e ∷ zs) (this_later (puts_count e) e q (filter puts_count log) _ _ _ is
    (λ h. before_this q log x h count) (λ h. before_this (suc q) log x h count))

-- ---- prefixes

prefix_cons : (e : Entry) (xs ys : List Entry) → IsPrefix xs ys → IsPrefix (e ∷ xs) (e ∷ ys)
prefix_cons e xs ys p = record { rest = p.rest; joined = ap (λ zs. e ∷ zs) p.joined }

prefix_either : (b : Bool) (xs ys xs' ys' : List Entry) → IsPrefix xs ys → IsPrefix xs' ys' → IsPrefix (cond b xs xs') (cond b ys ys')
prefix_either true xs ys xs' ys' p p' = p
prefix_either false xs ys xs' ys' p p' = p'

prefix_next : (b : Bool) (e : Entry) (xs ys ys' : List Entry) → IsPrefix xs ys → IsPrefix (cond b [] (e ∷ xs)) (e ∷ cond b ys' ys)
prefix_next true e xs ys ys' p = prefix_append [] (e ∷ ys')
prefix_next false e xs ys ys' p = prefix_cons e xs ys p

-- the log before a Count is a prefix of the log before the next one
pub before_next : (q : ℕ) (log : List Entry) → IsPrefix (before_count q log) (before_count (suc q) log)
before_next q [] = prefix_refl []
before_next zero (e ∷ log) = prefix_next (puts_count e) e _ _ _ (before_next zero log)
before_next (suc q) (e ∷ log) =
    prefix_cons e _ _ (prefix_either (puts_count e) _ _ _ _ (before_next q log) (before_next (suc q) log))

prefix_part : (b : Bool) (e : Entry) (xs ys : List Entry) → IsPrefix xs ys → IsPrefix (cond b [] (e ∷ xs)) (e ∷ ys)
prefix_part true e xs ys p = prefix_append [] (e ∷ ys)
prefix_part false e xs ys p = prefix_cons e xs ys p

prefix_both : (b : Bool) (xs xs' ys : List Entry) → IsPrefix xs ys → IsPrefix xs' ys → IsPrefix (cond b xs xs') ys
prefix_both true xs xs' ys p p' = p
prefix_both false xs xs' ys p p' = p'

-- and of the log
pub before_part : (q : ℕ) (log : List Entry) → IsPrefix (before_count q log) log
before_part q [] = prefix_refl []
before_part zero (e ∷ log) = prefix_part (puts_count e) e _ _ (before_part zero log)
before_part (suc q) (e ∷ log) =
    prefix_cons e _ _ (prefix_both (puts_count e) _ _ _ (before_part q log) (before_part (suc q) log))

prefix_grows : (b : Bool) (e : Entry) (xs ys : List Entry) → IsPrefix xs ys → IsPrefix (cond b [] (e ∷ xs)) (cond b [] (e ∷ ys))
prefix_grows true e xs ys p = prefix_refl []
prefix_grows false e xs ys p = prefix_cons e xs ys p

-- and of the log before that Count after the log gained entries
pub before_grows : (q : ℕ) (log more : List Entry) → IsPrefix (before_count q log) (before_count q (log ++ more))
before_grows q [] more = prefix_append [] (before_count q more)
before_grows zero (e ∷ log) more = prefix_grows (puts_count e) e _ _ (before_grows zero log more)
before_grows (suc q) (e ∷ log) more =
    prefix_cons e _ _ (prefix_either (puts_count e) _ _ _ _ (before_grows q log more) (before_grows (suc q) log more))
