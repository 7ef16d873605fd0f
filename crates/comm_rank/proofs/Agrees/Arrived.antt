-- What a log has after it gained a take, and what ran then.
use Rattle.std.proofs.Common.{◌≡◌, ◌≢◌, ℕ, ◌-◌, ◌<◌, ◌≤◌, ◌==◌, lt-ltb, ne_eqb, Bool, true, false, cond, ◌&&◌, ◌||◌, not, is_some, Some, None, nat_eq, eqb-true, eq-eqb, List, [], ◌∷◌, ◌++◌, length, take, drop, refl, sym, ap, ◌∙◌, subst, inl, inr, arith, append-nil, length-append, if◌then◌else◌}
use Rattle.std.specs.Bool.{IsTrue}
use Rattle.std.specs.List.{AllByRecursion, filter, list_any}
use Rattle.std.proofs.Math.Seq.{take-append_seam}
use Rattle.std.proofs.lemmas.Bool.{cases_eq, false_from_ne_true, false≢true}
use Rattle.std.proofs.lemmas.List.{drop-append-le}
use Rattle.std.proofs.lemmas.List.Elements.{filter-append}
use Rattle.msg_codec.specs.Control.{control_of_letter, is_control, is_count, is_total, round_of, sent_of, run_of}
use Rattle.msg_codec.specs.declared.control.Control.TheVariants.{Count, Total}
use Rattle.msg_codec.specs.declared.letter.Letter.{Letter}
use Rattle.ygm_route.specs.Layout.{IsLayout}
use Rattle.world_core.specs.declared.entry.Entry.{Entry}
use Rattle.world_core.specs.declared.entry.Entry.TheVariants.{Took}
use Rattle.world_core.specs.ControlRules.{wrong_control}
use Rattle.world_core.specs.Local.{Local, is_rank, local_rank, to_forward}
use Rattle.world_core.specs.Log.{letters_taken}
use Rattle.world_core.specs.Modest.{IsLawful, IsModest}
use Rattle.world_core.specs.Pairs.{arrived, for_rank, is_data, is_of_pair, of_pair, pair_put, pair_taken, sent_number}
use Rattle.world_core.proofs.Local.ToForward.{forwards_between, may_forward, none_for_itself}
use Rattle.world_core.proofs.Pairs.Appended.{pair_put-took, pair_taken-took}
use Rattle.world_core.proofs.Pairs.Numbers.{sent_number-append, sent_number-nil, sent_number-one}
use Rattle.world_core.proofs.Pairs.OfPair.{pair_of}
use Rattle.world_core.proofs.Log.Appended.{letters_taken-took}
use Rattle.world_core.proofs.Deeds.TwoKinds.{control_not_data, data_not_count, data_not_total}
use Rattle.world_core.proofs.Modest.Lawful.{batch_kind, lawful_batch}
use Rattle.list_facts.proofs.Elements.{all_second, all_weaker, both_of}
use Rattle.list_facts.proofs.Filters.{filter_none, filter_within}
use Rattle.list_facts.proofs.Tests.{and_first, and_second, or_false_first}
use Rattle.comm_rank.specs.Rank.{Rank, ran_at}
use Rattle.comm_rank.specs.Running.{IsControl, IsOf, IsTaken, begins_with_control, elsewhere, for_handlers}
use Rattle.comm_rank.proofs.Agrees.NoneReturns.{are_taken}

-- ---- letters of a rank

-- each data letter of a rank counts for it
pub own_one : (here : ℕ) (l : Letter) → IsTrue (is_data l) → l.from ≡ here → sent_number here (l ∷ []) ≡ 1
own_one here l tagged mine = let e : nat_eq l.from here ≡ true = eq-eqb _ _ mine in sent_number-one here l true (rw (tagged, e) refl)

pub own_number : (here : ℕ) (xs : List Letter) → AllByRecursion (IsOf here) xs → sent_number here xs ≡ length xs
own_number here [] h = sent_number-nil here
own_number here (x ∷ xs) h = omega (arith, sent_number-append here (x ∷ []) xs, own_one here x h.0.tag h.0.sender, own_number here xs h.1)

pub none_of_others : (here from to : ℕ) (xs : List Letter) → from ≢ here → AllByRecursion (IsOf here) xs → of_pair from to xs ≡ []
none_of_others here from to xs ne all =
    filter_none (is_of_pair from to) xs (all_weaker (IsOf here) (λ l. is_of_pair from to l ≡ false) xs
    (λ l h. false_from_ne_true _ (λ yes. ne (sym (eqb-true _ _ (and_second _ _ (and_first _ _ yes))) ∙ h.sender))) all)

-- ---- a take

pub arrived-took : (here : ℕ) (log : List Entry) (from : ℕ) (batch : List Letter) → arrived here (log ++ Took from batch ∷ []) ≡ arrived here log ++ for_rank here batch
arrived-took here log from batch = ap (for_rank here) (letters_taken-took log from batch) ∙ filter-append _ (letters_taken log) batch

-- A batch brings a rank, one of so many, these data letters for handlers, and no others.
pub record Brings (ranks here : ℕ) (batch letters : List Letter) : Type 0 where
  pub taken : AllByRecursion (IsTaken ranks here) letters
  pub pairs : (s d : ℕ) → of_pair s d batch ≡ of_pair s d letters
  pub for_here : for_rank here batch ≡ for_rank here letters

-- a letter that isn't a data letter is for no handler
brings_none : (ranks here : ℕ) (l : Letter) → is_data l ≡ false → Brings ranks here (l ∷ []) []
brings_none ranks here l none = record { taken = tt; pairs = λ s d. rw none refl; for_here = rw none refl }

-- ---- what there is to forward

-- the letters of a pair, but for those for the rank
to_others : (here s d : ℕ) (letters : List Letter) → d ≢ here → of_pair s d (elsewhere here letters) ≡ of_pair s d letters
to_others here s d letters ne = filter_within (is_of_pair s d) (λ l. not (l.to == here)) letters (λ l yes. let away : nat_eq l.to here ≡ false = ne_eqb l.to here (λ e. ne (sym (pair_of s d l yes).1 ∙ e)) in rw away refl)

none_for_here : (here s : ℕ) (letters : List Letter) → of_pair s here (elsewhere here letters) ≡ []
none_for_here here s [] = refl
none_for_here here s (l ∷ letters) = by_test (nat_eq l.to here) refl (none_for_here here s letters)
  where
    by_test : (b : Bool) → nat_eq l.to here ≡ b → of_pair s here (elsewhere here letters) ≡ [] → of_pair s here (cond (not b) (l ∷ elsewhere here letters) (elsewhere here letters)) ≡ []
    by_test true e rest = rest
    by_test false e rest =
        let none : is_of_pair s here l ≡ false = false_from_ne_true _ (λ yes. false≢true (sym e ∙ eq-eqb l.to here (pair_of s here l yes).1)) in
        rw none rest

module _ (me : Local) (from : ℕ) (batch letters : List Letter) (brings : Brings me.layout.ranks me.here batch letters) (s d : ℕ) (other : s ≢ me.here) where
  abbrev after : List Entry
  after = me.log ++ Took from batch ∷ []

  same_put : pair_put s d after ≡ pair_put s d me.log
  same_put = pair_put-took s d me.log from batch

  more_taken : pair_taken s d after ≡ pair_taken s d me.log ++ of_pair s d letters
  more_taken = pair_taken-took s d me.log from batch ∙ ap (λ xs. pair_taken s d me.log ++ xs) (brings.pairs s d)

  -- a pair that the rank may not forward has no letter among them for another rank
  none_between : may_forward me s d ≡ false → of_pair s d (elsewhere me.here letters) ≡ []
  none_between apart = elim (cases_eq d me.here) [
    | inl e ↦ subst (λ h. of_pair s h (elsewhere me.here letters) ≡ []) (sym e) (none_for_here me.here s letters)
    | inr ne ↦
        to_others me.here s d letters ne
        ∙ filter_none (is_of_pair s d) letters (all_weaker _ (λ l. is_of_pair s d l ≡ false) letters
        (λ l taken. false_from_ne_true _ (λ yes.
        let pair = pair_of s d l yes in
        let sender : is_rank me.layout s ≡ true = lt-ltb s me.layout.ranks (subst (λ r. r < me.layout.ranks) pair.0 taken.sender) in
        let destination : is_rank me.layout d ≡ true = lt-ltb d me.layout.ranks (subst (λ r. r < me.layout.ranks) pair.1 taken.destination) in
        false≢true (sym apart ∙ forwards_between me s d sender destination (λ e. other (sym e)) (λ e. ne (sym e))))) brings.taken)
  ]

  -- what it took of a pair comes last of what it has to forward
  pub forward_more : length (pair_put s d me.log) ≤ length (pair_taken s d me.log) →
      to_forward (record me { log = after }) s d ≡ to_forward me s d ++ of_pair s d (elsewhere me.here letters)
  unfolding to_forward
  forward_more few = by_test (may_forward me s d) refl
    where
      by_test : (b : Bool) → may_forward me s d ≡ b →
          (if b then drop (length (pair_put s d after)) (pair_taken s d after) else [])
          ≡ (if b then drop (length (pair_put s d me.log)) (pair_taken s d me.log) else []) ++ of_pair s d (elsewhere me.here letters)
      by_test true may =
          let n = length (pair_put s d me.log) in
          let apart : d ≢ me.here = λ e. false≢true (sym (none_for_itself me s d e) ∙ may) in
          ap (λ xs. drop (length xs) (pair_taken s d after)) same_put ∙ ap (drop n) more_taken ∙ drop-append-le n (pair_taken s d me.log) (of_pair s d letters) few
          ∙ ap (λ xs. drop n (pair_taken s d me.log) ++ xs) (sym (to_others me.here s d letters apart))
      by_test false apart = sym (none_between apart)

  pub no_more_put : length (pair_put s d me.log) ≤ length (pair_taken s d me.log) → length (pair_put s d after) ≤ length (pair_taken s d after)
  no_more_put few = omega (arith, few, ap length same_put, ap length more_taken, length-append (pair_taken s d me.log) (of_pair s d letters))

-- ---- what a modest log took last

data_first : (letters : List Letter) → AllByRecursion (λ l. is_data l ≡ true) letters → for_handlers letters ≡ letters
data_first [] h = refl
data_first (l ∷ letters) h = rw h.0 refl

data_not_control : (l : Letter) → is_data l ≡ true → is_control l ≡ false
data_not_control l tag =
    let count : is_count l ≡ false = data_not_count l tag in
    let total : is_total l ≡ false = data_not_total l tag in
    rw (count, total) refl

controls_none : (letters : List Letter) → AllByRecursion (λ l. is_data l ≡ true) letters → filter is_control letters ≡ (if begins_with_control letters then letters else [])
controls_none [] all = refl
controls_none (l ∷ letters) all =
    let none : filter is_control (l ∷ letters) ≡ [] = filter_none is_control (l ∷ letters) (all_weaker (λ x. is_data x ≡ true) (λ x. is_control x ≡ false) (l ∷ letters) data_not_control all) in
    none ∙ rw all.0 refl

begins_none : (letters : List Letter) → AllByRecursion (λ l. is_data l ≡ true) letters → begins_with_control letters ≡ false
begins_none [] all = refl
begins_none (l ∷ letters) all = rw all.0 refl

-- A control letter that breaks no rule is a Count to rank 0 or a Total from it, and can be read.
read_right : (me : Local) (to : ℕ) (l : Letter) → is_control l ≡ true → wrong_control me to l ≡ false → is_some (control_of_letter l) ≡ true
read_right me to l control right = by_kind (is_count l) (is_total l) (nat_eq l.to 0) (nat_eq l.from 0) (nat_eq l.from me.here) (nat_eq to 0) (nat_eq me.here 0) (nat_eq l.to to) control right
  where
    by_kind : (count total to_first from_first mine first here there : Bool) → (count || total) ≡ true → ((count && not (mine && to_first && first)) || (total && not (here && from_first && there))) ≡ false →
        is_some (if count && to_first then Some (Count l.from (round_of l) (sent_of l) (run_of l)) else if total && from_first then Some (Total l.to (round_of l) (sent_of l) (run_of l)) else None) ≡ true
    by_kind true total true from_first mine first here there kind right = refl
    by_kind false true to_first true mine first here there kind right = refl
    by_kind false false to_first from_first mine first here there kind right = absurd cc
    by_kind true total false from_first true first here there kind right = absurd cc
    by_kind true total false from_first false first here there kind right = absurd cc
    by_kind false true to_first false mine first true there kind right = absurd cc
    by_kind false true to_first false mine first false there kind right = absurd cc

module _ (me : Local) (from : ℕ) (batch : List Letter) (laid_out : IsLayout me.layout) (modest : IsModest (record me { log = me.log ++ Took from batch ∷ [] })) where
  abbrev now : Local
  now = record me { log = me.log ++ Took from batch ∷ [] }

  -- its data letters are for the rank, or of others
  batch_taken : AllByRecursion (λ (l : Letter). IsTrue (is_data l) → IsTaken me.layout.ranks me.here l) batch
  batch_taken =
      let R : Letter → Type 0 = λ l. IsTrue (is_data l) → IsTaken me.layout.ranks me.here l in
      all_second R (letters_taken me.log) batch (subst (AllByRecursion R) (letters_taken-took me.log from batch) (are_taken now laid_out modest))

  pub brings : Brings me.layout.ranks me.here batch (for_handlers batch)
  brings =
      let lawful : IsLawful now (Took from batch) = (all_second (IsLawful now) me.log (Took from batch ∷ []) modest.lawful).0 in
      let B : List Letter → List Letter → Type 0 = Brings me.layout.ranks me.here in
      elim (batch_kind now from batch (lawful_batch now from batch lawful)) [
        | inl all ↦
            let each : AllByRecursion (IsTaken me.layout.ranks me.here) batch =
            both_of (λ l. is_data l ≡ true) (λ l. IsTrue (is_data l) → IsTaken me.layout.ranks me.here l) (IsTaken me.layout.ranks me.here) batch (λ l tag is. is tag) all batch_taken in
            subst (B batch) (sym (data_first batch all)) (record { taken = each; pairs = λ s d. refl; for_here = refl })
        | inr one ↦
            let none : is_data one.letter ≡ false = control_not_data one.letter one.control in
            let alone : for_handlers (one.letter ∷ []) ≡ [] = rw none refl in
            subst (λ b. B b (for_handlers b)) (sym one.alone) (subst (B (one.letter ∷ [])) (sym alone) (brings_none me.layout.ranks me.here one.letter none))
      ]

  -- its control letters are the batch itself, where it begins with one
  pub its_controls : filter is_control batch ≡ (if begins_with_control batch then batch else [])
  its_controls =
      let lawful : IsLawful now (Took from batch) = (all_second (IsLawful now) me.log (Took from batch ∷ []) modest.lawful).0 in
      elim (batch_kind now from batch (lawful_batch now from batch lawful)) [
        | inl all ↦ controls_none batch all
        | inr one ↦
            let none : is_data one.letter ≡ false = control_not_data one.letter one.control in
            let P : List Letter → Type 0 = λ b. filter is_control b ≡ (if begins_with_control b then b else []) in
            subst P (sym one.alone) (rw (one.control, none) refl)
      ]

  -- and such a batch is one control letter, which can be read
  pub is_read : begins_with_control batch ≡ true → IsControl batch
  is_read begins =
      let lawful : IsLawful now (Took from batch) = (all_second (IsLawful now) me.log (Took from batch ∷ []) modest.lawful).0 in
      let rules = lawful_batch now from batch lawful in
      elim (batch_kind now from batch rules) [
        | inl all ↦ absurd (false≢true (sym (begins_none batch all) ∙ begins))
        | inr one ↦
            let P : List Letter → Type 0 = λ b. list_any (wrong_control (local_rank me.layout me.scheme from []) me.here) b ≡ false in
            let right : wrong_control (local_rank me.layout me.scheme from []) me.here one.letter ≡ false = or_false_first _ _ (subst P one.alone rules.control) in
            record { letter = one.letter; alone = one.alone; read = read_right (local_rank me.layout me.scheme from []) me.here one.letter one.control right }
      ]

-- ---- what ran

first_part : (xs ys : List Letter) (n : ℕ) → n ≡ length ys → take (length (xs ++ ys) - n) (xs ++ ys) ≡ xs
first_part xs ys n e =
    let size : length (xs ++ ys) - n ≡ length xs = omega (arith, e, length-append xs ys) in
    ap (λ k. take k (xs ++ ys)) size ∙ take-append_seam xs ys

-- of all that arrived, what doesn't wait has run
pub ran_is : {C : Type 0} (me : Rank C) (log : List Entry) (run waiting : List Letter) → arrived me.here log ≡ run ++ waiting → for_rank me.here me.waiting ≡ waiting → ran_at me log ≡ run
ran_is me log run waiting all waits =
    ap (λ xs. take (length xs - length (for_rank me.here me.waiting)) xs) all
    ∙ first_part run waiting (length (for_rank me.here me.waiting)) (ap length waits)

pub ran_all : {C : Type 0} (me : Rank C) (log : List Entry) → me.waiting ≡ [] → ran_at me log ≡ arrived me.here log
ran_all me log none = ran_is me log (arrived me.here log) [] (sym (append-nil _)) (ap (for_rank me.here) none)
