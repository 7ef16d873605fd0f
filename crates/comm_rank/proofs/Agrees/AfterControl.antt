-- A rank still agrees with its log after it handed over a control letter, or put one.
use Rattle.std.proofs.Common.{◌≡◌, ℕ, ◌-◌, Bool, true, false, Option, Some, None, map, List, [], ◌∷◌, ◌++◌, length, take, refl, sym, ap, ◌∙◌, subst, append-nil, inl, inr, arith}
use Rattle.std.specs.List.{filter}
use Rattle.std.specs.Option.{option_to_list}
use Rattle.std.proofs.lemmas.Bool.{cases_lt, false_from_ne_true, false≢true, or_right}
use Rattle.list_facts.specs.Prefix.{IsSuffix}
use Rattle.list_facts.specs.Sublist.{IsSublist}
use Rattle.msg_codec.specs.Control.{is_control, is_count, is_total, letter_of_control}
use Rattle.msg_codec.specs.declared.control.Control.{Control}
use Rattle.msg_codec.specs.declared.letter.Letter.{Letter}
use Rattle.world_core.specs.declared.entry.Entry.{Entry}
use Rattle.world_core.specs.declared.entry.Entry.TheVariants.{Put}
use Rattle.world_core.specs.Counts.{counts, puts_count}
use Rattle.world_core.specs.Local.{Local, having_put, to_forward}
use Rattle.world_core.specs.Log.{letters_taken}
use Rattle.world_core.specs.Pairs.{for_rank, is_data, of_pair, pair_put, sent_number}
use Rattle.world_core.proofs.Counts.AfterPut.{counts-one}
use Rattle.world_core.proofs.Counts.BeforeCount.{before_stands, before_this}
use Rattle.world_core.proofs.Deeds.TwoKinds.{control_not_data}
use Rattle.world_core.proofs.Deeds.Unmixed.{not_both}
use Rattle.world_core.proofs.Log.Appended.{letters_taken-put}
use Rattle.world_core.proofs.Modest.AfterPut.{modest_put}
use Rattle.world_core.proofs.Pairs.Appended.{pair_put-put, pair_taken-put}
use Rattle.world_core.proofs.Pairs.Numbers.{own_count-put, sent_number-one}
use Rattle.comm_rank.specs.Agrees.{Agrees, IsServed}
use Rattle.comm_rank.specs.Fold.{Applies, fold_from, handed_from}
use Rattle.comm_rank.specs.Rank.{Rank, IsIdle, held_letters, local_of, ran_at, sent_to}
use Rattle.comm_rank.proofs.Agrees.Arrived.{ran_all}
use Rattle.comm_rank.proofs.Agrees.Served.{ServedBy, served_more, suffix_shorter}

-- ---- one that it took is handed over

-- A rank of which only the control letters changed, or whether it is stopped, still agrees with its log, while its control
-- letters are the last that came.
pub agrees_with_controls : {C : Type 0} (apply : Applies C) (start : C → C) (me : Rank C) (log : List Entry) (controls : List Letter) (stopped : Bool) →
    IsSuffix controls (filter is_control (letters_taken log)) → Agrees apply start me log → Agrees apply start (record me { controls = controls; stopped = stopped }) log
agrees_with_controls apply start me log controls stopped last agrees = record {
  nothing_waits = agrees.nothing_waits;
  forwards = agrees.forwards;
  sent_count = agrees.sent_count;
  run_count = agrees.run_count;
  contents = agrees.contents;
  given_is_sent = agrees.given_is_sent;
  modest = agrees.modest;
  controls = last;
  served = agrees.served;
}

pub agrees_handed : {C : Type 0} (apply : Applies C) (start : C → C) (me : Rank C) (log : List Entry) (l : Letter) (controls : List Letter) →
    Agrees apply start (record me { controls = l ∷ controls }) log → Agrees apply start (record me { controls = controls }) log
agrees_handed apply start me log l controls agrees =
    agrees_with_controls apply start (record me { controls = l ∷ controls }) log controls me.stopped (suffix_shorter l controls (filter is_control (letters_taken log)) agrees.controls) agrees

pub agrees_popped : {C : Type 0} (apply : Applies C) (start : C → C) (me : Rank C) (log : List Entry) (first : Option Control) (items later : List Control) → items ≡ option_to_list first ++ later →
    Agrees apply start (record me { controls = map letter_of_control items }) log → Agrees apply start (record me { controls = map letter_of_control later }) log
agrees_popped {C} apply start me log None items later is agrees = subst (λ (xs : List Control). Agrees apply start (record me { controls = map letter_of_control xs }) log) is agrees
agrees_popped {C} apply start me log (Some first) items later is agrees =
    agrees_handed apply start me log (letter_of_control first) (map letter_of_control later) (subst (λ (xs : List Control). Agrees apply start (record me { controls = map letter_of_control xs }) log) is agrees)

-- ---- one is put

pub control_count : (l : Letter) → is_count l ≡ true → is_control l ≡ true
control_count l count = rw count refl

pub control_total : (l : Letter) → is_total l ≡ true → is_control l ≡ true
control_total l total = or_right (is_count l) (is_total l) total

pub not_count : (l : Letter) → is_total l ≡ true → is_count l ≡ false
not_count l total = false_from_ne_true (is_count l) (λ count. false≢true (sym (not_both l count) ∙ total))

forward_still : (me : Local) (to : ℕ) (l : Letter) (s d : ℕ) → is_data l ≡ false → to_forward (having_put me to (l ∷ [])) s d ≡ to_forward me s d
unfolding to_forward
forward_still me to l s d none =
    let pair : of_pair s d (l ∷ []) ≡ [] = rw none refl in
    rw (pair_put-put s d me.log to (l ∷ []), pair, append-nil (pair_put s d me.log), pair_taken-put s d me.log to (l ∷ [])) refl

module _ {C : Type 0} (apply : Applies C) (start : C → C) (me : Rank C) (log : List Entry) (to : ℕ) (l : Letter) (control : is_control l ≡ true) (agrees : Agrees apply start me log) where
  abbrev now : List Entry
  now = log ++ Put to (l ∷ []) ∷ []

  none : is_data l ≡ false
  none = control_not_data l control

  same_pair : (d : ℕ) → pair_put me.here d now ≡ pair_put me.here d log
  same_pair d =
      let pair : of_pair me.here d (l ∷ []) ≡ [] = rw none refl in
      pair_put-put me.here d log to (l ∷ []) ∙ ap (λ xs. pair_put me.here d log ++ xs) pair ∙ append-nil (pair_put me.here d log)

  same_sent : (d : ℕ) → sent_to me now d ≡ sent_to me log d
  same_sent d = ap (λ xs. xs ++ of_pair me.here d (held_letters me)) (same_pair d)

  same_ran : ran_at me now ≡ ran_at me log
  same_ran = ap (λ xs. take (length (for_rank me.here xs) - length (for_rank me.here me.waiting)) (for_rank me.here xs)) (letters_taken-put log to (l ∷ []))

  with_served : IsServed apply me.here me.layout.ranks (start me.contents) now → Agrees apply start me now
  with_served served = record {
    nothing_waits = agrees.nothing_waits;
    forwards = record {
      held = λ f d other. agrees.forwards.held f d other ∙ sym (forward_still (local_of me log) to l f d none);
      no_more_put = λ f d other.
          let pair : of_pair f d (l ∷ []) ≡ [] = rw none refl in
          omega (
            arith,
            agrees.forwards.no_more_put f d other,
            ap length (pair_put-put f d log to (l ∷ []) ∙ ap (λ xs. pair_put f d log ++ xs) pair ∙ append-nil (pair_put f d log)),
            ap length (pair_taken-put f d log to (l ∷ [])),
          );
    };
    sent_count =
        let one : sent_number me.here (l ∷ []) ≡ 0 = sent_number-one me.here l false (rw none refl) in
        omega (arith, agrees.sent_count, own_count-put me.here log to (l ∷ []), one);
    run_count = agrees.run_count ∙ ap length (sym same_ran);
    contents = agrees.contents ∙ ap (fold_from apply me.here me.layout.ranks (start me.contents)) (sym same_ran);
    given_is_sent = λ d.
        let P : List Letter → List Letter → Type 0 = λ ran sent. IsSublist (of_pair me.here d (handed_from apply me.here me.layout.ranks (start me.contents) ran)) sent in
        subst (λ ran. P ran (sent_to me now d)) (sym same_ran) (subst (λ sent. P (ran_at me log) sent) (sym (same_sent d)) (agrees.given_is_sent d));
    modest = modest_put (local_of me log) to (l ∷ []) agrees.modest;
    controls = subst (λ xs. IsSuffix me.controls (filter is_control xs)) (sym (letters_taken-put log to (l ∷ []))) agrees.controls;
    served = served;
  }

  -- all that its handler gave is put, where it holds nothing
  all_given : IsIdle me → (d : ℕ) → ServedBy apply me.here me.layout.ranks (start me.contents) d log
  all_given idle d =
      let P : List Letter → List Letter → Type 0 = λ ran sent. IsSublist (of_pair me.here d (handed_from apply me.here me.layout.ranks (start me.contents) ran)) sent in
      let sent : sent_to me log d ≡ pair_put me.here d log = ap (λ xs. pair_put me.here d log ++ of_pair me.here d xs) idle.0 ∙ append-nil (pair_put me.here d log) in
      subst (λ ran. P ran (pair_put me.here d log)) (ran_all me log agrees.nothing_waits) (subst (P (ran_at me log)) sent (agrees.given_is_sent d))

  pub put_count : is_count l ≡ true → IsIdle me → Agrees apply start me now
  put_count count idle = with_served (λ q d some.
      let counted : puts_count (Put to (l ∷ [])) ≡ true = rw count refl in
      elim (cases_lt q (counts log)) [
        | inl before ↦ subst (ServedBy apply me.here me.layout.ranks (start me.contents) d) (sym (before_stands q log (Put to (l ∷ []) ∷ []) before)) (agrees.served q d before)
        | inr past ↦
            let last : counts log ≡ q = omega (arith, some, past, counts-one log (Put to (l ∷ [])) counted) in
            subst (ServedBy apply me.here me.layout.ranks (start me.contents) d) (sym (before_this q log (Put to (l ∷ [])) last counted)) (all_given idle d)
      ])

  pub put_total : is_count l ≡ false → Agrees apply start me now
  put_total other =
      let uncounted : counts (Put to (l ∷ []) ∷ []) ≡ 0 = rw other refl in
      with_served (served_more apply me.here me.layout.ranks (start me.contents) log (Put to (l ∷ []) ∷ []) uncounted agrees.served)
