-- A carrier after a put and after a take.
use Rattle.std.proofs.Common.{◌≡◌, ◌≢◌, ℕ, ◌+◌, true, false, nat_eq, eq-eqb, Option, None, Some, List, [], ◌∷◌, ◌++◌, refl, sym, ap, ◌∙◌, subst, append-nil, arith, length, slice_get}
use Rattle.std.proofs.lemmas.Bool.{false_from_ne_true, ne_eqb}
use Rattle.std.proofs.Math.Bool.{and-false}
use Rattle.std.proofs.lemmas.Option.{same_Some}
use Rattle.msg_codec.specs.Control.{is_count}
use Rattle.msg_codec.specs.declared.letter.Letter.{Letter}
use Rattle.ygm_route.specs.declared.scheme.Scheme.{Scheme}
use Rattle.ygm_route.specs.Layout.{Shape}
use Rattle.world_core.specs.declared.entry.Entry.{Entry}
use Rattle.world_core.specs.declared.entry.Entry.TheVariants.{Put, Took}
use Rattle.world_core.specs.Counts.{counts}
use Rattle.world_core.specs.Pairs.{is_data, is_of_pair, of_pair, pair_put}
use Rattle.world_core.proofs.Counts.AfterPut.{counts-none}
use Rattle.world_core.proofs.Deeds.TwoKinds.{data_not_count}
use Rattle.world_core.proofs.Pairs.Appended.{pair_put-put, pair_put-took, pair_taken-put, pair_taken-took}
use Rattle.world_core.proofs.Pairs.Numbers.{own_count-put, own_count-took, sent_number-one}
use Rattle.world_core.proofs.Pairs.OfPair.{pair_of}
use Rattle.mail_table.specs.declared.views.Loads.{Loads}
use Rattle.mail_table.specs.Calls.{BatchPut, BatchTaken}
use Rattle.mail_table.specs.Carrier.{Carries, IsForOthers, MayPassOn, letters_in}
use Rattle.mail_table.specs.Table.{PassState}
use Rattle.mail_table.specs.Views.{loaded_at}

-- a letter isn't of a pair with another sender, or with another destination
not_from : (s d : ℕ) (l : Letter) → l.from ≢ s → of_pair s d (l ∷ []) ≡ []
not_from s d l other = let no : is_of_pair s d l ≡ false = false_from_ne_true (is_of_pair s d l) (λ yes. other (pair_of s d l yes).0) in rw no refl

not_to : (s d : ℕ) (l : Letter) → l.to ≢ d → of_pair s d (l ∷ []) ≡ []
not_to s d l other = let no : is_of_pair s d l ≡ false = false_from_ne_true (is_of_pair s d l) (λ yes. other (pair_of s d l yes).1) in rw no refl

uncounted_put : (log : List Entry) (to : ℕ) (l : Letter) → is_data l ≡ true → counts (log ++ Put to (l ∷ []) ∷ []) ≡ counts log
uncounted_put log to l tagged = counts-none log (Put to (l ∷ [])) (let no : is_count l ≡ false = data_not_count l tagged in rw no refl)

module _ (layout : Shape) (scheme : Scheme) (pass : PassState) (sent other : ℕ) (words : List Loads) where
  -- the pass after a put of a batch to another rank, and after a take from it
  abbrev put_of : List Letter → PassState
  put_of batch = record pass { log = pass.log ++ Put other batch ∷ []; heads = words }

  abbrev took_of : List Letter → PassState
  took_of batch = record pass { log = pass.log ++ Took other batch ∷ []; tails = words }

  pub after_own : Carries layout scheme pass sent None → (l : Letter) → is_data l ≡ true → l.from ≡ pass.rank → Carries layout scheme (put_of (l ∷ [])) (sent + 1) None
  after_own carries l tagged is_from = record {
    layout_is = carries.layout_is;
    scheme_is = carries.scheme_is;
    within = carries.within;
    sent_is = own_count-put pass.rank pass.log other (l ∷ []) ∙ (λ i. carries.sent_is i + sent_number-one pass.rank l true (let e : nat_eq l.from pass.rank ≡ true = eq-eqb _ _ is_from in rw (tagged, e) refl) i);
    uncounted = uncounted_put pass.log other l tagged ∙ carries.uncounted;
    passed_on = λ s d not_s not_d.
        pair_taken-put s d pass.log other (l ∷ []) ∙ carries.passed_on s d not_s not_d
        ∙ ap (λ ls. ls ++ []) (sym (append-nil (pair_put s d pass.log)) ∙ ap (λ ls. pair_put s d pass.log ++ ls) (sym (not_from s d l (λ e. not_s (sym e ∙ is_from)))) ∙ sym (pair_put-put s d pass.log other (l ∷ [])));
    may_pass_on = tt;
  }

  pub after_passed_on : (batch : List Letter) → Carries layout scheme pass sent (Some batch) → (l : Letter) → batch ≡ l ∷ [] → IsForOthers layout pass.rank l → Carries layout scheme (put_of batch) sent None
  after_passed_on batch carries l is others = subst (λ (b : List Letter). Carries layout scheme (put_of b) sent None) (sym is) (record {
    layout_is = carries.layout_is;
    scheme_is = carries.scheme_is;
    within = carries.within;
    sent_is = own_count-put pass.rank pass.log other (l ∷ [])
        ∙ (λ i. carries.sent_is i + sent_number-one pass.rank l false (let e : nat_eq l.from pass.rank ≡ false = ne_eqb _ _ others.not_from in rw e (and-false (is_data l))) i) ∙ (let n : ℕ = sent in let e : n + 0 ≡ n = omega arith in e);
    uncounted = uncounted_put pass.log other l others.tagged ∙ carries.uncounted;
    passed_on = λ s d not_s not_d.
        pair_taken-put s d pass.log other (l ∷ []) ∙ carries.passed_on s d not_s not_d ∙ ap (λ b. pair_put s d pass.log ++ of_pair s d b) is
        ∙ sym (pair_put-put s d pass.log other (l ∷ [])) ∙ sym (append-nil (pair_put s d (pass.log ++ Put other (l ∷ []) ∷ [])));
    may_pass_on = tt;
  })

  -- a batch was taken, which the rank keeps or which waits
  took : (batch : List Letter) (waiting : Option (List Letter)) → Carries layout scheme pass sent None →
      ((s d : ℕ) → s ≢ pass.rank → d ≢ pass.rank → of_pair s d batch ≡ of_pair s d (letters_in waiting)) →
      MayPassOn layout pass.rank waiting → Carries layout scheme (took_of batch) sent waiting
  took batch waiting carries same may = record {
    layout_is = carries.layout_is;
    scheme_is = carries.scheme_is;
    within = carries.within;
    sent_is = own_count-took pass.rank pass.log other batch ∙ carries.sent_is;
    uncounted = counts-none pass.log (Took other batch) refl ∙ carries.uncounted;
    passed_on = λ s d not_s not_d.
        pair_taken-took s d pass.log other batch ∙ (λ i. (carries.passed_on s d not_s not_d ∙ append-nil (pair_put s d pass.log)) i ++ same s d not_s not_d i)
        ∙ ap (λ ls. ls ++ of_pair s d (letters_in waiting)) (sym (pair_put-took s d pass.log other batch));
    may_pass_on = may;
  }

  pub after_kept : Carries layout scheme pass sent None → (batch : List Letter) (l : Letter) → batch ≡ l ∷ [] → l.to ≡ pass.rank → Carries layout scheme (took_of batch) sent None
  after_kept carries batch l is to_here = took batch None carries (λ s d not_s not_d. ap (of_pair s d) is ∙ not_to s d l (λ e. not_d (sym e ∙ to_here))) tt

  pub after_waiting : Carries layout scheme pass sent None → (batch : List Letter) (l : Letter) → batch ≡ l ∷ [] → IsForOthers layout pass.rank l → Carries layout scheme (took_of batch) sent (Some batch)
  after_waiting carries batch l is others = took batch (Some batch) carries (λ s d _ _. refl) (l, is, others)

-- ---- by the outcomes of the table's calls

-- a waiting batch is none where there is none
pub none_waits : (layout : Shape) (scheme : Scheme) (pass : PassState) (sent : ℕ) (waiting : Option (List Letter)) → waiting ≡ None → Carries layout scheme pass sent waiting → Carries layout scheme pass sent None
none_waits layout scheme pass sent waiting e carries = subst (Carries layout scheme pass sent) e carries

pub own_put : (layout : Shape) (scheme : Scheme) (old new : PassState) (sent to : ℕ) (waiting : Option (List Letter)) (batch : List Letter) (l : Letter) → Carries layout scheme old sent waiting → waiting ≡ None →
    batch ≡ l ∷ [] → is_data l ≡ true → l.from ≡ old.rank → BatchPut to batch old new → Carries layout scheme new (sent + 1) None
own_put layout scheme old new sent to waiting batch l carries none is tagged is_from put =
    subst (λ p. Carries layout scheme p (sent + 1) None) (sym (put.after ∙ ap (λ b. record old { log = old.log ++ Put to b ∷ []; heads = loaded_at old.heads to put.found }) is))
    (after_own layout scheme old sent to (loaded_at old.heads to put.found) (none_waits layout scheme old sent waiting none carries) l tagged is_from)

pub passed : (layout : Shape) (scheme : Scheme) (old new : PassState) (sent to : ℕ) (batch : List Letter) → Carries layout scheme old sent (Some batch) → BatchPut to batch old new → Carries layout scheme new sent None
passed layout scheme old new sent to batch carries put =
    let may = carries.may_pass_on in
    subst (λ p. Carries layout scheme p sent None) (sym put.after) (after_passed_on layout scheme old sent to (loaded_at old.heads to put.found) batch carries may.0 may.1 may.2)

pub kept_it : (layout : Shape) (scheme : Scheme) (old new : PassState) (sent from : ℕ) (waiting : Option (List Letter)) (batch : List Letter) (l : Letter) → Carries layout scheme old sent waiting → waiting ≡ None →
    batch ≡ l ∷ [] → l.to ≡ old.rank → BatchTaken from batch old new → Carries layout scheme new sent None
kept_it layout scheme old new sent from waiting batch l carries none is to_here took =
    subst (λ p. Carries layout scheme p sent None) (sym took.after) (after_kept layout scheme old sent from (loaded_at old.tails from took.found) (none_waits layout scheme old sent waiting none carries) batch l is to_here)

pub it_waits : (layout : Shape) (scheme : Scheme) (old new : PassState) (sent from : ℕ) (waiting : Option (List Letter)) (batch : List Letter) (l : Letter) → Carries layout scheme old sent waiting → waiting ≡ None →
    batch ≡ l ∷ [] → IsForOthers layout old.rank l → BatchTaken from batch old new → Carries layout scheme new sent (Some batch)
it_waits layout scheme old new sent from waiting batch l carries none is others took =
    subst (λ p. Carries layout scheme p sent (Some batch)) (sym took.after) (after_waiting layout scheme old sent from (loaded_at old.tails from took.found) (none_waits layout scheme old sent waiting none carries) batch l is others)

-- a batch of one letter
pub one_of : (batch : List Letter) (l : Letter) → length batch ≡ 1 → slice_get batch 0 ≡ Some l → batch ≡ l ∷ []
one_of [] l e at = absurd (omega (arith, e))
one_of (x ∷ []) l e at = let same : x ≡ l = cc in ap (λ y. y ∷ []) same
one_of (x ∷ y ∷ ys) l e at = absurd (omega (arith, e))

pub is_first : (batch : List Letter) (l x : Letter) → batch ≡ l ∷ [] → slice_get batch 0 ≡ Some x → x ≡ l
is_first batch l x e at = same_Some x l (sym at ∙ ap (λ b. slice_get b 0) e)
