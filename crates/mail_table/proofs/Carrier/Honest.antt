-- A batch of one data letter that goes to its next hop breaks no rule, where it is the rank's own or the next to pass on.
use Rattle.std.proofs.Common.{◌≡◌, ◌≢◌, ℕ, ◌+◌, ◌<◌, Bool, true, false, not, ◌||◌, ◌&&◌, nat_eq, nat_lt, lt-ltb, eq-eqb, Option, None, Some, List, [], ◌∷◌, ◌++◌, length, slice_get, refl, sym, ap, ◌∙◌, subst, arith}
use Rattle.std.proofs.Math.Bool.{and-false, or-false}
use Rattle.std.proofs.lemmas.Bool.{ne_eqb}
use lib.Pointwise.{bytes_decides, pointwise}
use Rattle.list_facts.proofs.Places.{item_at_end}
use Rattle.msg_codec.specs.Control.{is_count, is_total}
use Rattle.msg_codec.specs.declared.letter.Letter.{Letter}
use Rattle.ygm_route.specs.declared.scheme.Scheme.{Scheme}
use Rattle.ygm_route.specs.Layout.{Shape}
use Rattle.ygm_route.specs.Hop.{hop}
use Rattle.world_core.specs.ControlRules.{is_free, sent_while_counted, wrong_control, count_early, count_unforwarded, count_wrong, total_early, total_wrong}
use Rattle.world_core.specs.Limits.{most_letters}
use Rattle.world_core.specs.Local.{Local, having_put, local_rank, to_forward}
use Rattle.world_core.specs.Pairs.{is_data, of_pair, own_count, pair_put, pair_taken}
use Rattle.world_core.specs.Rules.{Deed, first_broken, no_such_rank, mixed_control, some_letter, bad_tag, wrong_hop, not_held, too_many_sent, is_first_of, same_letter}
use Rattle.world_core.specs.Rules.Deed.{Puts}
use Rattle.world_core.proofs.Counts.AfterPut.{own_count-empty, sent_while_counted-put}
use Rattle.world_core.proofs.Counts.StaysFree.{free_uncounted}
use Rattle.world_core.proofs.Deeds.EachLetter.{held_next, held_own, hop_right, not_mine}
use Rattle.world_core.proofs.Deeds.TwoKinds.{data_not_count, data_not_total}
use Rattle.world_core.proofs.Local.ToForward.{forwards_between, next_held}
use Rattle.world_core.proofs.Pairs.OfPair.{own_pair}
use Rattle.mail_table.specs.Carrier.{Carries, IsForOthers}
use Rattle.mail_table.specs.Table.{PassState, local_of}

ranks_hold : (a b c d : Bool) → a ≡ true → b ≡ true → c ≡ true → d ≡ true → (not a || not b || (not c || not d || false)) ≡ false
ranks_hold true true true true _ _ _ _ = refl
ranks_hold false b c d h _ _ _ = absurd cc
ranks_hold true false c d _ h _ _ = absurd cc
ranks_hold true true false d _ _ h _ = absurd cc
ranks_hold true true true false _ _ _ h = absurd cc

-- what the rules ask of the one letter, beside its ranks and its hop
record IsDue (me : Local) (to : ℕ) (l : Letter) : Type 0 where
  held : not_held (having_put me to []) to l ≡ false
  few : too_many_sent (having_put me to []) to l ≡ false

breaks_none : (me : Local) (to : ℕ) (l : Letter) → me.here < me.layout.ranks → to < me.layout.ranks → l.to < me.layout.ranks → l.from < me.layout.ranks → to ≡ hop me.layout me.scheme me.here l.to →
    is_data l ≡ true → is_free me ≡ true → IsDue me to l → first_broken me (Puts to (l ∷ [])) ≡ None
unfolding first_broken
breaks_none me to l here_within to_within to_l from_l leads tagged may due =
    let start : Local = having_put me to [] in
    let count : is_count l ≡ false = data_not_count l tagged in
    let total : is_total l ≡ false = data_not_total l tagged in
    let one : Deed = Puts to (l ∷ []) in
    let ranks : no_such_rank me one ≡ false = ranks_hold _ _ _ _ (lt-ltb _ _ here_within) (lt-ltb _ _ to_within) (lt-ltb _ _ to_l) (lt-ltb _ _ from_l) in
    let tag : some_letter bad_tag me one ≡ false = or-false (bad_tag start to l) ∙ (rw tagged refl) in
    let unmixed : mixed_control me one ≡ false = rw (count, total) refl in
    let hops : some_letter wrong_hop me one ≡ false = or-false (wrong_hop start to l) ∙ (hop_right start to to l tagged leads refl) in
    let held : some_letter not_held me one ≡ false = or-false (not_held start to l) ∙ due.held in
    let not_many : some_letter too_many_sent me one ≡ false = or-false (too_many_sent start to l) ∙ due.few in
    let free : some_letter sent_while_counted me one ≡ false =
    or-false (sent_while_counted start to l) ∙ sent_while_counted-put me to [] refl l ∙ rw may (and-false (is_data l && nat_eq l.from me.here)) in
    let control : some_letter wrong_control me one ≡ false = rw (count, total) refl in
    let early : some_letter count_early me one ≡ false = rw count refl in
    let unforwarded : some_letter count_unforwarded me one ≡ false = rw count refl in
    let wrong : some_letter count_wrong me one ≡ false = rw count refl in
    let total_first : some_letter total_early me one ≡ false = rw total refl in
    let sums : some_letter total_wrong me one ≡ false = rw total refl in
    rw (ranks, tag, unmixed, hops, held, not_many, free, control, early, unforwarded, wrong, total_first, sums) refl

-- ---- the rank's own letter

own_due : (me : Local) (to : ℕ) (l : Letter) → is_data l ≡ true → l.from ≡ me.here → own_count me.here me.log < most_letters → IsDue me to l
own_due me to l tagged is_from few = record {
  held = held_own (having_put me to []) to l tagged is_from;
  few = (let room : nat_lt (own_count me.here (having_put me to []).log) most_letters ≡ true = lt-ltb _ _ (omega (arith, few, own_count-empty me.here me.log to)) in
      rw room (and-false (is_data l && nat_eq l.from me.here)));
}

same_itself : (l : Letter) → same_letter l l ≡ true
same_itself l =
    let a : nat_eq l.to l.to ≡ true = eq-eqb _ _ refl in let b : nat_eq l.from l.from ≡ true = eq-eqb _ _ refl in let c : nat_eq l.tag l.tag ≡ true = eq-eqb _ _ refl in
    let d : pointwise nat_eq l.body l.body ≡ true = (bytes_decides l.body l.body).1 refl in
    rw (a, b, c, d) refl

-- ---- as a carrier has it

module _ (layout : Shape) (scheme : Scheme) (pass : PassState) (sent to : ℕ) where
  me : Local
  me = local_rank layout scheme pass.rank pass.log

  as_its : (waiting : Option (List Letter)) → Carries layout scheme pass sent waiting → (batch : List Letter) → first_broken me (Puts to batch) ≡ None → first_broken (local_of pass) (Puts to batch) ≡ None
  unfolding me
  as_its waiting carries batch h =
      subst (λ (z : Shape × Scheme). first_broken (local_rank z.0 z.1 pass.rank pass.log) (Puts to batch) ≡ None) (λ i. (sym carries.layout_is i, sym carries.scheme_is i)) h

  pub honest_own : (waiting : Option (List Letter)) → Carries layout scheme pass sent waiting → (l : Letter) → is_data l ≡ true → l.from ≡ pass.rank → l.to < layout.ranks → to < layout.ranks → to ≡ hop layout scheme pass.rank l.to →
      sent < most_letters → first_broken (local_of pass) (Puts to (l ∷ [])) ≡ None
  unfolding me
  honest_own waiting carries l tagged is_from to_l to_within leads few =
      let from_l : l.from < layout.ranks = let w = carries.within in omega (arith, is_from, w) in
      let few' : own_count pass.rank pass.log < most_letters = let e = carries.sent_is in omega (arith, few, e) in
      as_its waiting carries (l ∷ []) (breaks_none me to l carries.within to_within to_l from_l leads tagged (free_uncounted me carries.uncounted) (own_due me to l tagged is_from few'))

  pub honest_next : (batch : List Letter) → Carries layout scheme pass sent (Some batch) → (l : Letter) → batch ≡ l ∷ [] → IsForOthers layout pass.rank l → to < layout.ranks → to ≡ hop layout scheme pass.rank l.to →
      first_broken (local_of pass) (Puts to batch) ≡ None
  unfolding me
  honest_next batch carries l is others to_within leads =
      let one : of_pair l.from l.to batch ≡ l ∷ [] = ap (of_pair l.from l.to) is ∙ (let own = own_pair l others.tagged in rw own refl) in
      let taken : pair_taken l.from l.to pass.log ≡ pair_put l.from l.to pass.log ++ (l ∷ []) = carries.passed_on l.from l.to others.not_from others.not_to ∙ ap (λ ls. pair_put l.from l.to pass.log ++ ls) one in
      let put : ℕ = length (pair_put l.from l.to pass.log) in
      let there : slice_get (pair_taken l.from l.to pass.log) put ≡ Some l = ap (λ ls. slice_get ls put) taken ∙ item_at_end (pair_put l.from l.to pass.log) l [] in
      let between = forwards_between me l.from l.to (lt-ltb _ _ others.from_within) (lt-ltb _ _ others.to_within) (λ e. others.not_from (sym e)) (λ e. others.not_to (sym e)) in
      let next : is_first_of (to_forward (having_put me to []) l.from l.to) l ≡ true =
      next_held me to [] l.from l.to put (let n : ℕ = put in let e : n ≡ n + 0 = omega arith in e) l l between there ∙ same_itself l in
      let due : IsDue me to l = record { held = held_next (having_put me to []) to l others.tagged others.not_from next; few = not_mine_here l others.not_from } in
      as_its (Some batch) carries batch
      (subst (λ (b : List Letter). first_broken me (Puts to b) ≡ None) (sym is)
      (breaks_none me to l carries.within to_within others.to_within others.from_within leads others.tagged (free_uncounted me carries.uncounted) due))
    where
      not_mine_here : (x : Letter) → x.from ≢ pass.rank → too_many_sent (having_put me to []) to x ≡ false
      not_mine_here x other = not_mine (having_put me to []) to x (let apart : nat_eq x.from pass.rank ≡ false = ne_eqb x.from pass.rank other in rw apart (and-false (is_data x)))
