-- What each rule says of one letter of a put.
use Rattle.std.proofs.Common.{◌≡◌, ◌≢◌, ℕ, ◌+◌, ◌≤◌, ◌<◌, true, false, not, ◌||◌, ◌&&◌, nat_lt, nat_eq, lt-ltb, ltb-true, eq-eqb, ne_eqb, le-ltb, Some, List, slice_get, refl, sym, ◌∙◌, subst, arith}
use Rattle.std.proofs.lemmas.Bool.{not-false}
use Rattle.std.proofs.lemmas.Option.{get_or_from_slice_get, slice_get_within}
use Rattle.msg_codec.specs.declared.letter.Letter.{Letter}
use Rattle.ygm_route.specs.Hop.{hop}
use Rattle.world_core.specs.Limits.{most_letters}
use Rattle.world_core.specs.Local.{Local, is_rank, having_put, to_forward}
use Rattle.world_core.specs.Pairs.{is_data, own_count, sent_number}
use Rattle.world_core.specs.Rules.{no_such_rank, wrong_hop, not_held, too_many_sent, is_first_of}
use Rattle.world_core.specs.Rules.Deed.{Puts}
use Rattle.world_core.proofs.Deeds.TwoKinds.{AreData}
use Rattle.world_core.proofs.Pairs.Numbers.{own_count-put}
use Rattle.list_facts.proofs.Elements.{all_at}
use Rattle.list_facts.proofs.Tests.{or_false_first, or_false_second, any_false_at}

pub letter_ranks : (me : Local) (to : ℕ) (letters : List Letter) (k : ℕ) (x : Letter) → slice_get letters k ≡ Some x →
    no_such_rank me (Puts to letters) ≡ false → (x.to < me.layout.ranks) × (x.from < me.layout.ranks)
letter_ranks me to letters k x h ok =
    let here = any_false_at (λ l. not (is_rank me.layout l.to) || not (is_rank me.layout l.from)) letters k x h (or_false_second _ _ ok) in
    (ltb-true _ _ (not-false _ (or_false_first _ _ here)), ltb-true _ _ (not-false _ (or_false_second _ _ here)))

pub letter_data : (letters : List Letter) (k : ℕ) (x : Letter) → slice_get letters k ≡ Some x → AreData letters → is_data x ≡ true
letter_data letters k x h all = subst (λ l. is_data l ≡ true) (get_or_from_slice_get letters k x x h) (all_at (λ l. is_data l ≡ true) letters all k x (slice_get_within letters k x h))

pub hop_wrong : (me : Local) (to next : ℕ) (x : Letter) → is_data x ≡ true → next ≡ hop me.layout me.scheme me.here x.to → next ≢ to → wrong_hop me to x ≡ true
hop_wrong me to next x tagged leads ne =
    let other : nat_eq to (hop me.layout me.scheme me.here x.to) ≡ false = ne_eqb _ _ (λ e. ne (leads ∙ sym e)) in
    rw (tagged, other) refl

pub hop_right : (me : Local) (to next : ℕ) (x : Letter) → is_data x ≡ true → next ≡ hop me.layout me.scheme me.here x.to → next ≡ to → wrong_hop me to x ≡ false
hop_right me to next x tagged leads same =
    let equal : nat_eq to (hop me.layout me.scheme me.here x.to) ≡ true = eq-eqb _ _ (sym same ∙ leads) in
    rw (tagged, equal) refl

pub unheld : (me : Local) (to : ℕ) (x : Letter) → is_data x ≡ true → x.from ≢ me.here → is_first_of (to_forward me x.from x.to) x ≡ false → not_held me to x ≡ true
unheld me to x tagged other first = let e : nat_eq x.from me.here ≡ false = ne_eqb _ _ other in rw (tagged, e, first) refl

pub held_own : (me : Local) (to : ℕ) (x : Letter) → is_data x ≡ true → x.from ≡ me.here → not_held me to x ≡ false
held_own me to x tagged same = let e : nat_eq x.from me.here ≡ true = eq-eqb _ _ same in rw (tagged, e) refl

pub held_next : (me : Local) (to : ℕ) (x : Letter) → is_data x ≡ true → x.from ≢ me.here → is_first_of (to_forward me x.from x.to) x ≡ true → not_held me to x ≡ false
held_next me to x tagged other first = let e : nat_eq x.from me.here ≡ false = ne_eqb _ _ other in rw (tagged, e, first) refl

module _ (me : Local) (to : ℕ) (before : List Letter) (x : Letter) (n : ℕ) (count : n ≡ own_count me.here me.log + sent_number me.here before) where
  so_many : own_count me.here (having_put me to before).log ≡ n
  so_many = own_count-put me.here me.log to before ∙ sym count

  pub too_many : (is_data x && nat_eq x.from me.here) ≡ true → most_letters ≤ n → too_many_sent (having_put me to before) to x ≡ true
  too_many mine most =
      let full : nat_lt (own_count me.here (having_put me to before).log) most_letters ≡ false = le-ltb _ _ (omega (arith, so_many)) in
      rw (mine, full) refl

  pub not_too_many : (is_data x && nat_eq x.from me.here) ≡ true → n < most_letters → too_many_sent (having_put me to before) to x ≡ false
  not_too_many mine less =
      let room : nat_lt (own_count me.here (having_put me to before).log) most_letters ≡ true = lt-ltb _ _ (omega (arith, so_many)) in
      rw (mine, room) refl

pub not_mine : (me : Local) (to : ℕ) (x : Letter) → (is_data x && nat_eq x.from me.here) ≡ false → too_many_sent me to x ≡ false
not_mine me to x other = rw other refl
