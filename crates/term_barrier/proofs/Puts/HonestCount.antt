-- A Count breaks no rule where it is that of the round after the last that its rank knows, has the rank's counts, and the
-- rank has nothing to forward.
use Rattle.std.proofs.Common.{◌≡◌, ◌≢◌, ℕ, zero, suc, pred, ◌<◌, Bool, true, false, not, ◌&&◌, nat_eq, nat_lt, eq-eqb, eqb-true, is_some, None, [], ◌∷◌, length, refl, sym, ap, ◌∙◌, arith}
use Rattle.list_facts.proofs.Below.{all_fail, row_passes}
use Rattle.msg_codec.specs.Control.{is_count, round_of, run_of, sent_of}
use Rattle.msg_codec.specs.declared.letter.Letter.{Letter}
use Rattle.world_core.specs.ControlRules.{count_early, count_wrong, has_to_forward}
use Rattle.world_core.specs.Counts.{counts, total_taken}
use Rattle.world_core.specs.Local.{Local, to_forward}
use Rattle.world_core.specs.Log.{letters_taken}
use Rattle.world_core.specs.Pairs.{own_count, run_count}
use Rattle.world_core.specs.Rounds.{rounds_known}
use Rattle.world_core.specs.Rules.{first_broken}
use Rattle.world_core.specs.Rules.Deed.{Puts}
use Rattle.world_core.proofs.Deeds.ControlTable.{count_table}
use Rattle.world_core.proofs.Local.ToForward.{no_own}
use Rattle.comm_rank.proofs.Agrees.AfterControl.{control_count}
use Rattle.term_barrier.proofs.Puts.OneControl.{one_control}

passes_second : (a b : Bool) → b ≡ true → (a && not b) ≡ false
passes_second true b h = rw h refl
passes_second false b h = refl

-- it knows the round before
knows_before : (me : Local) (q : ℕ) → q ≡ rounds_known me.here me.log → (nat_lt 0 q && not (is_some (total_taken me.here (pred q) me.log))) ≡ false
unfolding rounds_known
knows_before me zero is = refl
knows_before me (suc q) is =
    let known : is_some (total_taken me.here q me.log) ≡ true =
    row_passes (λ r. is_some (total_taken me.here r me.log)) (length (letters_taken me.log)) q (omega (arith, is)) in
    passes_second (nat_lt 0 (suc q)) (is_some (total_taken me.here q me.log)) known

not_early : (me : Local) (to : ℕ) (l : Letter) → is_count l ≡ true → round_of l ≡ counts me.log → counts me.log ≡ rounds_known me.here me.log →
    count_early me to l ≡ false
not_early me to l count round known =
    let next : nat_eq (round_of l) (counts me.log) ≡ true = eq-eqb _ _ round in
    let before = knows_before me (round_of l) (round ∙ known) in
    rw (count, next, before) refl

-- it has nothing to forward
none_own : (me : Local) (s d : ℕ) → s ≡ me.here → to_forward me s d ≡ []
unfolding to_forward
none_own me s d own = let none = no_own me s d own in rw none refl

module _ (me : Local) (none : (from to : ℕ) → from ≢ me.here → to_forward me from to ≡ []) where
  no_forward : (s d : ℕ) → to_forward me s d ≡ []
  no_forward s d = by_sender (nat_eq s me.here) refl
    where
      by_sender : (b : Bool) → nat_eq s me.here ≡ b → to_forward me s d ≡ []
      by_sender true own = none_own me s d (eqb-true _ _ own)
      by_sender false other = none s d (λ own. absurd (let same : nat_eq s me.here ≡ true = eq-eqb _ _ own in cc))

  nothing_held : has_to_forward me ≡ false
  nothing_held =
      all_fail _ me.layout.ranks (λ s _. all_fail _ me.layout.ranks (λ d _. ap (λ ls. nat_lt 0 (length ls)) (no_forward s d)))

-- it has the counts of its rank
not_wrong : (me : Local) (to : ℕ) (l : Letter) → is_count l ≡ true → sent_of l ≡ own_count me.here me.log → run_of l ≡ run_count me.here me.log →
    count_wrong me to l ≡ false
not_wrong me to l count sent run =
    let same_sent : nat_eq (sent_of l) (own_count me.here me.log) ≡ true = eq-eqb _ _ sent in
    let same_run : nat_eq (run_of l) (run_count me.here me.log) ≡ true = eq-eqb _ _ run in
    rw (count, same_sent, same_run) refl

pub honest_count : (me : Local) (l : Letter) → me.here < me.layout.ranks → is_count l ≡ true → l.from ≡ me.here → l.to ≡ 0 →
    round_of l ≡ counts me.log → sent_of l ≡ own_count me.here me.log → run_of l ≡ run_count me.here me.log →
    counts me.log ≡ rounds_known me.here me.log → ((from to : ℕ) → from ≢ me.here → to_forward me from to ≡ []) →
    first_broken me (Puts 0 (l ∷ [])) ≡ None
honest_count me l within count from to round sent run known none =
    one_control me 0 l (control_count l count) within (omega (arith, within)) (omega (arith, within, to)) (omega (arith, within, from))
    ∙ sym (count_table me (round_of l) (sent_of l) (run_of l) l
    (record { count = count; from = from; to = to; round = refl; sent = refl; run = refl })
    false false false (not_early me 0 l count round known) (nothing_held me none) (not_wrong me 0 l count sent run))
