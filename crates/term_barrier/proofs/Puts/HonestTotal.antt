-- A Total breaks no rule where rank 0 puts it to its rank, it is of the round after the last Total to that rank, and it has
-- the sums of the Counts of all ranks of that round, which rank 0 took.
use Rattle.std.proofs.Common.{◌≡◌, ℕ, ◌<◌, true, false, not, nat_eq, eq-eqb, is_some, None, [], ◌∷◌, refl, sym, ap, ◌∙◌, arith}
use Rattle.list_facts.proofs.Below.{all_fail}
use Rattle.list_facts.specs.Below.{some_below}
use Rattle.msg_codec.specs.Control.{is_total, round_of, run_of, sent_of}
use Rattle.msg_codec.specs.declared.letter.Letter.{Letter}
use Rattle.world_core.specs.ControlRules.{run_taken, sent_taken, total_early, total_wrong}
use Rattle.world_core.specs.Counts.{count_taken, totals}
use Rattle.world_core.specs.Local.{Local}
use Rattle.world_core.specs.Rules.{first_broken}
use Rattle.world_core.specs.Rules.Deed.{Puts}
use Rattle.world_core.proofs.Deeds.ControlTable.{total_table}
use Rattle.comm_rank.proofs.Agrees.AfterControl.{control_total}
use Rattle.term_barrier.proofs.Puts.OneControl.{one_control}

-- it took the Counts of all ranks
not_early : (me : Local) (to : ℕ) (l : Letter) → is_total l ≡ true → round_of l ≡ totals to me.log →
    ((j : ℕ) → j < me.layout.ranks → is_some (count_taken j (round_of l) me.log) ≡ true) → total_early me to l ≡ false
not_early me to l total round every =
    let next : nat_eq (round_of l) (totals to me.log) ≡ true = eq-eqb _ _ round in
    let none : some_below (λ j. not (is_some (count_taken j (round_of l) me.log))) me.layout.ranks ≡ false =
    all_fail _ me.layout.ranks (λ j lt. ap not (every j lt)) in
    rw (total, next, none) refl

-- it has their sums
not_wrong : (me : Local) (to : ℕ) (l : Letter) → is_total l ≡ true → sent_of l ≡ sent_taken me (round_of l) → run_of l ≡ run_taken me (round_of l) →
    total_wrong me to l ≡ false
not_wrong me to l total sent run =
    let same_sent : nat_eq (sent_of l) (sent_taken me (round_of l)) ≡ true = eq-eqb _ _ sent in
    let same_run : nat_eq (run_of l) (run_taken me (round_of l)) ≡ true = eq-eqb _ _ run in
    rw (total, same_sent, same_run) refl

pub honest_total : (me : Local) (to : ℕ) (l : Letter) → me.here ≡ 0 → to < me.layout.ranks → is_total l ≡ true → l.from ≡ 0 → l.to ≡ to →
    round_of l ≡ totals to me.log → ((j : ℕ) → j < me.layout.ranks → is_some (count_taken j (round_of l) me.log) ≡ true) →
    sent_of l ≡ sent_taken me (round_of l) → run_of l ≡ run_taken me (round_of l) → first_broken me (Puts to (l ∷ [])) ≡ None
honest_total me to l first within total from there round every sent run =
    one_control me to l (control_total l total) (omega (arith, first, within)) within (omega (arith, within, there)) (omega (arith, within, from))
    ∙ sym (total_table me first to (round_of l) (sent_of l) (run_of l) l
    (record { total = total; from = from; to = there; round = refl; sent = refl; run = refl })
    false false (not_early me to l total round every) (not_wrong me to l total sent run))
