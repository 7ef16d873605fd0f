-- Parts of logs joined end to end, and what they put and took.
use Rattle.std.proofs.Common.{◌≡◌, ℕ, ◌≤◌, List, ◌++◌, drop, length, take, sym, ap, ◌∙◌, append_assoc}
use Rattle.std.proofs.lemmas.List.{take-append-drop, take-append-le, take-take}
use Rattle.msg_codec.specs.declared.letter.Letter.{Letter}
use Rattle.world_core.specs.declared.entry.Entry.{Entry}
use Rattle.world_core.specs.Pairs.{arrived, of_pair, pair_put, sent}
use Rattle.world_core.proofs.Pairs.Unchanged.{pair_put-append}
use Rattle.comm_rank.proofs.Running.TookBelow.{taken_append}
use Rattle.term_barrier.specs.Cuts.{between}

-- what was sent in both parts of a log, with what is held
pub sent-append : (from to : ℕ) (xs ys : List Entry) (held : List Letter) →
    sent from to (xs ++ ys) held ≡ pair_put from to xs ++ sent from to ys held
sent-append from to xs ys held =
    ap (λ ls. ls ++ of_pair from to held) (pair_put-append from to xs ys)
    ∙ append_assoc (pair_put from to xs) (pair_put from to ys) (of_pair from to held)

-- ---- a log cut at a place

-- the log up to a place is that up to an earlier one, and what is between them
pub between_joined : (begin end : ℕ) (log : List Entry) → begin ≤ end → take begin log ++ between begin end log ≡ take end log
between_joined begin end log le =
    ap (λ es. es ++ between begin end log) (sym (take-take begin end log le)) ∙ take-append-drop begin (take end log)

pub arrived_cut : (here place : ℕ) (log : List Entry) → arrived here log ≡ arrived here (take place log) ++ arrived here (drop place log)
arrived_cut here place log =
    sym (ap (arrived here) (take-append-drop place log)) ∙ taken_append here (take place log) (drop place log)

-- ---- a log that gained entries

pub between_grown : (begin end : ℕ) (log more : List Entry) → end ≤ length log →
    between begin end (log ++ more) ≡ between begin end log
between_grown begin end log more le = ap (drop begin) (take-append-le end log more le)
