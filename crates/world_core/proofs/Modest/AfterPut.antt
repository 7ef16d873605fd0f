-- A modest log stays modest when it gains puts.
use Rattle.std.proofs.Common.{◌≡◌, ℕ, false, Some, List, [], ◌∷◌, ◌++◌, refl, ap, ◌∙◌, subst, append-nil, append_assoc}
use Rattle.std.specs.List.{AllByRecursion, list_any}
use Rattle.list_facts.proofs.Sums.{sum_upto-same}
use Rattle.msg_codec.specs.declared.letter.Letter.{Letter}
use Rattle.world_core.specs.declared.entry.Entry.{Entry}
use Rattle.world_core.specs.declared.entry.Entry.TheVariants.{Put, Took}
use Rattle.world_core.specs.ControlRules.{run_taken, sent_taken}
use Rattle.world_core.specs.Counts.{count_taken}
use Rattle.world_core.specs.Local.{Local, having_put}
use Rattle.world_core.specs.Log.{IsPut, batches_taken}
use Rattle.world_core.specs.Modest.{AreInTurn, IsModest, too_soon}
use Rattle.world_core.specs.Rounds.{sums_in}
use Rattle.world_core.proofs.Log.Appended.{batches_taken-put}
use Rattle.world_core.proofs.Log.AtEntry.{entry_more}
use Rattle.world_core.proofs.Modest.Lawful.{lawful_more}
use Rattle.world_core.proofs.Pairs.Numbers.{run_count-put}

-- the Counts that a log took are those of its batches
pub count_taken-same : (rank q : ℕ) (old new : List Entry) → batches_taken rank new ≡ batches_taken rank old → count_taken rank q new ≡ count_taken rank q old
unfolding count_taken
count_taken-same rank q old new same = rw same refl

module _ (me : Local) (to : ℕ) (batch : List Letter) where
  abbrev now : Local
  now = having_put me to batch

  same_taken : (from : ℕ) → batches_taken from now.log ≡ batches_taken from me.log
  same_taken from = batches_taken-put me.log to from batch

  same_sent : (q : ℕ) → sent_taken now q ≡ sent_taken me q
  same_sent q = sum_upto-same _ _ me.layout.ranks (λ j within. ap (λ l. (sums_in l).sent) (count_taken-same j q me.log now.log (same_taken j)))

  same_run : (q : ℕ) → run_taken now q ≡ run_taken me q
  same_run q = sum_upto-same _ _ me.layout.ranks (λ j within. ap (λ l. (sums_in l).run) (count_taken-same j q me.log now.log (same_taken j)))

  in_turn_put : AreInTurn me → AreInTurn now
  in_turn_put turns =
      let P : List Entry → Entry → Type 0 = λ log e. (from : ℕ) (letters : List Letter) → e ≡ Took from letters →
      list_any (too_soon (record me { log = log }) from) letters ≡ false in
      record {
        few_sent = λ q. rw (same_sent q) (turns.few_sent q);
        few_run = λ q. rw (same_run q) (turns.few_run q);
        counts_in_order = λ from. rw (same_taken from) (turns.counts_in_order from);
        totals_in_order = λ from. rw (same_taken from) (turns.totals_in_order from);
        in_turn = λ k from letters h.
            entry_more P me.log (Put to batch) (λ j e there rank taken is. turns.in_turn j rank taken (there ∙ ap Some is))
            (λ rank taken is. absurd cc) k (Took from letters) h from letters refl;
      }

  pub modest_put : IsModest me → IsModest now
  modest_put modest = record {
    few = rw (run_count-put me.here me.log to batch) modest.few;
    lawful = lawful_more me (Put to batch) modest.lawful tt;
    on_path = λ from. rw (same_taken from) (modest.on_path from);
    control = in_turn_put modest.control;
  }

-- and so after several puts
pub modest_puts : (me : Local) (placed : List Entry) → AllByRecursion IsPut placed → IsModest me → IsModest (record me { log = me.log ++ placed })
modest_puts me [] puts modest = rw (append-nil me.log) modest
modest_puts me (Put to batch ∷ placed) puts modest =
    let P : List Entry → Type 0 = λ log. IsModest (record me { log = log }) in
    subst P (append_assoc me.log (Put to batch ∷ []) placed) (modest_puts (having_put me to batch) placed puts.1 (modest_put me to batch modest))
modest_puts me (Took from batch ∷ placed) puts modest = absurd puts.0
