-- The logs of all ranks, after a step of one: the world half of the rule. A put and a take keep it by the laws of world_core,
-- and every other step leaves the logs unchanged.
use Rattle.std.proofs.Common.{◌≡◌, ℕ, zero, suc, ◌<◌, List, [], ◌∷◌, ◌++◌, length, get_or, set, slice_get, None, Some, sym, ap, ◌∙◌, subst, refl}
use mathlib.Core.Option.{some, some-injective, some-ne-none}
use lib.ListN.{get_elem?}
use lib.Seq.{map-set}
use Rattle.atomic_table.proofs.Lists.{set_here}
use Rattle.msg_codec.specs.declared.letter.Letter.{Letter}
use Rattle.world_core.specs.declared.entry.Entry.{Entry}
use Rattle.world_core.specs.declared.entry.Entry.TheVariants.{Put, Took}
use Rattle.world_core.specs.Local.{local_rank}
use Rattle.world_core.specs.Log.{batches_put, batches_taken}
use Rattle.world_core.specs.Modest.{IsModest, IsWorld}
use Rattle.world_core.specs.Rules.{first_broken}
use Rattle.world_core.specs.Rules.Deed.{Puts}
use Rattle.world_core.specs.World.{Logs, gaining, local, log_of}
use Rattle.mail_table.specs.declared.settings.Settings.{Settings}
use Rattle.mail_table.specs.declared.views.RankView.{RankView}
use Rattle.mail_table.specs.Rule.{logs_of, world_in}
use Rattle.mail_table.proofs.Found.{as_slice_get}

-- the laws, as world_core has them
abbrev pub PutLaw : Type 0
PutLaw = (world : Logs) (from to : ℕ) (letters : List Letter) → IsWorld world → first_broken (local world from) (Puts to letters) ≡ None → IsWorld (gaining world from (Put to letters))

abbrev pub TakeLaw : Type 0
TakeLaw = (world : Logs) (from to : ℕ) (letters : List Letter) → IsWorld world →
    slice_get (batches_put to (log_of world from)) (length (batches_taken from (log_of world to))) ≡ Some letters → IsWorld (gaining world to (Took from letters))

log_is : (ranks : List RankView) (k : ℕ) (rank : RankView) → get_elem? ranks k ≡ some rank → get_or (logs_of ranks) k [] ≡ rank.log
log_is [] k rank e = absurd (some-ne-none rank (sym e))
log_is (x ∷ xs) zero rank e = ap (λ (y : RankView). y.log) (some-injective x rank e)
log_is (x ∷ xs) (suc k) rank e = log_is xs k rank e

same_logs : (ranks : List RankView) (k : ℕ) (old new : RankView) → get_elem? ranks k ≡ some old → new.log ≡ old.log → logs_of (set ranks k new) ≡ logs_of ranks
same_logs [] k old new at e = refl
same_logs (x ∷ xs) zero old new at e = λ i. (e ∙ ap (λ (y : RankView). y.log) (sym (some-injective x old at))) i ∷ logs_of xs
same_logs (x ∷ xs) (suc k) old new at e = ap (λ (logs : List (List Entry)). x.log ∷ logs) (same_logs xs k old new at e)

module _ (settings : Settings) (ranks : List RankView) (k : ℕ) (old new : RankView) (at : get_elem? ranks k ≡ some old) where
  gained : (entry : Entry) → new.log ≡ old.log ++ entry ∷ [] → gaining (world_in settings ranks) k entry ≡ world_in settings (set ranks k new)
  gained entry is = ap (λ (logs : List (List Entry)). record { layout = settings.layout; scheme = settings.scheme; logs = logs })
      (ap (λ (log : List Entry). set (logs_of ranks) k (log ++ entry ∷ [])) (log_is ranks k old at) ∙ ap (set (logs_of ranks) k) (sym is) ∙ sym (map-set (λ (x : RankView). x.log) ranks k new))

  -- the logs are unchanged
  pub world_stays : new.log ≡ old.log → IsWorld (world_in settings ranks) → IsWorld (world_in settings (set ranks k new))
  world_stays e world = subst (λ (logs : List (List Entry)). IsWorld (record { layout = settings.layout; scheme = settings.scheme; logs = logs })) (sym (same_logs ranks k old new at e)) world

  -- the rank puts a batch
  pub world_after_put : PutLaw → (to : ℕ) (batch : List Letter) → new.log ≡ old.log ++ Put to batch ∷ [] →
      first_broken (local_rank settings.layout settings.scheme k old.log) (Puts to batch) ≡ None → IsWorld (world_in settings ranks) → IsWorld (world_in settings (set ranks k new))
  world_after_put law to batch is honest world = subst IsWorld (gained (Put to batch) is)
      (law (world_in settings ranks) k to batch world (subst (λ (log : List Entry). first_broken (local_rank settings.layout settings.scheme k log) (Puts to batch) ≡ None) (sym (log_is ranks k old at)) honest))

  -- the rank takes the batch that comes next
  pub world_after_take : TakeLaw → (from : ℕ) (sender : RankView) (batch : List Letter) → get_elem? ranks from ≡ some sender → new.log ≡ old.log ++ Took from batch ∷ [] →
      get_elem? (batches_put k sender.log) (length (batches_taken from old.log)) ≡ some batch → IsWorld (world_in settings ranks) → IsWorld (world_in settings (set ranks k new))
  world_after_take law from sender batch at_sender is next world = subst IsWorld (gained (Took from batch) is)
      (law (world_in settings ranks) from k batch world
      (subst (λ (z : List Entry × List Entry). slice_get (batches_put k z.0) (length (batches_taken from z.1)) ≡ Some batch) (λ i. (sym (log_is ranks from sender at_sender) i, sym (log_is ranks k old at) i))
      (as_slice_get (batches_put k sender.log) (length (batches_taken from old.log)) batch next)))

  -- the log of each rank is modest
  pub modest_here : k < length ranks → k < settings.layout.ranks → IsWorld (world_in settings (set ranks k new)) → IsModest (local_rank settings.layout settings.scheme k new.log)
  modest_here near within world =
      subst (λ (log : List Entry). IsModest (local_rank settings.layout settings.scheme k log)) (log_is (set ranks k new) k new (set_here ranks k new near)) (world.modest k within)
