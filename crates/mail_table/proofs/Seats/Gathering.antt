-- Passes are joined, from the last to the first.
use Rattle.std.proofs.Common.{◌≡◌, ℕ, ◌+◌, List, [], ◌∷◌, ◌++◌, length, slice_get, refl, sym, ap, ◌∙◌, subst, arith, length-append}
use Rattle.std.proofs.lemmas.List.{append_assoc, length-map, map-append}
use Rattle.atomic_table.specs.Table.{Joins}
use Rattle.list_facts.proofs.Places.{item_at_end, item_still}
use Rattle.world_core.specs.declared.entry.Entry.{Entry}
use Rattle.mail_table.specs.declared.settings.Settings.{Settings}
use Rattle.mail_table.specs.declared.views.RankView.{RankView}
use Rattle.mail_table.specs.Rule.{Rule, logs_of}
use Rattle.mail_table.specs.Seats.{HasLogs}
use Rattle.mail_table.specs.Steps.{Seated}
use Rattle.mail_table.specs.Table.{InOrder, IsPassOf, PassState, TableState, logs_in}
use Rattle.mail_table.specs.Views.{joined, spent}
use Rattle.mail_table.proofs.Found.{found_there}
use Rattle.mail_table.proofs.Rule.Passes.{gathers}

-- ---- the last of several passes, and those before it

module _ (table : TableState) (passes before : List PassState) (last : PassState) (is : passes ≡ before ++ last ∷ []) where
  pub last_in_order : InOrder table passes → IsPassOf table last × (last.rank ≡ length before)
  last_in_order each = each (length before) last (ap (λ (l : List PassState). slice_get l (length before)) is ∙ item_at_end before last [])

  pub before_in_order : InOrder table passes → InOrder table before
  before_in_order each k pass at = each k pass (ap (λ (l : List PassState). slice_get l k) is ∙ item_still before (last ∷ []) k pass at)

  pub logs_cut : (logs : List (List Entry)) → logs_in before ++ (last.log ∷ logs) ≡ logs_in passes ++ logs
  logs_cut logs = sym (append_assoc (logs_in before) (last.log ∷ []) logs) ∙ ap (λ (l : List (List Entry)). l ++ logs) (sym (map-append (λ (pass : PassState). pass.log) before (last ∷ [])) ∙ ap logs_in (sym is))

-- ---- two seats

module _ (settings : Settings) (rank : ℕ) (log : List Entry) (logs : List (List Entry)) (seat others : Seated) (has : HasLogs settings rank (log ∷ []) seat) (next : HasLogs settings (rank + 1) logs others) where
  one : length seat.0.ranks ≡ 1
  one = sym (length-map seat.0.ranks (λ (r : RankView). r.log)) ∙ ap length has.logs_are

  pub may_join : (key : Settings) (id other : ℕ) → Joins (Rule key) id seat.0 other others.0 (joined seat.0 others.0) spent
  may_join key id other =
      let first = found_there seat.0.ranks 0 has.some_rank in
      gathers key id seat.0 other others.0 first.0 first.1 (next.first_is ∙ (λ i. sym has.first_is i + sym one i))

  pub has_both : (new : Seated) → new ≡ (joined seat.0 others.0, seat.1) → HasLogs settings rank (log ∷ logs) new
  has_both new e = subst (HasLogs settings rank (log ∷ logs)) (sym e) (record {
    first_is = has.first_is;
    settings_are = has.settings_are;
    logs_are = map-append (λ (r : RankView). r.log) seat.0.ranks others.0.ranks ∙ (λ i. has.logs_are i ++ next.logs_are i);
    some_rank = omega (arith, one, length-append seat.0.ranks others.0.ranks);
    hand = has.hand;
  })

-- the same seat, by what the loop knows of it
pub has_at : (settings settings' : Settings) (rank rank' : ℕ) (logs : List (List Entry)) (seat : Seated) → settings' ≡ settings → rank' ≡ rank → HasLogs settings' rank' logs seat → HasLogs settings rank logs seat
has_at settings settings' rank rank' logs seat e f has = subst (λ (z : Settings × ℕ). HasLogs z.0 z.1 logs seat) (λ i. (e i, f i)) has

pub has_own : (settings : Settings) (rank : ℕ) (logs : List (List Entry)) (seat : Seated) → HasLogs settings rank logs seat → HasLogs settings rank (logs_of seat.0.ranks) seat
has_own settings rank logs seat has = record { first_is = has.first_is; settings_are = has.settings_are; logs_are = refl; some_rank = has.some_rank; hand = has.hand }
