-- The steps on the stop word keep the rule.
use Rattle.std.proofs.Common.{◌≡◌, ℕ, ◌<◌, true, [], ◌∷◌, length, set, refl, sym, ap, ◌∙◌, arith, length-set}
use Rattle.std.proofs.lemmas.List.{get_or-set_same, get_or-set_other}
use mathlib.Core.Option.{none}
use Rattle.atomic_table.specs.Table.{Allows, keeps, step}
use Rattle.mail_table.specs.declared.settings.Settings.{Settings}
use Rattle.mail_table.specs.declared.views.RankView.{RankView}
use Rattle.mail_table.specs.declared.views.View.{View}
use Rattle.mail_table.specs.Calls.{is_raised}
use Rattle.mail_table.specs.OneLink.{one_if}
use Rattle.mail_table.specs.Rule.{Mails, Rule, word_at}
use Rattle.mail_table.specs.Steps.{LoadsStop, Seated, StoresStop}
use Rattle.mail_table.specs.Views.{knowing, loaded, mine}
use Rattle.mail_table.specs.Words.{head_at, stop_word, tail_at, words_of}
use Rattle.mail_table.proofs.Rule.OneRank.{after_load, all_ranks, is_here, rebuilt}
use Rattle.mail_table.proofs.Rule.OtherLinks.{every_link}
use Rattle.mail_table.proofs.Rule.Stops.{now_raised, was_raised}
use Rattle.mail_table.proofs.Rule.Worlds.{world_stays}
use Rattle.mail_table.proofs.Words.Apart.{head_some, tail_some}

module _ (seat : ℕ) (me : Seated) (one : me.0.ranks ≡ mine me.0 ∷ []) where
  abbrev v : View
  v = me.0

  abbrev settings : Settings
  settings = v.settings

  abbrev rank : ℕ
  rank = v.first

  abbrev h : RankView
  h = mine v

  some_word : (s : Mails) → Rule settings s → stop_word < length s.words
  some_word s r = let long : length s.words ≡ words_of settings.layout.ranks = r.words in omega (arith, long)

  pub stores_stop : (slots : ℕ) → Allows (Rule settings) slots seat me stop_word (λ _. 1) (λ _. StoresStop (step slots stop_word 1 0 none) me 1)
  stores_stop slots s r wide at small =
      let the = is_here settings s r seat rank v at refl one in
      let new : RankView = record h { raised = true } in (
        knowing v new,
        keeps,
        tt,
        rebuilt settings s r seat rank v new (set s.words stop_word 1) s.homes at refl one refl (length-set s.words stop_word 1)
            (every_link settings r.ranks (all_ranks settings s r) rank h new the.there the.within r.bounds.some_ring (λ q. record { put = refl; filling = refl }) (λ p. record { taken = refl; emptying = refl }) s.homes s.words (set s.words stop_word 1)
            (λ p q. get_or-set_other s.words stop_word (tail_at p q) 1 0 (tail_some p q)) (λ p q. get_or-set_other s.words stop_word (head_at p q) 1 0 (head_some p q)) r.links)
            (get_or-set_same s.words stop_word 1 0 (some_word s r) ∙ ap one_if (sym (now_raised r.ranks rank new the.near refl)))
            (world_stays settings r.ranks rank h new the.there refl r.world),
        refl,
      )

  pub loads_stop : (slots : ℕ) → Allows (Rule settings) slots seat me stop_word (λ n. n) (LoadsStop (step slots stop_word 0 0 none) me)
  loads_stop slots s r wide at small =
      let the = is_here settings s r seat rank v at refl one in
      let found : ℕ = word_at s.words stop_word in
      let new : RankView = record h { stop = loaded h.stop found } in (
        knowing v new,
        keeps,
        tt,
        after_load settings s r seat v new s.homes stop_word at one refl refl
            (every_link settings r.ranks (all_ranks settings s r) rank h new the.there the.within r.bounds.some_ring (λ q. record { put = refl; filling = refl }) (λ p. record { taken = refl; emptying = refl }) s.homes s.words s.words (λ p q. refl) (λ p q. refl) r.links)
            (world_stays settings r.ranks rank h new the.there refl r.world),
        record {
          after = refl;
          own = λ e. ap is_raised (r.stop ∙ ap one_if (was_raised r.ranks rank h the.there e));
        },
      )
