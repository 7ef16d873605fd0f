-- The steps as the calls make them: with the settings of the table, and by the rank and the word that they name.
use Rattle.std.proofs.Common.{◌≡◌, ℕ, ◌+◌, ◌<◌, List, [], ◌∷◌, Option, None, Some, sym, ap, ◌∙◌, subst, arith}
use mathlib.Core.Option.{none}
use Rattle.atomic_table.specs.Seated.{TableId}
use Rattle.atomic_table.specs.Table.{Allows, step}
use Rattle.msg_codec.specs.declared.letter.Letter.{Letter}
use Rattle.world_core.specs.Rules.{first_broken}
use Rattle.world_core.specs.Rules.Deed.{Puts}
use Rattle.ygm_route.specs.Layout.{max_ranks}
use Rattle.mail_table.specs.declared.settings.Settings.{Settings}
use Rattle.mail_table.specs.Rule.{Rule}
use Rattle.mail_table.specs.Seats.{IsAt, IsEmptying, IsFilling, IsLaidOut, IsOf}
use Rattle.mail_table.specs.Steps.{HeadLoaded, LoadsHead, LoadsStop, LoadsTail, Seated, StoresHead, StoresStop, StoresTail, TailLoaded, local_in, slot_to}
use Rattle.mail_table.specs.Table.{IsSettings}
use Rattle.mail_table.specs.Words.{head_at, stop_word, tail_at}
use Rattle.mail_table.proofs.Rule.Puts.{loads_head, stores_tail}
use Rattle.mail_table.proofs.Rule.StopWord.{loads_stop, stores_stop}
use Rattle.mail_table.proofs.Rule.Takes.{loads_tail, stores_head}
use Rattle.mail_table.proofs.Rule.Worlds.{PutLaw, TakeLaw}
use Rattle.mail_table.proofs.Words.Apart.{head_within, tail_within}

module _ (settings : Settings) (bounds : IsSettings settings) where
  pub below_most : (rank : ℕ) → rank < settings.layout.ranks → rank < max_ranks
  below_most rank within = let few = bounds.laid_out.few_ranks in omega (arith, few, within)

  module _ (id : TableId) (laid : IsLaidOut settings id) (from to word : ℕ) (in_from : from < settings.layout.ranks) (in_to : to < settings.layout.ranks) where
    pub head_in : word ≡ head_at from to → word < id.words
    head_in e = let within = head_within settings.layout.ranks from to in_to (below_most from in_from) in let words = laid.words in omega (arith, e, within, words)

    pub tail_in : word ≡ tail_at from to → word < id.words
    tail_in e = let within = tail_within settings.layout.ranks from to in_from (below_most to in_to) in let words = laid.words in omega (arith, e, within, words)

  pub stop_in : (id : TableId) → IsLaidOut settings id → stop_word < id.words
  stop_in id laid = let words = laid.words in omega (arith, words)

module _ (key settings : Settings) (key_is : key ≡ settings) (slots seat rank word : ℕ) (me : Seated) (of : IsOf settings rank me.0) where
  -- the settings, and a word of a link with another rank
  key_here : me.0.settings ≡ key
  key_here = of.settings_are ∙ sym key_is

  there : (other : ℕ) → other < settings.layout.ranks → other < me.0.settings.layout.ranks
  there other within = subst (λ (s : Settings). other < s.layout.ranks) (sym of.settings_are) within

  head_to : (to : ℕ) → word ≡ head_at rank to → head_at me.0.first to ≡ word
  head_to to e = ap (λ (n : ℕ). head_at n to) of.first ∙ sym e

  head_from : (from : ℕ) → word ≡ head_at from rank → head_at from me.0.first ≡ word
  head_from from e = ap (λ (n : ℕ). head_at from n) of.first ∙ sym e

  tail_to : (to : ℕ) → word ≡ tail_at rank to → tail_at me.0.first to ≡ word
  tail_to to e = ap (λ (n : ℕ). tail_at n to) of.first ∙ sym e

  tail_from : (from : ℕ) → word ≡ tail_at from rank → tail_at from me.0.first ≡ word
  tail_from from e = ap (λ (n : ℕ). tail_at from n) of.first ∙ sym e

  -- ---- the head word is loaded

  pub may_load_head : IsAt settings rank me → (to : ℕ) → to < settings.layout.ranks → word ≡ head_at rank to → Allows (Rule key) slots seat me word (λ k. k) (LoadsHead (step slots word 0 0 none) me)
  may_load_head at to within e =
      subst (λ (z : Settings × ℕ). Allows (Rule z.0) slots seat me z.1 (λ k. k) (LoadsHead (step slots z.1 0 0 none) me)) (λ i. (key_here i, head_to to e i))
      (loads_head seat to me of.one (there to within) at.fills_none slots)

  pub head_loaded : (to found : ℕ) (new : Seated) → to < settings.layout.ranks → word ≡ head_at rank to → LoadsHead (step slots word 0 0 none) me found new → HeadLoaded to found me new
  head_loaded to found new within e loads = loads to (there to within) (sym (head_to to e))

  -- ---- the tail word is stored

  pub may_store_tail : PutLaw → (to number tail : ℕ) (batch : List Letter) → IsFilling settings rank to number (Some batch) me → word ≡ tail_at rank to → tail ≡ number + 1 → first_broken (local_in me.0) (Puts to batch) ≡ None →
      Allows (Rule key) slots seat me word (λ _. tail) (λ _. StoresTail (step slots word tail 0 none) me tail)
  may_store_tail law to number tail batch filling e next honest =
      subst (λ (z : Settings × ℕ). Allows (Rule z.0) slots seat me z.1 (λ _. tail) (λ _. StoresTail (step slots z.1 tail 0 none) me tail)) (λ i. (key_here i, tail_to to e i))
      (stores_tail seat to me of.one (there to filling.within) law batch tail filling.filling
      (filling.hand ∙ ap (λ (n : ℕ). (slot_to me.0 to n, Some batch) ∷ []) filling.number_is) (next ∙ ap (λ (n : ℕ). n + 1) filling.number_is) honest slots)

  -- ---- the tail word is loaded

  pub may_load_tail : TakeLaw → IsAt settings rank me → (from : ℕ) → from < settings.layout.ranks → word ≡ tail_at from rank → Allows (Rule key) slots seat me word (λ k. k) (LoadsTail (step slots word 0 0 none) me)
  may_load_tail law at from within e =
      subst (λ (z : Settings × ℕ). Allows (Rule z.0) slots seat me z.1 (λ k. k) (LoadsTail (step slots z.1 0 0 none) me)) (λ i. (key_here i, tail_from from e i))
      (loads_tail seat from me of.one (there from within) law at.empties_none slots)

  pub tail_loaded : (from found : ℕ) (new : Seated) → from < settings.layout.ranks → word ≡ tail_at from rank → LoadsTail (step slots word 0 0 none) me found new → TailLoaded from found me new
  tail_loaded from found new within e loads = loads from (there from within) (sym (tail_from from e))

  -- ---- the head word is stored

  pub may_store_head : (from number head : ℕ) (value : Option (List Letter)) → IsEmptying settings rank from number value me → word ≡ head_at from rank → head ≡ number + 1 →
      Allows (Rule key) slots seat me word (λ _. head) (λ _. StoresHead (step slots word head 0 none) me head)
  may_store_head from number head value emptying e next =
      subst (λ (z : Settings × ℕ). Allows (Rule z.0) slots seat me z.1 (λ _. head) (λ _. StoresHead (step slots z.1 head 0 none) me head)) (λ i. (key_here i, head_from from e i))
      (stores_head seat from me of.one (there from emptying.within) number head value emptying.emptying emptying.hand emptying.number_is next slots)

  -- ---- the stop word

  pub may_store_stop : Allows (Rule key) slots seat me stop_word (λ _. 1) (λ _. StoresStop (step slots stop_word 1 0 none) me 1)
  may_store_stop = subst (λ (s : Settings). Allows (Rule s) slots seat me stop_word (λ _. 1) (λ _. StoresStop (step slots stop_word 1 0 none) me 1)) key_here (stores_stop seat me of.one slots)

  pub may_load_stop : Allows (Rule key) slots seat me stop_word (λ n. n) (LoadsStop (step slots stop_word 0 0 none) me)
  may_load_stop = subst (λ (s : Settings). Allows (Rule s) slots seat me stop_word (λ n. n) (LoadsStop (step slots stop_word 0 0 none) me)) key_here (loads_stop seat me of.one slots)
