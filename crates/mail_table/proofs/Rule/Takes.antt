-- A take keeps the rule: the load of the tail word, and the store of the head word.
use Rattle.std.proofs.Common.{◌≡◌, ℕ, ◌+◌, ◌%◌, ◌<◌, ◌≤◌, Bool, true, false, nat_eq, MatchBool, List, [], ◌∷◌, ◌++◌, length, set, Option, None, Some, refl, sym, ap, ◌∙◌, subst, arith, append-nil, length-set, mod-lt, if◌then◌else◌}
use Rattle.std.proofs.lemmas.Bool.{eq-eqb, ltb-true, ne_eqb}
use Rattle.std.proofs.lemmas.List.{get_or-set_same, get_or-set_other}
use mathlib.Core.Option.{some, none}
use lib.ListN.{get_elem?}
use Rattle.atomic_table.specs.Table.{Act, Allows, Valid, carried_after, gives, keeps, put_back, step, stepped, takes}
use Rattle.atomic_table.proofs.Lists.{set_else}
use Rattle.list_facts.proofs.Prefix.{prefix_length}
use Rattle.msg_codec.specs.declared.letter.Letter.{Letter}
use Rattle.world_core.specs.declared.entry.Entry.TheVariants.{Took}
use Rattle.world_core.specs.Log.{batches_put, batches_taken}
use Rattle.world_core.specs.Modest.{IsModest}
use Rattle.world_core.proofs.Log.Appended.{batches_put-took, batches_taken-took}
use Rattle.ygm_route.specs.Layout.{max_ranks}
use Rattle.mail_table.specs.declared.settings.Settings.{Settings}
use Rattle.mail_table.specs.declared.views.RankView.{RankView}
use Rattle.mail_table.specs.declared.views.View.{View}
use Rattle.mail_table.specs.OneLink.{Homes, LinkAgrees}
use Rattle.mail_table.specs.Rule.{LinkAt, Mails, Rule, is_at, word_at}
use Rattle.mail_table.specs.Steps.{LoadsTail, Seated, StoresHead, TailLoaded, after_free, after_tail, has_more, local_in, slot_from, taken_in}
use Rattle.mail_table.specs.Views.{knowing, loaded_at, mine}
use Rattle.mail_table.specs.Words.{base, head_at, slot_at, tail_at}
use Rattle.mail_table.proofs.Found.{found_one, found_there}
use Rattle.mail_table.proofs.OneLink.EachStep.{frees, takes as takes_out}
use Rattle.mail_table.proofs.Rule.OneRank.{IsHere, after_load, after_store, all_ranks, is_here}
use Rattle.mail_table.proofs.Rule.OtherLinks.{Other, SamePuts, SameTakes, link_from, links_after}
use Rattle.mail_table.proofs.Rule.Worlds.{TakeLaw, modest_here, world_after_take, world_stays}
use Rattle.mail_table.proofs.Words.Apart.{base_within, head_some, head_within, no_head, one_head, one_tail}

module _ (seat from : ℕ) (me : Seated) (one : me.0.ranks ≡ mine me.0 ∷ []) (in_from : from < me.0.settings.layout.ranks) where
  abbrev v : View
  v = me.0

  abbrev settings : Settings
  settings = v.settings

  abbrev rank : ℕ
  rank = v.first

  abbrev h : RankView
  h = mine v

  abbrev ring : ℕ
  ring = settings.ring

  abbrev here_base : ℕ
  here_base = base settings.layout.ranks ring from rank

  abbrev ts : List (List Letter)
  ts = batches_taken from h.log

  module _ (s : Mails) (r : Rule settings s) (at : get_elem? s.views seat ≡ some v) where
    here : IsHere settings s r seat rank v
    here = is_here settings s r seat rank v at refl one

    few : settings.layout.ranks ≤ max_ranks
    few = r.bounds.laid_out.few_ranks

    wide : here_base + ring ≤ length s.homes
    wide = subst (λ (k : ℕ). here_base + ring ≤ k) (sym r.slots) (base_within settings.layout.ranks ring from rank in_from here.within)

    sender : (a : RankView) × (get_elem? r.ranks from ≡ some a)
    sender = found_there r.ranks from (subst (λ (k : ℕ). from < k) (sym (all_ranks settings s r)) in_from)

    -- ---- the tail word is loaded

    module _ (idle : h.emptying ≡ None) where
      abbrev found : ℕ
      found = word_at s.words (tail_at from rank)

      -- the slot of the batch that comes next
      abbrev next_slot : ℕ
      next_slot = slot_at settings.layout.ranks ring from rank (length ts)

      -- the link, with any sender
      link : (a : RankView) → get_elem? r.ranks from ≡ some a → LinkAgrees ring here_base s.homes found (word_at s.words (head_at from rank)) (batches_put rank a.log) (is_at a.filling rank) ts false
      link a there = subst (λ (e : Option ℕ). LinkAgrees ring here_base s.homes found (word_at s.words (head_at from rank)) (batches_put rank a.log) (is_at a.filling rank) ts (is_at e from)) idle (r.links from rank a h there here.there)

      low : length ts ≤ found
      low =
          let ok = link sender.0 sender.1 in
          let p : ℕ = length (batches_put rank sender.0.log) in let t : ℕ = length ts in
          let is : found ≡ p = ok.tail_is in let within : t ≤ p = prefix_length ok.taken_are in omega arith

      abbrev TailTold : Bool → View → List (ℕ × Option (List Letter)) → List Letter → Type 0
      TailTold b w out batch = (w ≡ after_tail v from found b batch) × MatchBool b ((out ≡ (next_slot, Some batch) ∷ me.1) × IsModest (local_in w)) (out ≡ me.1)

      abbrev TailGoes : Bool → Type 0
      TailGoes b = (w : View) × (a : Act (Option (List Letter))) × (batch : List Letter) × Valid s.homes me.1 a × Rule settings (stepped s (tail_at from rank) found seat me.1 w a) × TailTold b w (carried_after me.1 a) batch

      goes : TakeLaw → (b : Bool) → has_more v from found ≡ b → TailGoes b
      goes law true e =
          let t : ℕ = length ts in
          let there : t < found = ltb-true t found e in
          let ok = link sender.0 sender.1 in
          let got = takes_out ring here_base r.bounds.some_ring s.homes wide (batches_put rank sender.0.log) found (word_at s.words (head_at from rank)) ts (is_at sender.0.filling rank) ok (subst (λ (k : ℕ). t < k) ok.tail_is there) in
          let batch : List Letter = got.0 in
          let new : RankView = record h { log = h.log ++ Took from batch ∷ []; tails = loaded_at h.tails from found; emptying = Some from } in
          let homes' : Homes (List Letter) = set s.homes next_slot none in
          let world = world_after_take settings r.ranks rank h new here.there law from sender.0 batch sender.1 refl got.1 r.world in
          let puts_as : (q : ℕ) → SamePuts h new q = λ q. record { put = batches_put-took h.log from q batch; filling = refl } in
          let takes_as : (p : ℕ) → Other from rank p rank → SameTakes h new p = λ p other.
          let apart : nat_eq from p ≡ false = ne_eqb from p (λ z. other (sym z) refl) in record {
            taken = batches_taken-took h.log from p batch ∙ ap (λ (b : Bool). batches_taken p h.log ++ (if b then batch ∷ [] else [])) apart ∙ append-nil (batches_taken p h.log);
            emptying = apart ∙ sym (ap (λ (e : Option ℕ). is_at e p) idle);
          } in
          let more : batches_taken from new.log ≡ ts ++ batch ∷ [] = batches_taken-took h.log from from batch ∙ ap (λ (b : Bool). ts ++ (if b then batch ∷ [] else [])) (eq-eqb from from refl) in
          let now : (a : RankView) → get_elem? r.ranks from ≡ some a → LinkAt settings homes' s.words from rank a new = λ a at_a.
          subst (λ (z : List (List Letter) × Bool × List (List Letter) × Bool). LinkAgrees ring here_base homes' found (word_at s.words (head_at from rank)) z.0 z.1 z.2 z.3)
          (λ i. (batches_put rank (found_one r.ranks from sender.0 a sender.1 at_a i).log, is_at (found_one r.ranks from sender.0 a sender.1 at_a i).filling rank, sym more i, sym (eq-eqb from from refl) i)) got.3 in (
            knowing v new,
            takes next_slot (Some batch),
            batch,
            got.2,
            after_load settings s r seat v new homes' (tail_at from rank) at one (length-set s.homes next_slot none) refl
                (links_after settings r.ranks (all_ranks settings s r) rank h new here.there from rank here.within (λ q other. puts_as q) takes_as r.bounds.some_ring s.homes homes' s.words s.words (λ p q _ _ other. refl) (λ p q _ _ other. refl)
                (λ k free. set_else s.homes next_slot k none (free (length ts % ring) (mod-lt (length ts) r.bounds.some_ring)))
                r.links (link_from settings homes' s.words r.ranks rank h new here.there from (puts_as rank) now))
                world,
            (refl, (refl, modest_here settings r.ranks rank h new here.there here.near here.within world)),
          )
      goes law false e =
          let new : RankView = record h { tails = loaded_at h.tails from found } in
          let puts_as : (q : ℕ) → SamePuts h new q = λ q. record { put = refl; filling = refl } in
          let takes_as : (p : ℕ) → SameTakes h new p = λ p. record { taken = refl; emptying = refl } in (
            knowing v new,
            keeps,
            [],
            tt,
            after_load settings s r seat v new s.homes (tail_at from rank) at one refl refl
                (links_after settings r.ranks (all_ranks settings s r) rank h new here.there from rank here.within (λ q other. puts_as q) (λ p other. takes_as p) r.bounds.some_ring s.homes s.homes s.words s.words (λ p q _ _ other. refl) (λ p q _ _ other. refl) (λ k free. refl)
                r.links (link_from settings s.homes s.words r.ranks rank h new here.there from (puts_as rank) (λ a at_a. r.links from rank a h at_a here.there)))
                (world_stays settings r.ranks rank h new here.there refl r.world),
            (refl, refl),
          )

  pub loads_tail : TakeLaw → h.emptying ≡ None → (slots : ℕ) → Allows (Rule settings) slots seat me (tail_at from rank) (λ k. k) (LoadsTail (step slots (tail_at from rank) 0 0 none) me)
  loads_tail law idle slots s r wide_ at small =
      let done = goes s r at idle law (has_more v from (found s r at idle)) refl in (
        done.0,
        done.1,
        done.3,
        done.4,
        λ from' in_from' same.
            let few_ = few s r at in let within = (here s r at).within in
            let is : from ≡ from' = (one_tail from rank from' rank (omega (arith, few_, within)) (omega (arith, few_, within)) same).0 in
            subst (λ (q : ℕ). TailLoaded q (found s r at idle) me (done.0, carried_after me.1 done.1)) is (record { batch = done.2; view = done.5.0; low = low s r at idle; hand = done.5.1 }),
      )

  -- ---- the head word is stored

  pub stores_head : (number head : ℕ) (value : Option (List Letter)) → h.emptying ≡ Some from → me.1 ≡ (slot_from v from number, value) ∷ [] → taken_in v from ≡ number + 1 → head ≡ number + 1 →
      (slots : ℕ) → Allows (Rule settings) slots seat me (head_at from rank) (λ _. head) (λ _. StoresHead (step slots (head_at from rank) head 0 none) me head)
  stores_head number head value busy hand before next slots s r wide_ at small = (
    after_free v,
    gives,
    tt,
    subst (λ (homes : Homes (List Letter)). Rule settings record { words = words'; homes = homes; views = set s.views seat (knowing v new) }) (sym (ap (put_back s.homes) hand)) ruled,
    refl,
  )
    where
      the : IsHere settings s r seat rank v
      the = here s r at

      near_rank : rank < max_ranks
      near_rank = let few_ = few s r at in let within = the.within in omega (arith, few_, within)

      near_from : from < max_ranks
      near_from = let few_ = few s r at in omega (arith, few_, in_from)

      new : RankView
      new = record h { emptying = None }

      k0 : ℕ
      k0 = slot_from v from number

      homes' : Homes (List Letter)
      homes' = set s.homes k0 (some value)

      words' : List ℕ
      words' = set s.words (head_at from rank) head

      long : head_at from rank < length s.words
      long = subst (λ (k : ℕ). head_at from rank < k) (sym r.words) (head_within settings.layout.ranks from rank the.within near_from)

      puts_as : (q : ℕ) → SamePuts h new q
      puts_as q = record { put = refl; filling = refl }

      takes_as : (p : ℕ) → Other from rank p rank → SameTakes h new p
      takes_as p other = record { taken = refl; emptying = sym (ap (λ (e : Option ℕ). is_at e p) busy ∙ ne_eqb from p (λ z. other (sym z) refl)) }

      now : (a : RankView) → get_elem? r.ranks from ≡ some a → LinkAt settings homes' words' from rank a new
      now a there =
          let old = subst (λ (f : Bool). LinkAgrees ring here_base s.homes (word_at s.words (tail_at from rank)) (word_at s.words (head_at from rank)) (batches_put rank a.log) (is_at a.filling rank) ts f)
          (ap (λ (e : Option ℕ). is_at e from) busy ∙ eq-eqb from from refl) (r.links from rank a h there the.there) in
          subst (λ (tail : ℕ). LinkAgrees ring here_base homes' tail (word_at words' (head_at from rank)) (batches_put rank a.log) (is_at a.filling rank) ts false)
          (sym (get_or-set_other s.words (head_at from rank) (tail_at from rank) head 0 (λ z. no_head from rank from rank near_rank near_from z)))
          (frees ring here_base r.bounds.some_ring s.homes (wide s r at) (batches_put rank a.log) (word_at s.words (tail_at from rank)) (word_at s.words (head_at from rank)) ts (is_at a.filling rank) value
          (word_at words' (head_at from rank)) number (get_or-set_same s.words (head_at from rank) head 0 long ∙ next ∙ sym before) before old)

      ruled : Rule settings record { words = words'; homes = homes'; views = set s.views seat (knowing v new) }
      ruled = after_store settings s r seat v new homes' (head_at from rank) head (head_some from rank) at one (length-set s.homes k0 (some value)) refl
          (links_after settings r.ranks (all_ranks settings s r) rank h new the.there from rank the.within (λ q other. puts_as q) takes_as r.bounds.some_ring s.homes homes' s.words words'
          (λ p q in_p in_q other. get_or-set_other s.words (head_at from rank) (tail_at p q) head 0
          (λ e. no_head p q from rank (let few_ = few s r at in omega (arith, few_, in_q)) near_from e))
          (λ p q in_p in_q other. get_or-set_other s.words (head_at from rank) (head_at p q) head 0
          (λ e. let same = one_head p q from rank (let few_ = few s r at in omega (arith, few_, in_p)) near_from e in other same.0 same.1))
          (λ k free. set_else s.homes k0 k (some value) (free (number % ring) (mod-lt number r.bounds.some_ring)))
          r.links (link_from settings homes' words' r.ranks rank h new the.there from (puts_as rank) now))
          (world_stays settings r.ranks rank h new the.there refl r.world)
