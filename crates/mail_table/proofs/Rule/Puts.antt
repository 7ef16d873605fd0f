-- A put keeps the rule: the load of the head word, and the store of the tail word.
use Rattle.std.proofs.Common.{◌≡◌, ◌≢◌, ◌⊎◌, ℕ, ◌+◌, ◌%◌, ◌<◌, ◌≤◌, Bool, true, false, not, nat_eq, MatchBool, List, [], ◌∷◌, ◌++◌, length, set, Option, None, Some, refl, sym, ap, ◌∙◌, subst, inl, inr, arith, append-nil, length-set, mod-lt, if◌then◌else◌}
use Rattle.std.proofs.lemmas.Bool.{eq-eqb, ne_eqb}
use Rattle.std.proofs.lemmas.List.{get_or-set_same, get_or-set_other}
use mathlib.Core.Option.{some, none}
use mathlib.Core.Option as maybe
use lib.ListN.{get_elem?}
use Rattle.atomic_table.specs.Table.{Act, Allows, Valid, carried_after, gives, keeps, put_back, step, stepped, takes}
use Rattle.atomic_table.proofs.Lists.{set_else}
use Rattle.list_facts.proofs.Prefix.{prefix_length}
use Rattle.msg_codec.specs.declared.letter.Letter.{Letter}
use Rattle.world_core.specs.declared.entry.Entry.TheVariants.{Put}
use Rattle.world_core.specs.Log.{batches_put, batches_taken}
use Rattle.world_core.specs.Rules.{first_broken}
use Rattle.world_core.specs.Rules.Deed.{Puts}
use Rattle.world_core.proofs.Log.Appended.{batches_put-put, batches_taken-put}
use Rattle.ygm_route.specs.Layout.{max_ranks}
use Rattle.mail_table.specs.declared.settings.Settings.{Settings}
use Rattle.mail_table.specs.declared.views.RankView.{RankView}
use Rattle.mail_table.specs.declared.views.View.{View}
use Rattle.mail_table.specs.OneLink.{Homes, LinkAgrees, one_if}
use Rattle.mail_table.specs.Rule.{LinkAt, Mails, Rule, is_at, word_at}
use Rattle.mail_table.specs.Steps.{HeadLoaded, LoadsHead, Seated, StoresTail, after_head, after_put, batch_in, has_room, local_in, put_in, rank_in, slot_to}
use Rattle.mail_table.specs.Table.{is_full_at}
use Rattle.mail_table.specs.Views.{knowing, loaded_at, mine}
use Rattle.mail_table.specs.Words.{base, head_at, slot_at, tail_at}
use Rattle.mail_table.proofs.Found.{found_there}
use Rattle.mail_table.proofs.OneLink.EachStep.{fills, puts}
use Rattle.mail_table.proofs.Rule.OneRank.{IsHere, after_load, after_store, all_ranks, is_here}
use Rattle.mail_table.proofs.Rule.OtherLinks.{Other, SamePuts, SameTakes, link_to, links_after}
use Rattle.mail_table.proofs.Rule.Worlds.{PutLaw, world_after_put, world_stays}
use Rattle.mail_table.proofs.Words.Apart.{base_within, no_head, one_head, one_tail, tail_some, tail_within}

-- a link that isn't full has room for a batch more
room_at : (settings : Settings) (put head : ℕ) → not (is_full_at settings put head) ≡ true → put < head + settings.ring
room_at settings put head e = grind (arith, e)

module _ (seat to : ℕ) (me : Seated) (one : me.0.ranks ≡ mine me.0 ∷ []) (in_to : to < me.0.settings.layout.ranks) where
  abbrev v : View
  v = me.0

  abbrev settings : Settings
  settings = v.settings

  abbrev rank : ℕ
  rank = v.first

  abbrev h : RankView
  h = mine v

  abbrev ring : ℕ
  ring = settings.ring

  abbrev here_base : ℕ
  here_base = base settings.layout.ranks ring rank to

  abbrev ps : List (List Letter)
  ps = batches_put to h.log

  -- the slot of the next batch
  abbrev next_slot : ℕ
  next_slot = slot_at settings.layout.ranks ring rank to (length ps)

  module _ (s : Mails) (r : Rule settings s) (at : get_elem? s.views seat ≡ some v) where
    here : IsHere settings s r seat rank v
    here = is_here settings s r seat rank v at refl one

    few : settings.layout.ranks ≤ max_ranks
    few = r.bounds.laid_out.few_ranks

    wide : here_base + ring ≤ length s.homes
    wide = subst (λ (k : ℕ). here_base + ring ≤ k) (sym r.slots) (base_within settings.layout.ranks ring rank to here.within in_to)

    receiver : (b : RankView) × (get_elem? r.ranks to ≡ some b)
    receiver = found_there r.ranks to (subst (λ (k : ℕ). to < k) (sym (all_ranks settings s r)) in_to)

    other_puts : (filling : Option ℕ) → (filling ≡ None) ⊎ (filling ≡ Some to) → (q : ℕ) → Other rank to rank q → is_at filling q ≡ false
    other_puts filling (inl e) q other = ap (λ (f : Option ℕ). is_at f q) e
    other_puts filling (inr e) q other = ap (λ (f : Option ℕ). is_at f q) e ∙ ne_eqb to q (λ z. other refl (sym z))

    other_slot : (filled : maybe.Option (Option (List Letter))) (k : ℕ) → ((x : ℕ) → x < ring → k ≢ here_base + x) → get_elem? (set s.homes next_slot filled) k ≡ get_elem? s.homes k
    other_slot filled k free = set_else s.homes next_slot k filled (free (length ps % ring) (mod-lt (length ps) r.bounds.some_ring))

    -- ---- the head word is loaded

    module _ (idle : h.filling ≡ None) where
      abbrev found : ℕ
      found = word_at s.words (head_at rank to)

      -- the link, with any receiver
      link : (b : RankView) → get_elem? r.ranks to ≡ some b → LinkAgrees ring here_base s.homes (word_at s.words (tail_at rank to)) found ps false (batches_taken rank b.log) (is_at b.emptying rank)
      link b there = subst (λ (f : Option ℕ). LinkAgrees ring here_base s.homes (word_at s.words (tail_at rank to)) found ps (is_at f to) (batches_taken rank b.log) (is_at b.emptying rank)) idle (r.links rank to h b here.there there)

      low : found ≤ length ps
      low =
          let ok = link receiver.0 receiver.1 in
          let p : ℕ = length ps in let t : ℕ = length (batches_taken rank receiver.0.log) in let o : ℕ = one_if (is_at receiver.0.emptying rank) in
          let is : t ≡ found + o = ok.head_is in let within : t ≤ p = prefix_length ok.taken_are in omega arith

      built : (homes' : Homes (List Letter)) (filling : Option ℕ) → length homes' ≡ length s.homes → (filling ≡ None) ⊎ (filling ≡ Some to) →
          ((k : ℕ) → ((x : ℕ) → x < ring → k ≢ here_base + x) → get_elem? homes' k ≡ get_elem? s.homes k) →
          ((b : RankView) → get_elem? r.ranks to ≡ some b → LinkAgrees ring here_base homes' (word_at s.words (tail_at rank to)) found ps (is_at filling to) (batches_taken rank b.log) (is_at b.emptying rank)) →
          Rule settings record { words = set s.words (head_at rank to) found; homes = homes'; views = set s.views seat (knowing v (record h { heads = loaded_at h.heads to found; filling = filling })) }
      built homes' filling same_long kind frame now =
          let new : RankView = record h { heads = loaded_at h.heads to found; filling = filling } in
          let puts_as : (q : ℕ) → Other rank to rank q → SamePuts h new q = λ q other. record { put = refl; filling = other_puts filling kind q other ∙ sym (ap (λ (f : Option ℕ). is_at f q) idle) } in
          let takes_as : (p : ℕ) → SameTakes h new p = λ p. record { taken = refl; emptying = refl } in
          after_load settings s r seat v new homes' (head_at rank to) at one same_long refl
          (links_after settings r.ranks (all_ranks settings s r) rank h new here.there rank to in_to puts_as (λ p other. takes_as p) r.bounds.some_ring s.homes homes' s.words s.words (λ p q _ _ other. refl) (λ p q _ _ other. refl) frame
          r.links (link_to settings homes' s.words r.ranks rank h new here.there to (takes_as rank) now))
          (world_stays settings r.ranks rank h new here.there refl r.world)

      abbrev HeadTold : Bool → View → List (ℕ × Option (List Letter)) → Type 0
      HeadTold b w out = (w ≡ after_head v to found b) × MatchBool b ((value : Option (List Letter)) × (out ≡ (next_slot, value) ∷ me.1)) (out ≡ me.1)

      abbrev HeadGoes : Bool → Type 0
      HeadGoes b = (w : View) × (a : Act (Option (List Letter))) × Valid s.homes me.1 a × Rule settings (stepped s (head_at rank to) found seat me.1 w a) × HeadTold b w (carried_after me.1 a)

      goes : (b : Bool) → has_room v to found ≡ b → HeadGoes b
      goes true e =
          let roomy = room_at settings (length ps) found e in
          let fill = λ (b : RankView) (there : get_elem? r.ranks to ≡ some b). fills ring here_base r.bounds.some_ring s.homes wide ps (word_at s.words (tail_at rank to)) found (batches_taken rank b.log) (is_at b.emptying rank) (link b there) roomy in
          let got = fill receiver.0 receiver.1 in (
            knowing v (record h { heads = loaded_at h.heads to found; filling = Some to }),
            takes next_slot got.0,
            got.1,
            built (set s.homes next_slot none) (Some to) (length-set s.homes next_slot none) (inr refl) (other_slot none)
                (λ b there. subst (λ (f : Bool). LinkAgrees ring here_base (set s.homes next_slot none) (word_at s.words (tail_at rank to)) found ps f (batches_taken rank b.log) (is_at b.emptying rank)) (sym (eq-eqb to to refl)) (fill b there).2),
            (refl, (got.0, refl)),
          )
      goes false e = (
        knowing v (record h { heads = loaded_at h.heads to found }),
        keeps,
        tt,
        subst (λ (f : Option ℕ). Rule settings record { words = set s.words (head_at rank to) found; homes = s.homes; views = set s.views seat (knowing v (record h { heads = loaded_at h.heads to found; filling = f })) }) (sym idle)
            (built s.homes None refl (inl refl) (λ k free. refl) link),
        (refl, refl),
      )

  pub loads_head : h.filling ≡ None → (slots : ℕ) → Allows (Rule settings) slots seat me (head_at rank to) (λ k. k) (LoadsHead (step slots (head_at rank to) 0 0 none) me)
  loads_head idle slots s r wide_ at small =
      let done = goes s r at idle (has_room v to (found s r at idle)) refl in (
        done.0,
        done.1,
        done.2,
        done.3,
        λ to' in_to' same.
            let few_ = few s r at in let within = (here s r at).within in
            let is : to ≡ to' = (one_head rank to rank to' (omega (arith, few_, within)) (omega (arith, few_, within)) same).1 in
            subst (λ (q : ℕ). HeadLoaded q (found s r at idle) me (done.0, carried_after me.1 done.1)) is (record { view = done.4.0; low = low s r at idle; hand = done.4.1 }),
      )

  -- ---- the tail word is stored

  pub stores_tail : PutLaw → (batch : List Letter) (tail : ℕ) → h.filling ≡ Some to → me.1 ≡ (slot_to v to (put_in v to), Some batch) ∷ [] → tail ≡ put_in v to + 1 → first_broken (local_in v) (Puts to batch) ≡ None →
      (slots : ℕ) → Allows (Rule settings) slots seat me (tail_at rank to) (λ _. tail) (λ _. StoresTail (step slots (tail_at rank to) tail 0 none) me tail)
  stores_tail law batch tail busy hand next honest slots s r wide_ at small = (
    after_put v (batch_in me.1),
    gives,
    tt,
    subst (λ (t : Homes (List Letter) × View). Rule settings record { words = words'; homes = t.0; views = set s.views seat t.1 }) (λ i. (sym (ap (put_back s.homes) hand) i, w_is i)) ruled,
    refl,
  )
    where
      the : IsHere settings s r seat rank v
      the = here s r at

      near_to : to < max_ranks
      near_to = let few_ = few s r at in omega (arith, few_, in_to)

      near_rank : rank < max_ranks
      near_rank = let few_ = few s r at in let within = the.within in omega (arith, few_, within)

      new : RankView
      new = record h { log = h.log ++ Put to batch ∷ []; filling = None }

      homes' : Homes (List Letter)
      homes' = set s.homes next_slot (some (Some batch))

      words' : List ℕ
      words' = set s.words (tail_at rank to) tail

      w_is : knowing v new ≡ after_put v (batch_in me.1)
      w_is = ap (λ (z : ℕ × List Letter). knowing v (record h { log = h.log ++ Put z.0 z.1 ∷ []; filling = None })) (λ i. (sym (ap rank_in busy) i, sym (ap batch_in hand) i))

      long : tail_at rank to < length s.words
      long = subst (λ (k : ℕ). tail_at rank to < k) (sym r.words) (tail_within settings.layout.ranks rank to the.within near_to)

      more : batches_put to new.log ≡ ps ++ batch ∷ []
      more = batches_put-put h.log to to batch ∙ ap (λ (b : Bool). ps ++ (if b then batch ∷ [] else [])) (eq-eqb to to refl)

      puts_as : (q : ℕ) → Other rank to rank q → SamePuts h new q
      puts_as q other =
          let apart : nat_eq to q ≡ false = ne_eqb to q (λ e. other refl (sym e)) in record {
            put = batches_put-put h.log to q batch ∙ ap (λ (b : Bool). batches_put q h.log ++ (if b then batch ∷ [] else [])) apart ∙ append-nil (batches_put q h.log);
            filling = sym (ap (λ (f : Option ℕ). is_at f q) busy ∙ apart);
          }

      takes_as : (p : ℕ) → SameTakes h new p
      takes_as p = record { taken = batches_taken-put h.log to p batch; emptying = refl }

      now : (b : RankView) → get_elem? r.ranks to ≡ some b → LinkAt settings homes' words' rank to new b
      now b there =
          let old = subst (λ (f : Bool). LinkAgrees ring here_base s.homes (word_at s.words (tail_at rank to)) (word_at s.words (head_at rank to)) ps f (batches_taken rank b.log) (is_at b.emptying rank))
          (ap (λ (f : Option ℕ). is_at f to) busy ∙ eq-eqb to to refl) (r.links rank to h b the.there there) in
          let done = puts ring here_base r.bounds.some_ring s.homes (wide s r at) ps (word_at s.words (tail_at rank to)) (word_at s.words (head_at rank to)) (batches_taken rank b.log) (is_at b.emptying rank) batch
          (word_at words' (tail_at rank to)) (get_or-set_same s.words (tail_at rank to) tail 0 long ∙ next) old in
          subst (λ (z : ℕ × List (List Letter)). LinkAgrees ring here_base homes' (word_at words' (tail_at rank to)) z.0 z.1 false (batches_taken rank b.log) (is_at b.emptying rank))
          (λ i. (sym (get_or-set_other s.words (tail_at rank to) (head_at rank to) tail 0 (λ z. no_head rank to rank to near_to near_rank (sym z))) i, sym more i)) done

      ruled : Rule settings record { words = words'; homes = homes'; views = set s.views seat (knowing v new) }
      ruled = after_store settings s r seat v new homes' (tail_at rank to) tail (tail_some rank to) at one (length-set s.homes next_slot (some (Some batch))) refl
          (links_after settings r.ranks (all_ranks settings s r) rank h new the.there rank to in_to puts_as (λ p other. takes_as p) r.bounds.some_ring s.homes homes' s.words words'
          (λ p q in_p in_q other. get_or-set_other s.words (tail_at rank to) (tail_at p q) tail 0
          (λ e. let same = one_tail p q rank to (let few_ = few s r at in omega (arith, few_, in_q)) near_to e in other same.0 same.1))
          (λ p q in_p in_q other. get_or-set_other s.words (tail_at rank to) (head_at p q) tail 0
          (λ e. no_head rank to p q near_to (let few_ = few s r at in omega (arith, few_, in_p)) (sym e)))
          (other_slot s r at (some (Some batch)))
          r.links (link_to settings homes' words' r.ranks rank h new the.there to (takes_as rank) now))
          (world_after_put settings r.ranks rank h new the.there law to batch refl honest r.world)
