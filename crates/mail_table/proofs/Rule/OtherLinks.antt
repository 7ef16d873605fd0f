-- What a step on one link does to the links of the rule.
use Rattle.std.proofs.Common.{◌≡◌, ◌≢◌, ℕ, ◌+◌, ◌%◌, ◌<◌, Bool, List, length, set, refl, sym, ap, ◌∙◌, subst, ⊎_elim, length-set, mod-lt}
use mathlib.Core.Option.{some, some-injective}
use native.Mathlib.Decide.{ℕ_discrete}
use lib.ListN.{get_elem?}
use Rattle.atomic_table.proofs.Lists.{at_set, set_here}
use Rattle.msg_codec.specs.declared.letter.Letter.{Letter}
use Rattle.world_core.specs.Log.{batches_put, batches_taken}
use Rattle.mail_table.specs.declared.settings.Settings.{Settings}
use Rattle.mail_table.specs.declared.views.RankView.{RankView}
use Rattle.mail_table.specs.OneLink.{Homes, LinkAgrees}
use Rattle.mail_table.specs.Rule.{LinkAt, LinksAt, is_at, word_at}
use Rattle.mail_table.specs.Words.{base, head_at, tail_at}
use Rattle.mail_table.proofs.Found.{found_below}
use Rattle.mail_table.proofs.OneLink.EachStep.{stays}
use Rattle.mail_table.proofs.Words.Apart.{one_slot}

-- ---- one link, as its two ends and the table show it

-- the rank's end of its link to a rank, and of its link from a rank
pub record SamePuts (old new : RankView) (to : ℕ) : Type 0 where
  pub put : batches_put to new.log ≡ batches_put to old.log
  pub filling : is_at new.filling to ≡ is_at old.filling to

pub record SameTakes (old new : RankView) (from : ℕ) : Type 0 where
  pub taken : batches_taken from new.log ≡ batches_taken from old.log
  pub emptying : is_at new.emptying from ≡ is_at old.emptying from

-- the link isn't that from i to j
abbrev pub Other : ℕ → ℕ → ℕ → ℕ → Type 0
Other i j from to = from ≡ i → to ≡ j → ⊥

pub same_puts : (old : RankView) (to : ℕ) → SamePuts old old to
same_puts old to = record { put = refl; filling = refl }

pub same_takes : (old : RankView) (from : ℕ) → SameTakes old old from
same_takes old from = record { taken = refl; emptying = refl }

-- the ends of a link changed as little as that
pub at_ends : (settings : Settings) (homes : Homes (List Letter)) (words : List ℕ) (from to : ℕ) (sender receiver sender' receiver' : RankView) → SamePuts sender sender' to → SameTakes receiver receiver' from →
    LinkAt settings homes words from to sender receiver → LinkAt settings homes words from to sender' receiver'
at_ends settings homes words from to sender receiver sender' receiver' p t link =
    subst (λ (z : List (List Letter) × Bool × List (List Letter) × Bool). LinkAgrees settings.ring (base settings.layout.ranks settings.ring from to) homes (word_at words (tail_at from to)) (word_at words (head_at from to)) z.0 z.1 z.2 z.3)
    (λ i. (sym p.put i, sym p.filling i, sym t.taken i, sym t.emptying i)) link

module _ (settings : Settings) (ranks : List RankView) (all : length ranks ≡ settings.layout.ranks) (rank : ℕ) (old new : RankView) (at : get_elem? ranks rank ≡ some old) (i j : ℕ) (in_j : j < settings.layout.ranks)
    (puts : (to : ℕ) → Other i j rank to → SamePuts old new to) (takes : (from : ℕ) → Other i j from rank → SameTakes old new from) where
  -- a rank after the step, and what it was before
  record Was (k : ℕ) (now : RankView) : Type 0 where
    before : RankView
    there : get_elem? ranks k ≡ some before
    puts_as : (to : ℕ) → Other i j k to → SamePuts before now to
    takes_as : (from : ℕ) → Other i j from k → SameTakes before now from

  was : (k : ℕ) (now : RankView) → get_elem? (set ranks rank new) k ≡ some now → Was k now
  was k now e = ⊎_elim
      (λ (t : (k ≡ rank) × (new ≡ now)). record {
        before = old;
        there = ap (get_elem? ranks) t.0 ∙ at;
        puts_as = λ to other. subst (λ (y : RankView). SamePuts old y to) t.1 (puts to (λ e1 e2. other (t.0 ∙ e1) e2));
        takes_as = λ from other. subst (λ (y : RankView). SameTakes old y from) t.1 (takes from (λ e1 e2. other e1 (t.0 ∙ e2)));
      })
      (λ (t : (k ≢ rank) × (get_elem? ranks k ≡ some now)). record { before = now; there = t.1; puts_as = λ to _. same_puts now to; takes_as = λ from _. same_takes now from })
      (at_set ranks rank k new now e)

  -- the words and the slots of the other links are unchanged
  module _ (some_ring : 0 < settings.ring) (homes homes' : Homes (List Letter)) (words words' : List ℕ)
      (tails : (from to : ℕ) → from < settings.layout.ranks → to < settings.layout.ranks → Other i j from to → word_at words' (tail_at from to) ≡ word_at words (tail_at from to))
      (heads : (from to : ℕ) → from < settings.layout.ranks → to < settings.layout.ranks → Other i j from to → word_at words' (head_at from to) ≡ word_at words (head_at from to))
      (slots : (k : ℕ) → ((x : ℕ) → x < settings.ring → k ≢ base settings.layout.ranks settings.ring i j + x) → get_elem? homes' k ≡ get_elem? homes k) where
    near : (k : ℕ) (now : RankView) → get_elem? (set ranks rank new) k ≡ some now → k < settings.layout.ranks
    near k now e = subst (λ (n : ℕ). k < n) (length-set ranks rank new ∙ all) (found_below (set ranks rank new) k now e)

    other_link : LinksAt settings homes words ranks → (from to : ℕ) (sender receiver : RankView) → get_elem? (set ranks rank new) from ≡ some sender → get_elem? (set ranks rank new) to ≡ some receiver →
        Other i j from to → LinkAt settings homes' words' from to sender receiver
    other_link links from to sender receiver at_from at_to other =
        let a = was from sender at_from in let b = was to receiver at_to in
        let in_from = near from sender at_from in let in_to = near to receiver at_to in
        at_ends settings homes' words' from to a.before b.before sender receiver (a.puts_as to other) (b.takes_as from other)
        (stays settings.ring (base settings.layout.ranks settings.ring from to) homes homes' (word_at words (tail_at from to)) (word_at words (head_at from to)) (word_at words' (tail_at from to)) (word_at words' (head_at from to))
        (batches_put to a.before.log) (is_at a.before.filling to) (batches_taken from b.before.log) (is_at b.before.emptying from) (tails from to in_from in_to other) (heads from to in_from in_to other)
        (λ t. slots (base settings.layout.ranks settings.ring from to + t % settings.ring)
        (λ x inside e. let same = one_slot settings.layout.ranks settings.ring from to i j (t % settings.ring) x in_to in_j (mod-lt t some_ring) inside e in other same.0 same.1))
        (links from to a.before b.before a.there b.there))

    pub links_after : LinksAt settings homes words ranks →
        ((sender receiver : RankView) → get_elem? (set ranks rank new) i ≡ some sender → get_elem? (set ranks rank new) j ≡ some receiver → LinkAt settings homes' words' i j sender receiver) →
        LinksAt settings homes' words' (set ranks rank new)
    links_after links its_own from to sender receiver at_from at_to = go (ℕ_discrete from i) (ℕ_discrete to j)
      where
        go : Dec (from ≡ i) → Dec (to ≡ j) → LinkAt settings homes' words' from to sender receiver
        go (yes e) (yes f) = subst (λ (z : ℕ × ℕ). LinkAt settings homes' words' z.0 z.1 sender receiver) (λ i'. (sym e i', sym f i'))
            (its_own sender receiver (ap (get_elem? (set ranks rank new)) (sym e) ∙ at_from) (ap (get_elem? (set ranks rank new)) (sym f) ∙ at_to))
        go (no ne) _ = other_link links from to sender receiver at_from at_to (λ e f. ne e)
        go (yes e) (no ne) = other_link links from to sender receiver at_from at_to (λ e' f. ne f)

-- ---- the link of the step itself, where the rank is its sender, or its receiver

module _ (settings : Settings) (homes : Homes (List Letter)) (words : List ℕ) (ranks : List RankView) (rank : ℕ) (old new : RankView) (at : get_elem? ranks rank ≡ some old) where
  new_here : (now : RankView) → get_elem? (set ranks rank new) rank ≡ some now → new ≡ now
  new_here now e = some-injective new now (sym (set_here ranks rank new (found_below ranks rank old at)) ∙ e)

  pub link_to : (to : ℕ) → SameTakes old new rank → ((receiver : RankView) → get_elem? ranks to ≡ some receiver → LinkAt settings homes words rank to new receiver) →
      (sender receiver : RankView) → get_elem? (set ranks rank new) rank ≡ some sender → get_elem? (set ranks rank new) to ≡ some receiver → LinkAt settings homes words rank to sender receiver
  link_to to takes now sender receiver e f = subst (λ (y : RankView). LinkAt settings homes words rank to y receiver) (new_here sender e) (⊎_elim
      (λ (t : (to ≡ rank) × (new ≡ receiver)). subst (λ (y : RankView). LinkAt settings homes words rank to new y) t.1
      (at_ends settings homes words rank to new old new new (same_puts new to) takes (now old (ap (get_elem? ranks) t.0 ∙ at))))
      (λ (t : (to ≢ rank) × (get_elem? ranks to ≡ some receiver)). now receiver t.1)
      (at_set ranks rank to new receiver f))

  pub link_from : (from : ℕ) → SamePuts old new rank → ((sender : RankView) → get_elem? ranks from ≡ some sender → LinkAt settings homes words from rank sender new) →
      (sender receiver : RankView) → get_elem? (set ranks rank new) from ≡ some sender → get_elem? (set ranks rank new) rank ≡ some receiver → LinkAt settings homes words from rank sender receiver
  link_from from puts now sender receiver e f = subst (λ (y : RankView). LinkAt settings homes words from rank sender y) (new_here receiver f) (⊎_elim
      (λ (t : (from ≡ rank) × (new ≡ sender)). subst (λ (y : RankView). LinkAt settings homes words from rank y new) t.1
      (at_ends settings homes words from rank old new new new puts (same_takes new from) (now old (ap (get_elem? ranks) t.0 ∙ at))))
      (λ (t : (from ≢ rank) × (get_elem? ranks from ≡ some sender)). now sender t.1)
      (at_set ranks rank from new sender e))

-- a step that changes nothing of any link
pub every_link : (settings : Settings) (ranks : List RankView) (all : length ranks ≡ settings.layout.ranks) (rank : ℕ) (old new : RankView) (at : get_elem? ranks rank ≡ some old) (within : rank < settings.layout.ranks) (some_ring : 0 < settings.ring) →
    ((to : ℕ) → SamePuts old new to) → ((from : ℕ) → SameTakes old new from) → (homes : Homes (List Letter)) (words words' : List ℕ) →
    ((from to : ℕ) → word_at words' (tail_at from to) ≡ word_at words (tail_at from to)) → ((from to : ℕ) → word_at words' (head_at from to) ≡ word_at words (head_at from to)) →
    LinksAt settings homes words ranks → LinksAt settings homes words' (set ranks rank new)
every_link settings ranks all rank old new at within some_ring puts takes homes words words' tails heads links =
    links_after settings ranks all rank old new at rank rank within (λ to _. puts to) (λ from _. takes from) some_ring homes homes words words' (λ from to _ _ _. tails from to) (λ from to _ _ _. heads from to) (λ k free. refl) links
    (link_to settings homes words' ranks rank old new at rank (takes rank) (λ receiver there.
    subst (λ (z : ℕ × ℕ). LinkAgrees settings.ring (base settings.layout.ranks settings.ring rank rank) homes z.0 z.1 (batches_put rank new.log) (is_at new.filling rank) (batches_taken rank receiver.log) (is_at receiver.emptying rank))
    (λ i. (sym (tails rank rank) i, sym (heads rank rank) i))
    (at_ends settings homes words rank rank old receiver new receiver (puts rank) (same_takes receiver rank) (links rank rank old receiver at there))))
