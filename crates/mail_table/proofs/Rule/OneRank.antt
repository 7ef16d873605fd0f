-- The rule after a step of one rank.
use Rattle.std.proofs.Common.{◌≡◌, ◌≢◌, ℕ, zero, suc, ◌+◌, ◌<◌, List, [], ◌∷◌, length, set, refl, sym, ap, ◌∙◌, subst, ⊎_elim, arith, length-set}
use Rattle.std.proofs.lemmas.List.{get_or-set_other, length-map}
use mathlib.Core.Option.{some, some-ne-none}
use lib.ListN.{get_elem?}
use Rattle.atomic_table.proofs.Lists.{at_set, set_here, set_else}
use Rattle.msg_codec.specs.declared.letter.Letter.{Letter}
use Rattle.world_core.specs.Modest.{IsWorld}
use Rattle.mail_table.specs.declared.settings.Settings.{Settings}
use Rattle.mail_table.specs.declared.views.RankView.{RankView}
use Rattle.mail_table.specs.declared.views.View.{View}
use Rattle.mail_table.specs.OneLink.{Homes, one_if}
use Rattle.mail_table.specs.Rule.{Knows, LinksAt, Mails, Rule, some_raised, word_at, world_in}
use Rattle.mail_table.specs.Views.{knowing, mine}
use Rattle.mail_table.specs.Words.{stop_word}
use Rattle.mail_table.proofs.Found.{found_below, set_same}
use Rattle.mail_table.proofs.Rule.Stops.{same_raised}

-- the other seats know what they knew
knows_after : (ranks : List RankView) (owner : ℕ → ℕ) (views : List View) (seat rank : ℕ) (view : View) (new : RankView) → view.first ≡ rank → rank < length ranks → owner rank ≡ seat →
    ((j : ℕ) (u : View) → get_elem? views j ≡ some u → Knows ranks owner j u) →
    (j : ℕ) (u : View) → get_elem? (set views seat (knowing view new)) j ≡ some u → Knows (set ranks rank new) owner j u
knows_after ranks owner views seat rank view new is near own old j u e = ⊎_elim its_own others (at_set views seat j (knowing view new) u e)
  where
    here : Knows (set ranks rank new) owner seat (knowing view new)
    here zero x at =
        let e' : view.first + 0 ≡ rank = omega (arith, is) in
        (ap (λ (n : ℕ). get_elem? (set ranks rank new) n) e' ∙ set_here ranks rank new near ∙ at, ap owner e' ∙ own)
    here (suc k) x at = absurd (some-ne-none x (sym at))

    its_own : (j ≡ seat) × (knowing view new ≡ u) → Knows (set ranks rank new) owner j u
    its_own t = subst (λ (y : ℕ × View). Knows (set ranks rank new) owner y.0 y.1) (λ i. (sym t.0 i, t.1 i)) here

    others : (j ≢ seat) × (get_elem? views j ≡ some u) → Knows (set ranks rank new) owner j u
    others t k x at =
        let known = old j u t.1 k x at in
        (set_else ranks rank (u.first + k) new (λ e'. t.0 (sym known.1 ∙ ap owner e' ∙ own)) ∙ known.0, known.1)

-- the view of a seat with one rank
pub record IsHere (settings : Settings) (mails : Mails) (rule : Rule settings mails) (seat rank : ℕ) (view : View) : Type 0 where
  pub there : get_elem? rule.ranks rank ≡ some (mine view)
  pub owned : rule.owner rank ≡ seat
  pub settings_are : view.settings ≡ settings
  pub near : rank < length rule.ranks
  pub within : rank < settings.layout.ranks

module _ (settings : Settings) where
  pub all_ranks : (mails : Mails) (rule : Rule settings mails) → length rule.ranks ≡ settings.layout.ranks
  all_ranks mails rule = sym (length-map rule.ranks (λ (rank : RankView). rank.log)) ∙ rule.world.sound.all_ranks

  pub is_here : (mails : Mails) (rule : Rule settings mails) (seat rank : ℕ) (view : View) → get_elem? mails.views seat ≡ some view → view.first ≡ rank → view.ranks ≡ mine view ∷ [] → IsHere settings mails rule seat rank view
  is_here mails rule seat rank view at first one =
      let e : view.first + 0 ≡ rank = omega (arith, first) in
      let there : get_elem? view.ranks 0 ≡ some (mine view) = ap (λ (xs : List RankView). get_elem? xs 0) one in
      let known = rule.knows seat view at 0 (mine view) there in
      let found = subst (λ (n : ℕ). get_elem? rule.ranks n ≡ some (mine view)) e known.0 in
      let near = found_below rule.ranks rank (mine view) found in record {
        there = found;
        owned = subst (λ (n : ℕ). rule.owner n ≡ seat) e known.1;
        settings_are = rule.settings_are seat view at (mine view) there;
        near = near;
        within = subst (λ (n : ℕ). rank < n) (all_ranks mails rule) near;
      }

  -- the parts of the rule that a step may break, and so the rule
  pub rebuilt : (mails : Mails) (rule : Rule settings mails) (seat rank : ℕ) (view : View) (new : RankView) (words : List ℕ) (homes : Homes (List Letter)) →
      get_elem? mails.views seat ≡ some view → view.first ≡ rank → view.ranks ≡ mine view ∷ [] → length homes ≡ length mails.homes → length words ≡ length mails.words →
      LinksAt settings homes words (set rule.ranks rank new) →
      word_at words stop_word ≡ one_if (some_raised (set rule.ranks rank new)) →
      IsWorld (world_in settings (set rule.ranks rank new)) →
      Rule settings record { words = words; homes = homes; views = set mails.views seat (knowing view new) }
  rebuilt mails rule seat rank view new words homes at first one wide long links stop world =
      let here = is_here mails rule seat rank view at first one in record {
        ranks = set rule.ranks rank new;
        owner = rule.owner;
        bounds = rule.bounds;
        slots = wide ∙ rule.slots;
        words = long ∙ rule.words;
        settings_are = λ j u e x there. ⊎_elim
            (λ (t : (j ≡ seat) × (knowing view new ≡ u)). subst (λ (y : View). y.settings ≡ settings) t.1 here.settings_are)
            (λ (t : (j ≢ seat) × (get_elem? mails.views j ≡ some u)). rule.settings_are j u t.1 x there)
            (at_set mails.views seat j (knowing view new) u e);
        knows = knows_after rule.ranks rule.owner mails.views seat rank view new first here.near here.owned rule.knows;
        links = links;
        stop = stop;
        world = world;
      }

  -- after a load, which leaves the words unchanged
  pub after_load : (mails : Mails) (rule : Rule settings mails) (seat : ℕ) (view : View) (new : RankView) (homes : Homes (List Letter)) (word : ℕ) →
      get_elem? mails.views seat ≡ some view → view.ranks ≡ mine view ∷ [] → length homes ≡ length mails.homes → new.raised ≡ (mine view).raised →
      LinksAt settings homes mails.words (set rule.ranks view.first new) → IsWorld (world_in settings (set rule.ranks view.first new)) →
      Rule settings record { words = set mails.words word (word_at mails.words word); homes = homes; views = set mails.views seat (knowing view new) }
  after_load mails rule seat view new homes word at one wide raised links world =
      let here = is_here mails rule seat view.first view at refl one in
      subst (λ (words : List ℕ). Rule settings record { words = words; homes = homes; views = set mails.views seat (knowing view new) }) (sym (set_same mails.words word))
      (rebuilt mails rule seat view.first view new mails.words homes at refl one wide refl links
      (rule.stop ∙ ap one_if (sym (same_raised rule.ranks view.first (mine view) new here.there raised))) world)

  -- after a store to another word than that of the stop
  pub after_store : (mails : Mails) (rule : Rule settings mails) (seat : ℕ) (view : View) (new : RankView) (homes : Homes (List Letter)) (word value : ℕ) → word ≢ stop_word →
      get_elem? mails.views seat ≡ some view → view.ranks ≡ mine view ∷ [] → length homes ≡ length mails.homes → new.raised ≡ (mine view).raised →
      LinksAt settings homes (set mails.words word value) (set rule.ranks view.first new) → IsWorld (world_in settings (set rule.ranks view.first new)) →
      Rule settings record { words = set mails.words word value; homes = homes; views = set mails.views seat (knowing view new) }
  after_store mails rule seat view new homes word value other at one wide raised links world =
      let here = is_here mails rule seat view.first view at refl one in
      rebuilt mails rule seat view.first view new (set mails.words word value) homes at refl one wide (length-set mails.words word value) links
      (get_or-set_other mails.words word stop_word value 0 (λ e. other (sym e)) ∙ rule.stop ∙ ap one_if (sym (same_raised rule.ranks view.first (mine view) new here.there raised))) world
