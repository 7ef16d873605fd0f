-- The rule at the start, as passes are made and joined, and what the seat of all ranks learns.
use Rattle.std.proofs.Common.{◌≡◌, ◌≢◌, ℕ, zero, suc, ◌+◌, ◌%◌, ◌<◌, ◌≤◌, false, List, [], ◌∷◌, ◌++◌, map, length, get_or, set, replicate, Option, None, refl, sym, ap, ◌∙◌, subst, ⊎_elim, arith, mod-lt}
use Rattle.std.proofs.lemmas.List.{length-map, length-replicate}
use mathlib.Core.Option.{some, none, some-injective, some-ne-none}
use native.Mathlib.Decide.{ℕ_discrete}
use lib.ListN.{get_elem?}
use Rattle.atomic_table.specs.Table.{Allows, Joins, Splits, keeps, opening, step}
use Rattle.atomic_table.proofs.Lists.{at_set, set_again}
use Rattle.msg_codec.specs.declared.letter.Letter.{Letter}
use Rattle.ygm_route.specs.declared.scheme.Scheme.{Scheme}
use Rattle.ygm_route.specs.Layout.{IsLayout, Shape}
use Rattle.world_core.specs.declared.entry.Entry.{Entry}
use Rattle.world_core.specs.Modest.{IsWorld}
use Rattle.world_core.specs.World.{fresh}
use Rattle.mail_table.specs.declared.settings.Settings.{Settings}
use Rattle.mail_table.specs.declared.views.RankView.{RankView}
use Rattle.mail_table.specs.declared.views.View.{View}
use Rattle.mail_table.specs.OneLink.{Homes, LinkAgrees, one_if}
use Rattle.mail_table.specs.Rule.{HasSettings, Knows, LinkAt, Mails, Rule, logs_of, some_raised, world_in}
use Rattle.mail_table.specs.Steps.{LearnsAll, Seated}
use Rattle.mail_table.specs.Table.{IsSettings}
use Rattle.mail_table.specs.Views.{first_part, first_rank, fresh_rank, fresh_view, joined, other_part, other_ranks, spent}
use Rattle.mail_table.specs.Words.{base, head_at, slots_of, stop_word, tail_at, words_of}
use Rattle.mail_table.proofs.Found.{found_below, found_joined, found_more, same_found, set_same}
use Rattle.mail_table.proofs.Rule.OneRank.{all_ranks}
use Rattle.mail_table.proofs.Words.Apart.{base_within}

-- ---- which seat has a rank, where one takes ranks of another

abbrev pick : {P : Type 0} → Dec P → ℕ → ℕ → ℕ
pick (yes _) a b = a
pick (no _) a b = b

pick_yes : {P : Type 0} (d : Dec P) (a b : ℕ) → P → pick d a b ≡ a
pick_yes (yes _) a b p = refl
pick_yes (no n) a b p = absurd (n p)

pick_no : {P : Type 0} (d : Dec P) (a b : ℕ) → (P → ⊥) → pick d a b ≡ b
pick_no (yes p) a b n = absurd (n p)
pick_no (no _) a b n = refl

module _ (settings : Settings) where
  -- the views changed, and nothing else
  reviewed : (s : Mails) (r : Rule settings s) (owner : ℕ → ℕ) (views : List View) → ((j : ℕ) (u : View) → get_elem? views j ≡ some u → HasSettings settings u) →
      ((j : ℕ) (u : View) → get_elem? views j ≡ some u → Knows r.ranks owner j u) → Rule settings record { words = s.words; homes = s.homes; views = views }
  reviewed s r owner views settings_are knows =
      record { ranks = r.ranks; owner = owner; bounds = r.bounds; slots = r.slots; words = r.words; settings_are = settings_are; knows = knows; links = r.links; stop = r.stop; world = r.world }

  -- ---- a seat gives its first rank away

  pub deals : (id : ℕ) (v : View) (h : RankView) (hs : List RankView) → v.ranks ≡ h ∷ hs → Splits (Rule settings) id v (other_part v) (first_part v)
  deals id v h hs is s r at = reviewed s r owner views settings_are knows
    where
      views : List View
      views = set s.views id (other_part v) ++ first_part v ∷ []

      new : ℕ
      new = length (set s.views id (other_part v))

      owner : ℕ → ℕ
      owner n = pick (ℕ_discrete n v.first) new (r.owner n)

      first_there : get_elem? v.ranks 0 ≡ some h
      first_there = ap (λ (l : List RankView). get_elem? l 0) is

      own : (get_elem? r.ranks (v.first + 0) ≡ some h) × (r.owner (v.first + 0) ≡ id)
      own = r.knows id v at 0 h first_there

      zero_on : v.first + 0 ≡ v.first
      zero_on = let n : ℕ = v.first in let e : n + 0 ≡ n = omega arith in e

      mine_ : r.owner v.first ≡ id
      mine_ = subst (λ (n : ℕ). r.owner n ≡ id) zero_on own.1

      here : v.settings ≡ settings
      here = r.settings_are id v at h first_there

      settings_are : (j : ℕ) (u : View) → get_elem? views j ≡ some u → HasSettings settings u
      settings_are j u e g there = ⊎_elim
          (λ (t : get_elem? (set s.views id (other_part v)) j ≡ some u). ⊎_elim
          (λ (q : (j ≡ id) × (other_part v ≡ u)). subst (λ (y : View). y.settings ≡ settings) q.1 here)
          (λ (q : (j ≢ id) × (get_elem? s.views j ≡ some u)). r.settings_are j u q.1 g there) (at_set s.views id j (other_part v) u t))
          (λ (t : (j ≡ new) × (first_part v ≡ u)). subst (λ (y : View). y.settings ≡ settings) t.1 here)
          (found_more (set s.views id (other_part v)) (first_part v) u j e)

      of_rest : Knows r.ranks owner id (other_part v)
      of_rest i g there =
          let up : get_elem? v.ranks (suc i) ≡ some g = ap (λ (l : List RankView). get_elem? l (suc i)) is ∙ sym (ap (λ (l : List RankView). get_elem? (other_ranks l) i) is) ∙ there in
          let k = r.knows id v at (suc i) g up in
          let f : ℕ = v.first in
          let e : f + suc i ≡ f + 1 + i = omega arith in
          (subst (λ (n : ℕ). get_elem? r.ranks n ≡ some g) e k.0, pick_no (ℕ_discrete (f + 1 + i) f) new (r.owner (f + 1 + i)) (λ z. omega arith) ∙ subst (λ (n : ℕ). r.owner n ≡ id) e k.1)

      of_first : Knows r.ranks owner new (first_part v)
      of_first zero g there =
          let e : h ≡ g = some-injective h g (ap (λ (l : List RankView). get_elem? (first_rank l ∷ []) 0) (sym is) ∙ there) in
          (own.0 ∙ ap some e, pick_yes (ℕ_discrete (v.first + 0) v.first) new (r.owner (v.first + 0)) zero_on)
      of_first (suc i) g there = absurd (some-ne-none g (sym there))

      of_other : (j : ℕ) (u : View) → j ≢ id → get_elem? s.views j ≡ some u → Knows r.ranks owner j u
      of_other j u apart e i g there = let k = r.knows j u e i g there in
          (k.0, pick_no (ℕ_discrete (u.first + i) v.first) new (r.owner (u.first + i)) (λ z. apart (sym k.1 ∙ ap r.owner z ∙ mine_)) ∙ k.1)

      knows : (j : ℕ) (u : View) → get_elem? views j ≡ some u → Knows r.ranks owner j u
      knows j u e = ⊎_elim
          (λ (t : get_elem? (set s.views id (other_part v)) j ≡ some u). ⊎_elim
          (λ (q : (j ≡ id) × (other_part v ≡ u)). subst (λ (y : ℕ × View). Knows r.ranks owner y.0 y.1) (λ i. (sym q.0 i, q.1 i)) of_rest)
          (λ (q : (j ≢ id) × (get_elem? s.views j ≡ some u)). of_other j u q.0 q.1) (at_set s.views id j (other_part v) u t))
          (λ (t : (j ≡ new) × (first_part v ≡ u)). subst (λ (y : ℕ × View). Knows r.ranks owner y.0 y.1) (λ i. (sym t.0 i, t.1 i)) of_first)
          (found_more (set s.views id (other_part v)) (first_part v) u j e)

  -- ---- a seat takes in the ranks that come next

  pub gathers : (id : ℕ) (v : View) (other : ℕ) (w : View) (h : RankView) → get_elem? v.ranks 0 ≡ some h → w.first ≡ v.first + length v.ranks → Joins (Rule settings) id v other w (joined v w) spent
  gathers id v other w h some_rank next s r at two at' = reviewed s r owner views settings_are knows
    where
      views : List View
      views = set (set s.views id (joined v w)) other spent

      owner : ℕ → ℕ
      owner n = pick (ℕ_discrete (r.owner n) other) id (r.owner n)

      there : get_elem? s.views other ≡ some w
      there = ⊎_elim (λ (t : (other ≡ id) × (joined v w ≡ w)). absurd (two t.0)) (λ (t : (other ≢ id) × (get_elem? s.views other ≡ some w)). t.1) (at_set s.views id other (joined v w) w at')

      settings_are : (j : ℕ) (u : View) → get_elem? views j ≡ some u → HasSettings settings u
      settings_are j u e g at0 = ⊎_elim
          (λ (t : (j ≡ other) × (spent ≡ u)). absurd (some-ne-none g (sym (ap (λ (y : View). get_elem? y.ranks 0) t.1 ∙ at0))))
          (λ (t : (j ≢ other) × (get_elem? (set s.views id (joined v w)) j ≡ some u)). ⊎_elim
          (λ (q : (j ≡ id) × (joined v w ≡ u)). subst (λ (y : View). y.settings ≡ settings) q.1 (r.settings_are id v at h some_rank))
          (λ (q : (j ≢ id) × (get_elem? s.views j ≡ some u)). r.settings_are j u q.1 g at0) (at_set s.views id j (joined v w) u t.1))
          (at_set (set s.views id (joined v w)) other j spent u e)

      of_both : Knows r.ranks owner id (joined v w)
      of_both i g e = ⊎_elim
          (λ (t : get_elem? v.ranks i ≡ some g). let k = r.knows id v at i g t in (k.0, pick_no (ℕ_discrete (r.owner (v.first + i)) other) id (r.owner (v.first + i)) (λ z. two (sym z ∙ k.1)) ∙ k.1))
          (λ (t : (k : ℕ) × (i ≡ length v.ranks + k) × (get_elem? w.ranks k ≡ some g)).
          let k = r.knows other w there t.0 g t.2 in
          let a : ℕ = v.first in let b : ℕ = w.first in let n : ℕ = length v.ranks in let m : ℕ = t.0 in let e1 : b ≡ a + n = next in let e2 : i ≡ n + m = t.1 in
          let same : b + m ≡ a + i = omega arith in
          (subst (λ (n : ℕ). get_elem? r.ranks n ≡ some g) same k.0, pick_yes (ℕ_discrete (r.owner (v.first + i)) other) id (r.owner (v.first + i)) (subst (λ (n : ℕ). r.owner n ≡ other) same k.1)))
          (found_joined v.ranks w.ranks g i e)

      knows : (j : ℕ) (u : View) → get_elem? views j ≡ some u → Knows r.ranks owner j u
      knows j u e i g at0 = ⊎_elim
          (λ (t : (j ≡ other) × (spent ≡ u)). absurd (some-ne-none g (sym (ap (λ (y : View). get_elem? y.ranks i) t.1 ∙ at0))))
          (λ (t : (j ≢ other) × (get_elem? (set s.views id (joined v w)) j ≡ some u)). ⊎_elim
          (λ (q : (j ≡ id) × (joined v w ≡ u)). subst (λ (y : ℕ × View). Knows r.ranks owner y.0 y.1) (λ k. (sym q.0 k, q.1 k)) of_both i g at0)
          (λ (q : (j ≢ id) × (get_elem? s.views j ≡ some u)). let k = r.knows j u q.1 i g at0 in (k.0, pick_no (ℕ_discrete (r.owner (u.first + i)) other) id (r.owner (u.first + i)) (λ z. t.0 (sym k.1 ∙ z)) ∙ k.1))
          (at_set s.views id j (joined v w) u t.1))
          (at_set (set s.views id (joined v w)) other j spent u e)

-- ---- the seat of all ranks learns that their logs are a sound world

pub learns : (key : Settings) (slots id : ℕ) (me : Seated) → me.0.settings ≡ key → Allows (Rule key) slots id me stop_word (λ n. n) (LearnsAll (step slots stop_word 0 0 none) me)
learns key slots id me key_is s r wide at small = (
  me.0,
  keeps,
  tt,
  subst (Rule key) (λ i. record { words = sym (set_same s.words stop_word) i; homes = s.homes; views = sym (set_again s.views id me.0 at) i }) r,
  record {
    same = refl;
    sound = λ first all.
        let whole : length me.0.ranks ≡ length r.ranks = all ∙ ap (λ (z : Settings). z.layout.ranks) key_is ∙ sym (all_ranks key s r) in
        let same : me.0.ranks ≡ r.ranks = same_found me.0.ranks r.ranks whole
        (λ i h e. subst (λ (n : ℕ). get_elem? r.ranks n ≡ some h) (let f : ℕ = me.0.first in let z : f ≡ 0 = first in let e' : f + i ≡ i = omega arith in e') (r.knows id me.0 at i h e).0) in
        subst (λ (z : Settings × List RankView). IsWorld (world_in z.0 z.1)) (λ i. (sym key_is i, sym same i)) r.world;
  },
)

-- ---- the start

blank : (n i : ℕ) → i < n → get_elem? (map some (replicate {A = Option (List Letter)} n None)) i ≡ some (some None)
blank zero i near = absurd (omega arith)
blank (suc n) zero near = refl
blank (suc n) (suc i) near = blank n i (omega arith)

none_raised : (ranks n : ℕ) → some_raised (replicate n (fresh_rank ranks)) ≡ false
none_raised ranks zero = refl
none_raised ranks (suc n) = none_raised ranks n

no_logs : (ranks n : ℕ) → logs_of (replicate n (fresh_rank ranks)) ≡ replicate n []
no_logs ranks zero = refl
no_logs ranks (suc n) = ap (λ (logs : List (List Entry)). [] ∷ logs) (no_logs ranks n)

each_fresh : (ranks n k : ℕ) (h : RankView) → get_elem? (replicate n (fresh_rank ranks)) k ≡ some h → fresh_rank ranks ≡ h
each_fresh ranks zero k h e = absurd (some-ne-none h (sym e))
each_fresh ranks (suc n) zero h e = some-injective (fresh_rank ranks) h e
each_fresh ranks (suc n) (suc k) h e = each_fresh ranks n k h e

zero_word : (n k : ℕ) → get_or (replicate {A = ℕ} n 0) k 0 ≡ 0
zero_word zero k = refl
zero_word (suc n) zero = refl
zero_word (suc n) (suc k) = zero_word n k

pub starts : (settings : Settings) → ((layout : Shape) (scheme : Scheme) → IsLayout layout → IsWorld (fresh layout scheme)) → IsSettings settings →
    Rule settings (opening (replicate {A = ℕ} (words_of settings.layout.ranks) 0) (replicate (slots_of settings.layout.ranks settings.ring) None) (fresh_view settings))
starts settings law bounds = record {
  ranks = replicate n (fresh_rank n);
  owner = λ _. 0;
  bounds = bounds;
  slots = length-map (replicate {A = Option (List Letter)} (slots_of n ring) None) some ∙ length-replicate (slots_of n ring) None;
  words = length-replicate {A = ℕ} (words_of n) 0;
  settings_are = λ j u e g there. only j u e;
  knows = knows;
  links = λ from to a b at_a at_b.
      subst (λ (y : RankView × RankView). LinkAt settings homes words from to y.0 y.1) (λ i. (each_fresh n n from a at_a i, each_fresh n n to b at_b i))
      (subst (λ (z : ℕ × ℕ). LinkAgrees ring (base n ring from to) homes z.0 z.1 [] false [] false) (λ i. (sym (zero_word (words_of n) (tail_at from to)) i, sym (zero_word (words_of n) (head_at from to)) i))
      (empty from to (below from a at_a) (below to b at_b)));
  stop = zero_word (words_of n) stop_word ∙ ap one_if (sym (none_raised n n));
  world = subst (λ (logs : List (List Entry)). IsWorld (record { layout = settings.layout; scheme = settings.scheme; logs = logs })) (sym (no_logs n n)) (law settings.layout settings.scheme bounds.laid_out);
}
  where
    n : ℕ
    n = settings.layout.ranks

    ring : ℕ
    ring = settings.ring

    words : List ℕ
    words = replicate (words_of n) 0

    homes : Homes (List Letter)
    homes = map some (replicate {A = Option (List Letter)} (slots_of n ring) None)

    below : (k : ℕ) (h : RankView) → get_elem? (replicate n (fresh_rank n)) k ≡ some h → k < n
    below k h e = subst (λ (m : ℕ). k < m) (length-replicate n (fresh_rank n)) (found_below (replicate n (fresh_rank n)) k h e)

    only : (j : ℕ) (u : View) → get_elem? (fresh_view settings ∷ []) j ≡ some u → u.settings ≡ settings
    only zero u e = ap (λ (y : View). y.settings) (sym (some-injective (fresh_view settings) u e))
    only (suc j) u e = absurd (some-ne-none u (sym e))

    all : Knows (replicate n (fresh_rank n)) (λ _. 0) 0 (fresh_view settings)
    all i h e = (ap (λ (m : ℕ). get_elem? (replicate n (fresh_rank n)) m) (let same : 0 + i ≡ i = omega arith in same) ∙ e, refl)

    knows : (j : ℕ) (u : View) → get_elem? (fresh_view settings ∷ []) j ≡ some u → Knows (replicate n (fresh_rank n)) (λ _. 0) j u
    knows zero u e = subst (λ (y : View). Knows (replicate n (fresh_rank n)) (λ _. 0) 0 y) (some-injective (fresh_view settings) u e) all
    knows (suc j) u e = absurd (some-ne-none u (sym e))

    empty : (from to : ℕ) → from < n → to < n → LinkAgrees {X = List Letter} ring (base n ring from to) homes 0 0 [] false [] false
    empty from to in_from in_to = record {
      tail_is = refl;
      head_is = refl;
      taken_are = record { rest = []; joined = refl };
      room = omega arith;
      at_home = λ t low high free. (
        None,
        (let near : t % ring < ring = mod-lt t bounds.some_ring in let r : ℕ = t % ring in let b : ℕ = base n ring from to in let near' : r < ring = near in
            let wide : b + ring ≤ slots_of n ring = base_within n ring from to in_from in_to in let s : ℕ = slots_of n ring in let wide' : b + ring ≤ s = wide in
            blank (slots_of n ring) (base n ring from to + t % ring) (omega arith)),
        λ x e. absurd (some-ne-none x (sym e)),
      );
    }
