-- Each letter of a put that breaks no rule goes to its next hop.
use Rattle.std.proofs.Common.{◌≡◌, ◌≢◌, ℕ, ◌<◌, Bool, true, false, not, ◌||◌, ◌&&◌, nat_eq, eqb-true, ltb-true, List, [], ◌∷◌, ◌++◌, refl, ne_eqb}
use Rattle.std.specs.Bool.{IsTrue}
use Rattle.std.specs.List.{AllByRecursion, list_any}
use Rattle.std.proofs.lemmas.Bool.{not-false}
use Rattle.msg_codec.specs.Control.{is_control}
use Rattle.msg_codec.specs.declared.letter.Letter.{Letter}
use Rattle.ygm_route.specs.declared.scheme.Scheme.{Scheme}
use Rattle.ygm_route.specs.Hop.{hop}
use Rattle.ygm_route.specs.Layout.{Shape}
use Rattle.ygm_route.specs.Path.{crosses, path}
use Rattle.world_core.specs.Local.{Local, is_rank, having_put, to_forward}
use Rattle.world_core.specs.Pairs.{is_data}
use Rattle.world_core.specs.Rules.{some_letter_after, bad_tag, wrong_hop, not_held, is_first_of}
use Rattle.list_facts.proofs.Tests.{or_false_first, or_false_second, and_false_second}
use Rattle.world_core.proofs.Local.ToForward.{forwarding}

-- a lawful letter that a rank puts: a data letter goes to its next hop, and one of another rank isn't for this one
pub record IsSent (layout : Shape) (scheme : Scheme) (a b : ℕ) (l : Letter) : Type 0 where
  pub here_within : a < layout.ranks
  pub to_within : l.to < layout.ranks
  pub from_within : l.from < layout.ranks
  pub tag : (is_data l || is_control l) ≡ true
  pub next : is_data l ≡ true → b ≡ hop layout scheme a l.to
  pub leaves : is_data l ≡ true → l.from ≢ a → a ≢ l.to

-- and a data letter is on its path
pub record IsCarried (layout : Shape) (scheme : Scheme) (a b : ℕ) (l : Letter) : Type 0 where
  pub lawful : IsSent layout scheme a b l
  pub crossed : is_data l ≡ true → IsTrue (crosses (path layout scheme l.from l.to) a b)

-- a data letter of another rank that is held isn't for this one
leaving : (me : Local) (to : ℕ) (l : Letter) → is_data l ≡ true → not_held me to l ≡ false → l.from ≢ me.here → me.here ≢ l.to
leaving me to l tag ok other =
    let apart : nat_eq l.from me.here ≡ false = ne_eqb _ _ other in
    let held : is_first_of (to_forward me l.from l.to) l ≡ true = not-false _ (and_false_second _ _ (rw (tag, apart) refl) ok) in
    (forwarding me l.from l.to l held).not_destination

pub either_tag : (data_tag control : Bool) → (not data_tag && not control) ≡ false → (data_tag || control) ≡ true
either_tag true control h = refl
either_tag false true h = refl
either_tag false false h = absurd cc

pub sent : (me : Local) (to : ℕ) (before letters : List Letter) → me.here < me.layout.ranks →
    list_any (λ l. not (is_rank me.layout l.to) || not (is_rank me.layout l.from)) letters ≡ false →
    some_letter_after bad_tag before letters me to ≡ false →
    some_letter_after wrong_hop before letters me to ≡ false →
    some_letter_after not_held before letters me to ≡ false →
    AllByRecursion (IsSent me.layout me.scheme me.here to) letters
sent me to before [] here ranks tags hops held = tt
sent me to before (l ∷ letters) here ranks tags hops held =
    let ranks_here = or_false_first _ _ ranks in
    let tag : (is_data l || is_control l) ≡ true = either_tag (is_data l) (is_control l) (or_false_first _ _ tags) in
    let one : IsSent me.layout me.scheme me.here to l = record {
      here_within = here;
      to_within = ltb-true _ _ (not-false _ (or_false_first _ _ ranks_here));
      from_within = ltb-true _ _ (not-false _ (or_false_second _ _ ranks_here));
      tag = tag;
      next = λ letter. eqb-true _ _ (not-false _ (and_false_second _ _ letter (or_false_first _ _ hops)));
      leaves = λ letter. leaving (having_put me to before) to l letter (or_false_first _ _ held);
    } in
    (one, sent me to (before ++ l ∷ []) letters here (or_false_second _ _ ranks) (or_false_second _ _ tags) (or_false_second _ _ hops) (or_false_second _ _ held))
