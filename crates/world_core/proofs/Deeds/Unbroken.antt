-- What a put that breaks no rule has.
use Rattle.std.proofs.Common.{◌≡◌, ℕ, ◌<◌, Bool, false, None, List, [], ◌∷◌, ltb-true}
use Rattle.std.proofs.lemmas.Bool.{not-false}
use Rattle.msg_codec.specs.declared.letter.Letter.{Letter}
use Rattle.world_core.specs.declared.why.Why.{Why}
use Rattle.world_core.specs.declared.why.Why.TheVariants.{NoSuchRank, EmptyBatch, BadTag, MixedControl, WrongHop, NotHeld, TooManySent, SentWhileCounted, WrongControl, CountEarly, CountUnforwarded, CountWrong, TotalEarly, TotalWrong}
use Rattle.world_core.specs.Local.{Local}
use Rattle.world_core.specs.Rules.{Rule, rule, rules, Deed, first_broken, first_broken_of, no_such_rank, empty_batch, mixed_control, some_letter, some_letter_after, bad_tag, wrong_hop, not_held, too_many_sent}
use Rattle.world_core.specs.ControlRules.{sent_while_counted, wrong_control, count_early, count_unforwarded, count_wrong, total_early, total_wrong}
use Rattle.world_core.specs.Rules.Deed.{Puts}
use Rattle.list_facts.proofs.Tests.{cond_none, or_false_first, or_false_second}

pub record Unbroken (me : Local) (to : ℕ) (letters : List Letter) : Type 0 where
  pub ranks : no_such_rank me (Puts to letters) ≡ false
  pub some : empty_batch me (Puts to letters) ≡ false
  pub tags : some_letter_after bad_tag [] letters me to ≡ false
  pub unmixed : mixed_control me (Puts to letters) ≡ false
  pub hops : some_letter_after wrong_hop [] letters me to ≡ false
  pub held : some_letter_after not_held [] letters me to ≡ false
  pub few : some_letter_after too_many_sent [] letters me to ≡ false
  pub free : some_letter_after sent_while_counted [] letters me to ≡ false
  pub control : some_letter_after wrong_control [] letters me to ≡ false
  pub next_count : some_letter_after count_early [] letters me to ≡ false
  pub forwarded : some_letter_after count_unforwarded [] letters me to ≡ false
  pub count : some_letter_after count_wrong [] letters me to ≡ false
  pub next_total : some_letter_after total_early [] letters me to ≡ false
  pub total : some_letter_after total_wrong [] letters me to ≡ false

-- a rule of a table, wherever it is in it
pub data IsIn : Rule → List Rule → Type 0 where
  first : {r : Rule} {table : List Rule} → IsIn r (r ∷ table)
  later : {r other : Rule} {table : List Rule} → IsIn r table → IsIn r (other ∷ table)

-- `search rows` finds a rule in a table by its name, so that a new row breaks no proof
pub ruleset rows = (first, later)

-- A deed that breaks no rule of a table doesn't break this one.
pub not_broken : (me : Local) (deed : Deed) (r : Rule) (table : List Rule) → IsIn r table → first_broken_of table me deed ≡ None → r.breaks me deed ≡ false
not_broken me deed r [] at h = elim at [ ]
not_broken me deed _ (r ∷ table) first h = (cond_none (r.breaks me deed) r.why (first_broken_of table me deed) h).0
not_broken me deed r (other ∷ table) (later at) h = not_broken me deed r table at (cond_none (other.breaks me deed) other.why (first_broken_of table me deed) h).1

pub unbroken : (me : Local) (to : ℕ) (letters : List Letter) → first_broken me (Puts to letters) ≡ None → Unbroken me to letters
unfolding first_broken
unbroken me to letters h =
    let ok : (why : Why) (breaks : Local → Deed → Bool) → IsIn (rule why breaks) rules → breaks me (Puts to letters) ≡ false =
    λ why breaks at. not_broken me (Puts to letters) (rule why breaks) rules at h in
    record {
      ranks = ok NoSuchRank no_such_rank (search rows depth 20);
      some = ok EmptyBatch empty_batch (search rows depth 20);
      tags = ok BadTag (some_letter bad_tag) (search rows depth 20);
      unmixed = ok MixedControl mixed_control (search rows depth 20);
      hops = ok WrongHop (some_letter wrong_hop) (search rows depth 20);
      held = ok NotHeld (some_letter not_held) (search rows depth 20);
      few = ok TooManySent (some_letter too_many_sent) (search rows depth 20);
      free = ok SentWhileCounted (some_letter sent_while_counted) (search rows depth 20);
      control = ok WrongControl (some_letter wrong_control) (search rows depth 20);
      next_count = ok CountEarly (some_letter count_early) (search rows depth 20);
      forwarded = ok CountUnforwarded (some_letter count_unforwarded) (search rows depth 20);
      count = ok CountWrong (some_letter count_wrong) (search rows depth 20);
      next_total = ok TotalEarly (some_letter total_early) (search rows depth 20);
      total = ok TotalWrong (some_letter total_wrong) (search rows depth 20);
    }

pub sender_within : (me : Local) (to : ℕ) (letters : List Letter) → no_such_rank me (Puts to letters) ≡ false → me.here < me.layout.ranks
sender_within me to letters h = ltb-true _ _ ((not-false _ (or_false_first _ _ (or_false_first _ _ h))))

pub receiver_within : (me : Local) (to : ℕ) (letters : List Letter) → no_such_rank me (Puts to letters) ≡ false → to < me.layout.ranks
receiver_within me to letters h = ltb-true _ _ ((not-false _ (or_false_second _ _ (or_false_first _ _ h))))
