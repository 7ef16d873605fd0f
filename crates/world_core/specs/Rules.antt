-- The rules of a world, as one table. What a rank does is refused for the first rule that it, or one of its letters,
-- breaks.
use Rattle.std.specs.Prelude.{◌≡◌, ℕ, Bool, false, not, ◌&&◌, ◌||◌, ◌==◌, nat_eq, nat_lt, Option, Some, None, List, [], ◌∷◌, ◌++◌, length, take, slice_get, if◌then◌else◌}
use Rattle.std.specs.List.{list_any}
use lib.Pointwise.{pointwise}
use Rattle.msg_codec.specs.declared.letter.Letter.{Letter}
use Rattle.ygm_route.specs.Hop.{hop}
use Rattle.world_core.specs.declared.entry.Entry.TheVariants.{Put}
use Rattle.world_core.specs.declared.why.Why.{Why}
use Rattle.world_core.specs.declared.why.Why.TheVariants.{NoSuchRank, NothingThere, EmptyBatch, BadTag, MixedControl, WrongHop, NotHeld, TooManySent, SentWhileCounted, WrongControl, CountEarly, CountUnforwarded, CountWrong, TotalEarly, TotalWrong}
use Rattle.msg_codec.specs.Control.{is_control}
use Rattle.world_core.specs.ControlRules.{sent_while_counted, wrong_control, count_early, count_unforwarded, count_wrong, total_early, total_wrong}
use Rattle.world_core.specs.Limits.{most_letters}
use Rattle.world_core.specs.Local.{Local, is_rank, to_forward, having_put}
use Rattle.world_core.specs.Pairs.{is_data, own_count}

-- What a rank is about to do: it puts letters to a rank, or takes from one, where the link has a batch or not.
pub data Deed : Type 0 where
  Puts : (to : ℕ) → (letters : List Letter) → Deed
  Takes : (from : ℕ) → (some : Bool) → Deed

-- ---- rules on the whole deed

abbrev pub no_such_rank : Local → Deed → Bool
no_such_rank me (Puts to letters) =
    not (is_rank me.layout me.here) || not (is_rank me.layout to)
    || list_any (λ l. not (is_rank me.layout l.to) || not (is_rank me.layout l.from)) letters
no_such_rank me (Takes from some) = not (is_rank me.layout me.here) || not (is_rank me.layout from)

abbrev pub nothing_there : Local → Deed → Bool
nothing_there me (Puts to letters) = false
nothing_there me (Takes from some) = not some

abbrev pub empty_batch : Local → Deed → Bool
empty_batch me (Puts to letters) = length letters == 0
empty_batch me (Takes from some) = false

abbrev pub mixed_control : Local → Deed → Bool
mixed_control me (Puts to letters) = list_any is_control letters && not (length letters == 1)
mixed_control me (Takes from some) = false

-- ---- rules on one letter that is put to a rank

abbrev pub bad_tag : Local → ℕ → Letter → Bool
bad_tag me to l = not (is_data l) && not (is_control l)

abbrev pub wrong_hop : Local → ℕ → Letter → Bool
wrong_hop me to l = is_data l && not (to == hop me.layout me.scheme me.here l.to)

abbrev pub same_letter : Letter → Letter → Bool
same_letter a b = (a.to == b.to) && (a.from == b.from) && (a.tag == b.tag) && pointwise nat_eq a.body b.body

abbrev pub is_first_of : List Letter → Letter → Bool
is_first_of [] l = false
is_first_of (first ∷ letters) l = same_letter first l

abbrev pub not_held : Local → ℕ → Letter → Bool
not_held me to l = is_data l && not (l.from == me.here) && not (is_first_of (to_forward me l.from l.to) l)

abbrev pub too_many_sent : Local → ℕ → Letter → Bool
too_many_sent me to l = is_data l && (l.from == me.here) && not (nat_lt (own_count me.here me.log) most_letters)

-- some letter breaks the rule, where each is tried as if those before it had been put
abbrev pub some_letter_after : (Local → ℕ → Letter → Bool) → List Letter → List Letter → Local → ℕ → Bool
some_letter_after breaks before [] me to = false
some_letter_after breaks before (l ∷ letters) me to =
    breaks (having_put me to before) to l || some_letter_after breaks (before ++ l ∷ []) letters me to

abbrev pub some_letter : (Local → ℕ → Letter → Bool) → Local → Deed → Bool
some_letter breaks me (Puts to letters) = some_letter_after breaks [] letters me to
some_letter breaks me (Takes from some) = false

-- ---- the table

pub record Rule : Type 0 where
  pub why : Why
  pub breaks : Local → Deed → Bool

abbrev pub rule : Why → (Local → Deed → Bool) → Rule
rule why breaks = record { why = why; breaks = breaks }

abbrev pub rules : List Rule
rules =
    rule NoSuchRank no_such_rank ∷
    rule NothingThere nothing_there ∷
    rule EmptyBatch empty_batch ∷
    rule BadTag (some_letter bad_tag) ∷
    rule MixedControl mixed_control ∷
    rule WrongHop (some_letter wrong_hop) ∷
    rule NotHeld (some_letter not_held) ∷
    rule TooManySent (some_letter too_many_sent) ∷
    rule SentWhileCounted (some_letter sent_while_counted) ∷
    rule WrongControl (some_letter wrong_control) ∷
    rule CountEarly (some_letter count_early) ∷
    rule CountUnforwarded (some_letter count_unforwarded) ∷
    rule CountWrong (some_letter count_wrong) ∷
    rule TotalEarly (some_letter total_early) ∷
    rule TotalWrong (some_letter total_wrong) ∷
    []

-- the first of the rules that the deed breaks
abbrev pub first_broken_of : List Rule → Local → Deed → Option Why
first_broken_of [] me deed = None
first_broken_of (r ∷ rest) me deed = if r.breaks me deed then Some r.why else first_broken_of rest me deed

unfoldable pub first_broken : Local → Deed → Option Why
first_broken me deed = first_broken_of rules me deed

-- ---- honest logs

-- A log is honest where no Put of it breaks a rule, each tried against the log before it. It doesn't matter what the
-- log took.
abbrev pub IsHonest : Local → Type 0
IsHonest me = (k to : ℕ) (letters : List Letter) → slice_get me.log k ≡ Some (Put to letters) →
    first_broken (record me { log = take k me.log }) (Puts to letters) ≡ None
