-- The control letters that a rank hands over, and what it had put before each of its Counts.
use Rattle.std.proofs.Common.{◌≡◌, ℕ, ◌<◌, List, [], ◌∷◌, ◌++◌, sym, ap, ◌∙◌, subst, append_assoc, arith}
use Rattle.list_facts.specs.Prefix.{IsSuffix}
use Rattle.list_facts.specs.Sublist.{IsSublist}
use Rattle.msg_codec.specs.declared.letter.Letter.{Letter}
use Rattle.world_core.specs.declared.entry.Entry.{Entry}
use Rattle.world_core.specs.Counts.{counts}
use Rattle.world_core.specs.Pairs.{arrived, of_pair, pair_put}
use Rattle.world_core.proofs.Counts.BeforeCount.{before_stands, counts-append}
use Rattle.comm_rank.specs.Agrees.{IsServed}
use Rattle.comm_rank.specs.Fold.{Applies, handed_from}

-- ---- before its Counts

-- what a rank had put before a Count, as a fact of the log before it
abbrev pub ServedBy : {C : Type 0} → Applies C → ℕ → ℕ → C → ℕ → List Entry → Type 0
ServedBy apply here ranks contents to log = IsSublist (of_pair here to (handed_from apply here ranks contents (arrived here log))) (pair_put here to log)

-- a log that gains no Count
pub served_more : {C : Type 0} (apply : Applies C) (here ranks : ℕ) (contents : C) (log more : List Entry) → counts more ≡ 0 → IsServed apply here ranks contents log → IsServed apply here ranks contents (log ++ more)
served_more apply here ranks contents log more none served q to some =
    let was : q < counts log = omega (arith, some, none, counts-append log more) in
    subst (ServedBy apply here ranks contents to) (sym (before_stands q log more was)) (served q to was)

-- ---- control letters

-- one more comes
pub suffix_longer : (last whole more : List Letter) → IsSuffix last whole → IsSuffix (last ++ more) (whole ++ more)
suffix_longer last whole more suffix = record { before = suffix.before; joined = sym (append_assoc suffix.before last more) ∙ ap (λ xs. xs ++ more) suffix.joined }

-- the first is handed over
pub suffix_shorter : (l : Letter) (last whole : List Letter) → IsSuffix (l ∷ last) whole → IsSuffix last whole
suffix_shorter l last whole suffix = record { before = suffix.before ++ l ∷ []; joined = append_assoc suffix.before (l ∷ []) last ∙ suffix.joined }
