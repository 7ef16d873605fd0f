-- What a log put and took of a pair, and of a sender, after it gained an entry.
use Rattle.std.proofs.Common.{◌≡◌, ℕ, Bool, true, false, cond, List, [], ◌∷◌, ◌++◌, refl, ap, ◌∙◌}
use Rattle.std.proofs.lemmas.List.Elements.{filter-append}
use Rattle.msg_codec.specs.declared.letter.Letter.{Letter}
use Rattle.world_core.specs.declared.entry.Entry.{Entry}
use Rattle.world_core.specs.declared.entry.Entry.TheVariants.{Put, Took}
use Rattle.world_core.specs.Log.{letters_put, letters_taken}
use Rattle.world_core.specs.Pairs.{is_of_pair, of_pair, pair_put, pair_taken}
use Rattle.world_core.proofs.Log.Appended.{letters_put-put, letters_taken-put, letters_put-took, letters_taken-took}

pub pair_put-put : (s d : ℕ) (log : List Entry) (to : ℕ) (batch : List Letter) → pair_put s d (log ++ Put to batch ∷ []) ≡ pair_put s d log ++ of_pair s d batch
pair_put-put s d log to batch = ap (of_pair s d) (letters_put-put log to batch) ∙ filter-append (is_of_pair s d) (letters_put log) batch

pub pair_taken-put : (s d : ℕ) (log : List Entry) (to : ℕ) (batch : List Letter) → pair_taken s d (log ++ Put to batch ∷ []) ≡ pair_taken s d log
pair_taken-put s d log to batch = ap (of_pair s d) (letters_taken-put log to batch)

pub pair_put-took : (s d : ℕ) (log : List Entry) (from : ℕ) (batch : List Letter) → pair_put s d (log ++ Took from batch ∷ []) ≡ pair_put s d log
pair_put-took s d log from batch = ap (of_pair s d) (letters_put-took log from batch)

pub pair_taken-took : (s d : ℕ) (log : List Entry) (from : ℕ) (batch : List Letter) → pair_taken s d (log ++ Took from batch ∷ []) ≡ pair_taken s d log ++ of_pair s d batch
pair_taken-took s d log from batch = ap (of_pair s d) (letters_taken-took log from batch) ∙ filter-append (is_of_pair s d) (letters_taken log) batch

-- one letter more
pub of_pair-last : (s d : ℕ) (before : List Letter) (l : Letter) (b : Bool) → is_of_pair s d l ≡ b → of_pair s d (before ++ l ∷ []) ≡ of_pair s d before ++ cond b (l ∷ []) []
of_pair-last s d before l true h = filter-append (is_of_pair s d) before (l ∷ []) ∙ rw h refl
of_pair-last s d before l false h = filter-append (is_of_pair s d) before (l ∷ []) ∙ rw h refl
