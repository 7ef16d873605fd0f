-- The outcomes of the calls of a table. Each names the value that it found, and says what became of the pass.
use Rattle.std.specs.Prelude.{◌≡◌, ℕ, Bool, true, false, not, ◌==◌, List, [], ◌∷◌, ◌++◌}
use Rattle.msg_codec.specs.declared.letter.Letter.{Letter}
use Rattle.world_core.specs.declared.entry.Entry.TheVariants.{Put, Took}
use Rattle.world_core.specs.Modest.{IsModest}
use Rattle.mail_table.specs.Table.{PassState, has_batch, is_full, local_of, taken_count}
use Rattle.mail_table.specs.Views.{loaded, loaded_at}

-- ---- a put to a rank

-- the head word shows room, and the batch is the last of the link
pub record BatchPut (to : ℕ) (batch : List Letter) (old new : PassState) : Type 0 where
  pub found : ℕ
  pub room : is_full old to found ≡ false
  pub after : new ≡ record old { log = old.log ++ Put to batch ∷ []; heads = loaded_at old.heads to found }

-- the head word shows a full link, or the link has carried all that it may
pub record LinkFull (to : ℕ) (old new : PassState) : Type 0 where
  pub found : ℕ
  pub full : is_full old to found ≡ true
  pub after : new ≡ record old { heads = loaded_at old.heads to found }

-- ---- a take from a rank

-- the tail word shows a batch, and the oldest was taken
pub record BatchTaken (from : ℕ) (batch : List Letter) (old new : PassState) : Type 0 where
  pub found : ℕ
  pub there : has_batch old from found ≡ true
  pub after : new ≡ record old { log = old.log ++ Took from batch ∷ []; tails = loaded_at old.tails from found }
  pub modest : IsModest (local_of new)

-- the tail word is the number taken
pub record NothingNew (from : ℕ) (old new : PassState) : Type 0 where
  pub after : new ≡ record old { tails = loaded_at old.tails from (taken_count old from) }

-- ---- a look at the stop

-- The stop word is 0 until a rank raises the stop. A rank that raised it sees it raised.
abbrev pub is_raised : ℕ → Bool
is_raised found = not (found == 0)

pub record StopLoaded (stopped : Bool) (old new : PassState) : Type 0 where
  pub found : ℕ
  pub shown : stopped ≡ is_raised found
  pub after : new ≡ record old { stop = loaded old.stop found }
  pub own : old.raised ≡ true → stopped ≡ true
