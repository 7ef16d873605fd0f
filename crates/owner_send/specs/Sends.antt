-- What a call of a container does to the rank that makes it: it sends one letter, or nothing.
use Rattle.std.specs.Prelude.{◌≡◌, ℕ, ◌≤◌, List, Result, IfErr, IsErr, OnErr, OnOk}
use Rattle.msg_codec.specs.declared.letter.Letter.{Letter}
use Rattle.world_core.specs.declared.entry.Entry.{Entry}
use Rattle.part_hash.specs.Owner.{owner_of_key}
use Rattle.comm_rank.specs.Agrees.{Agrees}
use Rattle.comm_rank.specs.Fault.{IsFullAt, NeverStopped}
use Rattle.comm_rank.specs.Fold.{Applies}
use Rattle.comm_rank.specs.Rank.{HasSent, Rank}
use Rattle.comm_rank.specs.declared.fault.CommFault.{CommFault}

-- The letter was sent, or the call failed and the rank is unchanged. A full count is reported only at the rank's limit, and
-- there the call fails, perhaps for lack of memory. The rank still agrees with each log that it agreed with.
pub record SendsOne {C : Type 0} (apply : Applies C) (start : C → C) (old new : Rank C) (outcome : Result (Unit {0}) CommFault) (l : Letter) : Type 0 where
  pub sent : OnOk outcome (HasSent old new l)
  pub unchanged : OnErr outcome (new ≡ old)
  pub cause : IfErr outcome (IsFullAt old.sent_count old.most)
  pub full : old.most ≤ old.sent_count → IsErr outcome
  pub never_stopped : IfErr outcome NeverStopped
  pub agrees : (log : List Entry) → Agrees apply start old log → Agrees apply start new log

-- the letter with this tag and body from a rank to the owner of a key
abbrev pub letter_to_owner : {C : Type 0} → Rank C → List ℕ → ℕ → List ℕ → Letter
letter_to_owner me key tag body = record { to = owner_of_key key me.layout.ranks; from = me.here; tag = tag; body = body }
