-- What holds where a turn or a send failed, by the fault.
use Rattle.std.proofs.Common.{◌≡◌, ℕ, sym, ◌∙◌}
use Rattle.comm_rank.specs.declared.fault.CommFault.{CommFault}
use Rattle.comm_rank.specs.declared.fault.CommFault.TheVariants.{Stopped, CountFull, NoMemory}
use Rattle.comm_rank.specs.Fault.{IfCountFull, IsFullAt}
use Rattle.comm_rank.specs.Fold.{Applies}
use Rattle.comm_rank.specs.Rank.{Rank}
use Rattle.comm_rank.specs.Turns.{IsCause}
use Rattle.comm_rank.specs.Fault.{IfStopped, UnlessStopped}

pub if_full : {P Q : ℕ → Type 0} (fault : CommFault) → ((at : ℕ) → P at → Q at) → IfCountFull fault P → IfCountFull fault Q
if_full Stopped more h = tt
if_full NoMemory more h = tt
if_full (CountFull at) more h = more at h

pub full_at : (count most most' : ℕ) → most' ≡ most → (fault : CommFault) → IsFullAt count most fault → IsFullAt count most' fault
full_at count most most' e (CountFull at) h = (h.0 ∙ sym e, h.1 ∙ sym e)
full_at count most most' e Stopped h = tt
full_at count most most' e NoMemory h = tt

-- the cause of a fault, as the rank had it before
pub cause_on : {C : Type 0} (apply : Applies C) (old mid new : Rank C) → mid.most ≡ old.most → (fault : CommFault) → IsCause apply mid new fault → IsCause apply old new fault
cause_on apply old mid new most fault cause = record {
  count_full = full_at new.sent_count mid.most old.most (sym most) fault cause.count_full;
  gave = cause.gave;
  never_stopped = cause.never_stopped;
}

pub unless_stopped : {P : Type 0} (fault : CommFault) → P → UnlessStopped fault P
unless_stopped Stopped p = tt
unless_stopped (CountFull at) p = p
unless_stopped NoMemory p = p

pub if_stopped : {P Q : Type 0} (fault : CommFault) → (P → Q) → IfStopped fault P → IfStopped fault Q
if_stopped Stopped more p = more p
if_stopped (CountFull at) more p = tt
if_stopped NoMemory more p = tt

pub unless_stopped_then : {P Q : Type 0} (fault : CommFault) → (P → Q) → UnlessStopped fault P → UnlessStopped fault Q
unless_stopped_then Stopped more p = tt
unless_stopped_then (CountFull at) more p = more p
unless_stopped_then NoMemory more p = more p
