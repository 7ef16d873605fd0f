-- When a rank's faults come.
use Rattle.std.specs.Prelude.{◌≡◌, ℕ, ◌<◌, length, ⊤}
use Rattle.msg_codec.specs.declared.letter.Letter.{Letter}
use Rattle.comm_rank.specs.Fold.{Applies}
use Rattle.comm_rank.specs.declared.fault.CommFault.{CommFault}
use Rattle.comm_rank.specs.declared.fault.CommFault.TheVariants.{Stopped, CountFull, NoMemory}

-- a fact of a turn, a poll or a barrier that met the stop
abbrev pub IfStopped : CommFault → Type 0 → Type 0
IfStopped Stopped P = P
IfStopped (CountFull at) P = ⊤
IfStopped NoMemory P = ⊤

-- a fact of a turn, a poll or a barrier that failed at the rank itself
abbrev pub UnlessStopped : CommFault → Type 0 → Type 0
UnlessStopped Stopped P = ⊤
UnlessStopped (CountFull at) P = P
UnlessStopped NoMemory P = P

-- a fact of the limit that a full count reports
abbrev pub IfCountFull : CommFault → (ℕ → Type 0) → Type 0
IfCountFull Stopped P = ⊤
IfCountFull (CountFull at) P = P at
IfCountFull NoMemory P = ⊤

-- a call that doesn't look at the stop returned this fault
abbrev pub NeverStopped : CommFault → Type 0
NeverStopped Stopped = ⊥
NeverStopped (CountFull at) = ⊤
NeverStopped NoMemory = ⊤

-- a full count is reported only by a rank that has sent as many letters as it may, and tells that number
abbrev pub IsFullAt : ℕ → ℕ → CommFault → Type 0
IsFullAt count limit fault = IfCountFull fault (λ at. (count ≡ limit) × (at ≡ limit))

-- some letter makes the handler send others
abbrev pub Gives : {C : Type 0} → Applies C → Type 0
Gives {C} apply =
    (contents : C) × (here : ℕ) × (ranks : ℕ) × (letter : Letter) × (0 < length (apply contents here ranks letter).1)

-- while letters run, a full count is reported only where a handler sends others
abbrev pub GivesIfFull : {C : Type 0} → Applies C → CommFault → Type 0
GivesIfFull apply fault = IfCountFull fault (λ _. Gives apply)
