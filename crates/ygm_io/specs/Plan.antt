-- Which calls of an object are to fail.
use Rattle.std.specs.Prelude.{ℕ, List, Contains}
use Rattle.rising_counts.specs.Rising.{next_count}

-- the numbers of the calls that are to fail, how many calls there were, and how often one failed
pub record Plan : Type 0 where
  pub fails : List ℕ
  pub calls : ℕ
  pub faults : ℕ

-- before the first call
abbrev pub fresh_plan : List ℕ → Plan
fresh_plan fails = record { fails = fails; calls = 0; faults = 0 }

-- the next call is to fail
abbrev pub NextFails : Plan → Type 0
NextFails plan = Contains plan.fails plan.calls

-- after a call
abbrev pub after_call : Plan → Plan
after_call plan = record plan { calls = next_count plan.calls }

-- after a call that failed
abbrev pub after_fault : Plan → Plan
after_fault plan = record plan { calls = next_count plan.calls; faults = next_count plan.faults }
