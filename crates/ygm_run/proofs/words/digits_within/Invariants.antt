use Rattle.std.proofs.Common.{◌≡◌, ◌≤◌, drop}
use Rattle.ygm_run.specs.Words.{number_after}
use Rattle.ygm_run.proofs.words.digits_within.Given as goal

abbrev pub invariant-loop-digit : goal.invariant-loop-digit
invariant-loop-digit l = record {
  bounded : l.number ≤ l.most;
  read : number_after 0 l.digits ≡ number_after l.number (drop l.digit-index l.digits);
}
