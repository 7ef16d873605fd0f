use Rattle.std.proofs.Common.{◌≡◌, length}
use Rattle.ygm_run.specs.Words.{parts_of, texts_of}
use Rattle.ygm_run.proofs.words.files_of.Given as goal

abbrev pub invariant-loop-later : goal.invariant-loop-later
invariant-loop-later l = (parts_of (texts_of l.fn.words)).files ≡ (parts_of (texts_of l.rest)).files

abbrev pub decreases-loop-later : goal.decreases-loop-later
decreases-loop-later l = length l.rest
