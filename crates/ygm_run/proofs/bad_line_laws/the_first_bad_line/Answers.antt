use Rattle.std.proofs.Common.{◌∙◌, ap}
use Rattle.std.specs.Option.{option_map}
use Rattle.ygm_run.proofs.Inputs.TallyWrong.{first_wrong_of, none_wrong, too_long_at}
use Rattle.ygm_run.proofs.Inputs.GoodLines.{good_of_first, good_of_short}
use Rattle.ygm_run.proofs.bad_line_laws.the_first_bad_line.Goals as goal

pub returns-clause-why : goal.returns-clause-why
returns-clause-why c = λ raws number first. first_wrong_of raws ∙ ap (option_map too_long_at) first

pub returns-clause-no_why : goal.returns-clause-no_why
returns-clause-no_why c = none_wrong

pub returns-clause-good : goal.returns-clause-good
returns-clause-good c = good_of_first

pub returns-clause-all_good : goal.returns-clause-all_good
returns-clause-all_good c = good_of_short
