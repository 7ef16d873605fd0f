-- Why a line is bad, in words.
use Rattle.std.specs.Prelude.{ℕ, List, codes}
use Rattle.line_input.specs.declared.why.LineWhy.{LineWhy}
use Rattle.line_input.specs.declared.why.LineWhy.TheVariants.{TooLong}

abbrev pub why_text : LineWhy → List ℕ
why_text TooLong = codes "line too long"
