-- Where a reading ended without a fault, all lines of its file were taken.
use Rattle.std.proofs.Common.{◌≡◌, ℕ, List, Some, None, Option, IfSome, map, sym, ap}
use Rattle.std.proofs.lemmas.Option.{IfSome_then}
use Rattle.ygm_io.specs.Content.{ExposedBytes}
use Rattle.line_input.specs.Lines.{lines_of, text_of}
use Rattle.line_input.specs.Reading.{Reading}
use Rattle.line_input.specs.Taken.{LinesTaken}
use Rattle.line_input.specs.Turns.{to_come}
use Rattle.line_input.proofs.Taken.LinesTaken.{all_given}
use Rattle.ygm_run.specs.declared.status.InputFault.{InputFault}
use Rattle.ygm_run.specs.ReadLines.{EndedWith}

pub all_taken : (raws : List (List ℕ)) (reader : Reading) (before now : ExposedBytes) (faults : ℕ) (fault : Option InputFault) → LinesTaken raws before (to_come reader.held now)
    → EndedWith fault reader now faults → fault ≡ None → IfSome before (λ bytes. map text_of raws ≡ lines_of bytes)
all_taken raws reader before now faults None taken ended none = IfSome_then before (all_given raws reader.held before now taken ended.0 ended.1) (λ bytes e. ap (map text_of) (sym e))
all_taken raws reader before now faults (Some fault) taken ended none = cc
