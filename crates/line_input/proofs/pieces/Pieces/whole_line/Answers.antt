use Rattle.std.proofs.Common.{length, ◌∙◌, sym, arith, drop, ◌-◌}
use Rattle.std.proofs.lemmas.List.{nil_from_length, length-take}
use Rattle.std.proofs.lemmas.Grind.{common_steps}
use Rattle.line_input.proofs.Held.StartsWithLine.{buffered_line, no_carry}
use Rattle.line_input.proofs.pieces.Pieces.whole_line.Goals as goal

pub returns-clause-line : goal.returns-clause-line
returns-clause-line c =
    let before = c.args.self.now in
    let bytes = c.deref.result.now in
    let within = c.in-Some.ensures.within in
    let most = length-take (before.end - before.start) (drop before.start bytes) in
    let none = no_carry (length before.carry.items) before.start before.end (λ some. c.requires.one_place (omega arith)) (omega (arith, within, most)) in
    record {
      line = rw (sym c.deref.ensures.value) (buffered_line before.carry.items bytes c.in_ok-line.line before.start before.end c.in-Some.length
          (nil_from_length before.carry.items none)
          within
          (omega arith)
          c.in-Some.ensures.partial
          c.in-Some.ensures.parts
          (c.in_ok-line.ensures.value ∙ c.text_len.ensures.text));
      bound = grind (arith, common_steps);
    }
