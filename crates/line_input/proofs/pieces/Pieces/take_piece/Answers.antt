use Rattle.std.proofs.Common.{rules, ◌≡◌, ◌≢◌, ◌<◌, ◌+◌, ◌∷◌, ◌++◌, length, ◌∙◌, sym, ap, refl, subst, arith, take, drop, not}
use Rattle.std.proofs.lemmas.List.{length-take-le, append-nil}
use Rattle.std.proofs.lemmas.List.Elements.{All-append}
use Rattle.std.proofs.lemmas.Slice.{pushed}
use Rattle.std.specs.Prelude.{slice_range}
use Rattle.std.proofs.lemmas.Grind.{common_steps}
use Rattle.list_facts.proofs.Outcomes.{unwrapped}
use Rattle.list_facts.proofs.Slices.{slice_range-behind, slice_range-empty, slice_range-front}
use Rattle.line_input.specs.Lines.{LacksLf, StartsTooLong, text_of}
use Rattle.line_input.specs.Held.{held_in}
use Rattle.line_input.proofs.Held.StartsWithLine.{LacksLf-prefix, prefix_within, same_line, joined_line}
use Rattle.line_input.proofs.Held.IsTooLong.{joined_too_long}
use Rattle.line_input.proofs.pieces.Pieces.take_piece.Goals as goal

pub returns-then-len-length-gt-MAX_LINE-clause-too_long : goal.returns-then-len-length-gt-MAX_LINE-clause-too_long
returns-then-len-length-gt-MAX_LINE-clause-too_long c =
    let before = c.args.self.now in
    let bytes = c.deref.result.now in
    let piece = take c.args.count bytes in
    let n = c.unwrap_or-length.result in
    let partial = LacksLf-prefix c.line_end-found.result piece c.args.count c.line_end-found.ensures.partial c.line_end-found.ensures.none in
    let all = length-take-le c.args.count bytes (omega arith) in
    let within = prefix_within c.line_end-found.result c.args.count (length piece) (omega arith) c.line_end-found.ensures.within in
    let waits = slice_range-front before.buffer.items before.start c.args.count c.requires.gathered.start ∙ ap (take c.args.count) (sym c.deref.ensures.value) in
    record {
      all = search rules;
      too_long = λ rest. subst (λ w. StartsTooLong ((before.carry.items ++ w) ++ rest)) (sym waits)
          (joined_too_long before.carry.items piece n c.requires.open.partial
          (subst (λ m. LacksLf (take m piece)) (sym c.unwrap_or-length.ensures) partial)
          (omega arith)
          (omega arith)
          rest);
    }

pub returns-then-is_none-clause-none : goal.returns-then-is_none-clause-none
returns-then-is_none-clause-none c =
    let before = c.args.self.now in
    let piece = take c.args.count c.deref.result.now in
    let n = c.unwrap_or-length.result in
    let partial = LacksLf-prefix c.line_end-found.result piece c.args.count c.line_end-found.ensures.partial c.line_end-found.ensures.none in
    let carry = c.extend_from_slice.new.self.items in
    let grown = pushed (take n piece) refl c.unwrap.ensures c.extend_from_slice.ensures.items in
    let held = ap (λ w. carry ++ w) (slice_range-empty before.buffer.items before.start before.end (omega arith)) ∙ append-nil carry ∙ grown in
    record {
      all = grind (arith, common_steps);
      partial = subst LacksLf (sym held)
          (All-append (λ b. b ≢ 10) before.carry.items (take n piece) c.requires.open.partial
          (subst (λ m. LacksLf (take m piece)) (sym c.unwrap_or-length.ensures) partial));
      short = search rules;
    }

pub returns-clause-line : goal.returns-clause-line
returns-clause-line c =
    let before = c.args.self.now in
    let bytes = c.deref.result.now in
    let piece = take c.args.count bytes in
    let n = c.unwrap_or-length.result in
    let found = c.line_end-found.result in
    let some = c.is_none.ensures ∙ ap not c.if-is_none.false in
    let partial = LacksLf-prefix found piece c.args.count c.line_end-found.ensures.partial c.line_end-found.ensures.none in
    let parts = unwrapped (λ m. piece ≡ take m piece ++ 10 ∷ drop (m + 1) piece) found c.args.count some c.line_end-found.ensures.parts in
    let within = unwrapped (λ m. m < length piece) found c.args.count some c.line_end-found.ensures.within in
    let all = length-take-le c.args.count bytes (omega arith) in
    let empty = slice_range-empty before.buffer.items before.start before.end (omega arith) in
    let grown = pushed (take n piece) refl c.unwrap.ensures c.extend_from_slice.ensures.items in
    let is_piece = ap (take c.args.count) (sym c.deref.ensures.value) in
    let line = joined_line before.carry.items (take n piece) (drop (n + 1) piece) c.take_carry.result
    c.requires.open.partial
    (subst (λ m. LacksLf (take m piece)) (sym c.unwrap_or-length.ensures) partial)
    (omega (arith, length-take-le n piece (omega arith)))
    (c.take_carry.ensures.text ∙ ap text_of grown) in
    record {
      line = same_line _ _ _ _ _
          (ap (λ w. (before.carry.items ++ w) ++ take c.args.count before.buffer.items) empty
          ∙ ap (λ carry. carry ++ take c.args.count before.buffer.items) (append-nil before.carry.items)
          ∙ ap (λ p. before.carry.items ++ p) (is_piece ∙ subst (λ m. piece ≡ take m piece ++ 10 ∷ drop (m + 1) piece) (sym c.unwrap_or-length.ensures) parts))
          (ap held_in c.take_carry.ensures.taken
          ∙ ap (λ carry. carry ++ slice_range before.buffer.items (n + 1) c.args.count) c.take_carry.ensures.empty
          ∙ slice_range-behind (n + 1) c.args.count before.buffer.items (omega arith)
          ∙ ap (drop (n + 1)) is_piece)
          line;
      bound = grind (arith, common_steps);
    }
