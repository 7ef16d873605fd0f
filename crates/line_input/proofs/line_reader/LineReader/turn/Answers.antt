use Rattle.std.proofs.Common.{rules, [], ◌++◌, ap, subst, sym, ◌∙◌, arith}
use Rattle.std.proofs.lemmas.List.{append-nil}
use Rattle.rising_counts.specs.Rising.{next_count}
use Rattle.std.proofs.lemmas.Grind.{common_steps}
use Rattle.line_input.specs.Lines.{StartsTooLong}
use Rattle.line_input.specs.Held.{held_in}
use Rattle.line_input.specs.Reading.{Reading}
use Rattle.line_input.specs.Turns.{to_come}
use Rattle.line_input.proofs.Turns.GaveLine.{gave_line, line_taken, line_read, last_line_taken}
use Rattle.line_input.proofs.Turns.ToCome.{to_come-read, too_long_to_come, none_too_long}
use Rattle.line_input.proofs.line_reader.LineReader.turn.Goals as goal

-- a line that the buffer held whole

pub returns-in-Some-clause-turned : goal.returns-in-Some-clause-turned
returns-in-Some-clause-turned g c =
    let gave = rw c.in-Some.is at c.in_ok-line.ensures.line in
    gave_line g.S.Source.left g.S.Source.faults _ _ (held_in c.self.inside.pieces) (held_in c.whole_line.new.self) _ _ _ _
    c.give.ensures.line
    (ap (λ (r : Reading). r.held) (sym c.self.view_is))
    (ap (λ (r : Reading). r.held) c.give.ensures.counted)
    (ap (λ (r : Reading). r.given) c.give.ensures.counted ∙ ap (λ (r : Reading). next_count r.given) c.self.view_is)
    gave.bound
    (line_taken _ _ _ (g.S.Source.left c.args.src.now) gave.line)

-- the last line, at the source's end

pub returns-then-count-eq0-clause-turned : goal.returns-then-count-eq0-clause-turned
returns-then-count-eq0-clause-turned g c =
    let unchanged = rw c.in_default.is at c.in_ok-line.ensures.unchanged in
    let same = c.read.ensures.same ∙ c.gather.ensures.same ∙ ap held_in unchanged ∙ ap (λ (r : Reading). r.held) c.self.view_is in
    let piece = c.in-Ok.ensures.piece in
    gave_line g.S.Source.left g.S.Source.faults _ _ (held_in c.read.new.self) [] _ _ _ _
    c.give-then-count-eq0.ensures.line
    (sym same)
    (ap (λ (r : Reading). r.held) c.give-then-count-eq0.ensures.counted ∙ c.last_line.ensures.nothing_held)
    (ap (λ (r : Reading). r.given) c.give-then-count-eq0.ensures.counted ∙ ap (λ (r : Reading). next_count r.given) c.self.view_is)
    (omega arith)
    (last_line_taken _ _ (g.S.Source.left c.args.src.now) (g.S.Source.left c.read.new.src) c.in-Some-last_line.ensures.line
    (rw c.if-count-eq0.true at piece.taken)
    (piece.end c.if-count-eq0.true))

-- a line that the read made whole

pub returns-in-Ok-Some-clause-turned : goal.returns-in-Ok-Some-clause-turned
returns-in-Ok-Some-clause-turned g c =
    let unchanged = rw c.in_default.is at c.in_ok-line.ensures.unchanged in
    let same = c.read.ensures.same ∙ c.gather.ensures.same ∙ ap held_in unchanged ∙ ap (λ (r : Reading). r.held) c.self.view_is in
    let gave = rw c.in-Ok-Some.field-0-is at c.in-Ok-Some.ensures.line in
    gave_line g.S.Source.left g.S.Source.faults _ _ (held_in c.read.new.self) (held_in c.take_piece.new.self) _ _ _ _
    c.give-in-Ok-Some.ensures.line
    (sym same)
    (ap (λ (r : Reading). r.held) c.give-in-Ok-Some.ensures.counted)
    (ap (λ (r : Reading). r.given) c.give-in-Ok-Some.ensures.counted ∙ ap (λ (r : Reading). next_count r.given) c.self.view_is)
    gave.bound
    (line_read _ _ _ _ (g.S.Source.left c.args.src.now) (g.S.Source.left c.read.new.src) c.in-Ok.ensures.piece.taken gave.line)

-- no line is whole yet

pub returns-in-Ok-None-clause-turned : goal.returns-in-Ok-None-clause-turned
returns-in-Ok-None-clause-turned g c =
    let before = g.S.Source.left c.args.src.now in
    let now = g.S.Source.left c.read.new.src in
    let unchanged = rw c.in_default.is at c.in_ok-line.ensures.unchanged in
    let same = c.read.ensures.same ∙ c.gather.ensures.same ∙ ap held_in unchanged ∙ ap (λ (r : Reading). r.held) c.self.view_is in
    let partial = rw c.in-Ok-None.field-0-is at c.in-Ok-None.ensures.none in
    record {
      nothing_lost = record {
        to_come_unchanged = ap (λ h. to_come h now) partial.all
            ∙ to_come-read (held_in c.read.new.self) _ before now c.in-Ok.ensures.piece.taken
            ∙ ap (λ h. to_come h before) same;
        count_unchanged = search rules;
      };
      more = grind (arith, common_steps);
      partial = partial.partial;
      short = partial.short;
    }

pub returns-in-Ok-None-clause-each_turn : goal.returns-in-Ok-None-clause-each_turn
returns-in-Ok-None-clause-each_turn g c = record {
  end_if_nothing_to_come = grind (arith, common_steps);
  faults_unchanged = search rules;
  never_falls = search rules;
  done = search rules;
  one_piece = search rules;
  exposed = search rules;
}

-- the line is too long

pub returns-in-Err-clause-turned : goal.returns-in-Err-clause-turned
returns-in-Err-clause-turned g c =
    let before = g.S.Source.left c.args.src.now in
    let now = g.S.Source.left c.read.new.src in
    let unchanged = rw c.in_default.is at c.in_ok-line.ensures.unchanged in
    let same = c.read.ensures.same ∙ c.gather.ensures.same ∙ ap held_in unchanged ∙ ap (λ (r : Reading). r.held) c.self.view_is in
    let found = c.in-Err.ensures.too_long in
    record {
      nothing_lost = record {
        to_come_unchanged = ap (λ h. to_come h now) found.all
            ∙ to_come-read (held_in c.read.new.self) _ before now c.in-Ok.ensures.piece.taken
            ∙ ap (λ h. to_come h before) same;
        count_unchanged = search rules;
      };
      held_too_long = subst StartsTooLong (append-nil (held_in c.take_piece.new.self)) (found.too_long []);
      to_come_too_long = rw (sym same)
          (too_long_to_come (held_in c.read.new.self) _ before now c.in-Ok.ensures.piece.taken
          (λ rest. subst (λ h. StartsTooLong (h ++ rest)) found.all (found.too_long rest)));
      by_a_piece = search rules;
      number_is = search rules;
    }

pub returns-in-Err-clause-each_turn : goal.returns-in-Err-clause-each_turn
returns-in-Err-clause-each_turn g c = record {
  end_if_nothing_to_come = λ nothing. none_too_long _ nothing (returns-in-Err-clause-turned g c).to_come_too_long;
  faults_unchanged = search rules;
  never_falls = search rules;
  done = search rules;
  one_piece = search rules;
  exposed = search rules;
}
