-- The lines that turns returned are the first of the bytes that were to come.
use Rattle.std.proofs.Common.{◌≡◌, ℕ, ◌+◌, ◌<◌, ◌≤◌, List, [], ◌∷◌, ◌++◌, Some, None, IfSome, Ok, Err, length, length-append, map, refl, sym, ap, subst, ◌∙◌, arith}
use Rattle.std.specs.List.{AllByRecursion}
use Rattle.std.proofs.lemmas.List.{append-nil, append_assoc, length-map, map-append}
use Rattle.list_facts.specs.Prefix.{IsPrefix}
use Rattle.list_facts.proofs.Elements.{all_append}
use Rattle.rising_counts.specs.Rising.{max_count}
use Rattle.ygm_io.specs.Content.{ExposedBytes, NothingLeft}
use Rattle.line_input.specs.declared.line_reader.Got.TheVariants.{Line, More, End}
use Rattle.line_input.specs.declared.line_reader.LineFault.TheVariants.{ReadFault, LineTooLong, NoMemory}
use Rattle.line_input.specs.Limits.{max_line}
use Rattle.line_input.specs.Lines.{IsFirstTooLong, StartsTooLong, first_too_long, lines_of, raw_lines, text_of}
use Rattle.line_input.specs.Reading.{Reading, fresh_reading}
use Rattle.line_input.specs.Runs.{InTurn, OneTurn, line_in, lines_in}
use Rattle.line_input.specs.Taken.{LinesTaken}
use Rattle.line_input.specs.Turns.{LostNothing, MetEnd, MetTooLong, RawLineTaken, TurnResult, Turned, to_come}
use Rattle.line_input.proofs.Lines.FirstTooLong.{first_of_number, later_too_long}
use Rattle.line_input.proofs.Taken.LinesTaken.{line_cut, whole_lines}

-- the raw lines of these texts came first, and none is too long
record CameFirst (bytes rest : List ℕ) (texts : List (List ℕ)) : Type 0 where
  pub raws : List (List ℕ)
  pub parts : raw_lines bytes ≡ raws ++ raw_lines rest
  pub texts_are : texts ≡ map text_of raws
  pub short : AllByRecursion (λ raw. length raw ≤ max_line) raws

none_came : (bytes : List ℕ) → CameFirst bytes bytes []
none_came bytes = record { raws = []; parts = refl; texts_are = refl; short = tt }

more_came : (bytes rest later : List ℕ) (texts others : List (List ℕ)) → CameFirst bytes rest texts → CameFirst rest later others → CameFirst bytes later (texts ++ others)
more_came bytes rest later texts others one two = record {
  raws = one.raws ++ two.raws;
  parts = one.parts ∙ ap (λ w. one.raws ++ w) two.parts ∙ sym (append_assoc one.raws two.raws (raw_lines later));
  texts_are = ap (λ w. w ++ others) one.texts_are ∙ ap (λ w. map text_of one.raws ++ w) two.texts_are ∙ sym (map-append text_of one.raws two.raws);
  short = all_append (λ raw. length raw ≤ max_line) one.raws two.raws one.short two.short;
}

-- what came first of these bytes, and what is to come after it
record Came (bytes : List ℕ) (texts : List (List ℕ)) (now : ExposedBytes) : Type 0 where
  pub rest : List ℕ
  pub still : now ≡ Some rest
  pub first : CameFirst bytes rest texts

line_came : (text bytes : List ℕ) (before now : ExposedBytes) → before ≡ Some bytes → (line : RawLineTaken text before now) → LinesTaken (line.raw ∷ []) before now → Came bytes (text ∷ []) now
line_came text bytes before None is line taken = absurd (let e = taken.taken in cc)
line_came text bytes before (Some rest) is line taken = record {
  rest = rest;
  still = refl;
  first = record {
    raws = line.raw ∷ [];
    parts = whole_lines (line.raw ∷ []) bytes rest (subst (λ gone. LinesTaken (line.raw ∷ []) gone (Some rest)) is taken);
    texts_are = ap (λ t. t ∷ []) line.text_is;
    short = (line.short, tt);
  };
}

module _ {S : Type 0} (left : S → ExposedBytes) (faults : S → ℕ) where
  nothing_came : (bytes : List ℕ) (old new : Reading) (before now : S) → to_come old.held (left before) ≡ Some bytes → LostNothing left old new before now → Came bytes [] (to_come new.held (left now))
  nothing_came bytes old new before now is lost = record { rest = bytes; still = lost.to_come_unchanged ∙ is; first = none_came bytes }

  -- by one turn
  one_came : (result : TurnResult) (bytes : List ℕ) (old new : Reading) (before now : S) → to_come old.held (left before) ≡ Some bytes
      → Turned left faults result old new before now → Came bytes (line_in result) (to_come new.held (left now))
  one_came (Ok (Line text)) bytes old new before now is did =
      let line = did.raw_line in
      line_came text bytes (to_come old.held (left before)) (to_come new.held (left now)) is line
      (line_cut line.raw (to_come old.held (left before)) (to_come new.held (left now)) line.partial line.cut)
  one_came (Ok More) bytes old new before now is did = nothing_came bytes old new before now is did.nothing_lost
  one_came (Ok End) bytes old new before now is did = nothing_came bytes old new before now is did.nothing_lost
  one_came (Err ReadFault) bytes old new before now is did = nothing_came bytes old new before now is did.nothing_lost
  one_came (Err (LineTooLong number)) bytes old new before now is did = nothing_came bytes old new before now is did.nothing_lost
  one_came (Err NoMemory) bytes old new before now is did = rw (did.same_reader, did.same_source) (record { rest = bytes; still = is; first = none_came bytes })

  one_counted : (result : TurnResult) (old new : Reading) (before now : S) → old.given + length (line_in result) ≤ max_count
      → Turned left faults result old new before now → new.given ≡ old.given + length (line_in result)
  one_counted (Ok (Line text)) old new before now fits did = omega (arith, did.counted)
  one_counted (Ok More) old new before now fits did = omega (arith, did.nothing_lost.count_unchanged)
  one_counted (Ok End) old new before now fits did = omega (arith, did.nothing_lost.count_unchanged)
  one_counted (Err ReadFault) old new before now fits did = omega (arith, did.nothing_lost.count_unchanged)
  one_counted (Err (LineTooLong number)) old new before now fits did = omega (arith, did.nothing_lost.count_unchanged)
  one_counted (Err NoMemory) old new before now fits did = omega (arith, ap (λ (r : Reading). r.given) did.same_reader)

  -- the reader and the source after some turns
  reader_after : Reading → List (OneTurn S) → Reading
  reader_after reader [] = reader
  reader_after reader (turn ∷ turns) = reader_after turn.reader turns

  source_after : S → List (OneTurn S) → S
  source_after source [] = source
  source_after source (turn ∷ turns) = source_after turn.source turns

  -- by several turns
  all_came : (turns : List (OneTurn S)) (bytes : List ℕ) (reader : Reading) (source : S) → to_come reader.held (left source) ≡ Some bytes
      → InTurn left faults reader source turns → Came bytes (lines_in turns) (to_come (reader_after reader turns).held (left (source_after source turns)))
  unfolding reader_after source_after
  all_came [] bytes reader source is did = record { rest = bytes; still = is; first = none_came bytes }
  all_came (turn ∷ turns) bytes reader source is did =
      let one = one_came turn.result bytes reader turn.reader source turn.source is did.0 in
      let more = all_came turns one.rest turn.reader turn.source one.still did.1 in
      record { rest = more.rest; still = more.still; first = more_came bytes one.rest more.rest (line_in turn.result) (lines_in turns) one.first more.first }

  all_counted : (turns : List (OneTurn S)) (reader : Reading) (source : S) → reader.given + length (lines_in turns) ≤ max_count
      → InTurn left faults reader source turns → (reader_after reader turns).given ≡ reader.given + length (lines_in turns)
  unfolding reader_after
  all_counted [] reader source fits did = omega arith
  all_counted (turn ∷ turns) reader source fits did =
      let sums = length-append (line_in turn.result) (lines_in turns) in
      let one = one_counted turn.result reader turn.reader source turn.source (omega (arith, fits, sums)) did.0 in
      omega (arith, sums, one, all_counted turns turn.reader turn.source (omega (arith, fits, sums, one)) did.1)

  -- the last turn and those before it
  last_apart : (turns : List (OneTurn S)) (last : OneTurn S) (reader : Reading) (source : S) → InTurn left faults reader source (turns ++ last ∷ [])
      → InTurn left faults reader source turns × Turned left faults last.result (reader_after reader turns) last.reader (source_after source turns) last.source
  unfolding reader_after source_after
  last_apart [] last reader source did = (tt, did.0)
  last_apart (turn ∷ turns) last reader source did =
      let later = last_apart turns last turn.reader turn.source did.1 in
      ((did.0, later.0), later.1)

  -- ---- of a reader that has read nothing

  fresh_to_come : (source : S) (bytes : List ℕ) → left source ≡ Some bytes → to_come [] (left source) ≡ Some bytes
  fresh_to_come source bytes is = ap (to_come []) is

  pub in_order : (source : S) (turns : List (OneTurn S)) (bytes : List ℕ) → left source ≡ Some bytes → InTurn left faults fresh_reading source turns → IsPrefix (lines_in turns) (lines_of bytes)
  in_order source turns bytes is did =
      let came = all_came turns bytes fresh_reading source (fresh_to_come source bytes is) did in
      let first = came.first in
      record {
        rest = lines_of came.rest;
        joined = ap (λ w. w ++ lines_of came.rest) first.texts_are ∙ sym (map-append text_of first.raws (raw_lines came.rest)) ∙ ap (map text_of) (sym first.parts);
      }

  pub all_at_the_end : (source : S) (turns : List (OneTurn S)) (last : OneTurn S) (bytes : List ℕ) → left source ≡ Some bytes → InTurn left faults fresh_reading source (turns ++ last ∷ [])
      → last.result ≡ Ok End → lines_in turns ≡ lines_of bytes
  all_at_the_end source turns last bytes is did ended =
      let apart = last_apart turns last fresh_reading source did in
      let came = all_came turns bytes fresh_reading source (fresh_to_come source bytes is) apart.0 in
      let first = came.first in
      let end : MetEnd left (reader_after fresh_reading turns) last.reader (source_after source turns) last.source = rw ended at apart.1 in
      let none : came.rest ≡ [] = subst NothingLeft came.still end.nothing_to_come in
      first.texts_are ∙ sym (ap (map text_of) (first.parts ∙ ap (λ w. first.raws ++ raw_lines w) none ∙ append-nil first.raws))

  pub too_long : (source : S) (turns : List (OneTurn S)) (last : OneTurn S) (number : ℕ) (bytes : List ℕ) → left source ≡ Some bytes → InTurn left faults fresh_reading source (turns ++ last ∷ [])
      → last.result ≡ Err (LineTooLong number) → length (lines_in turns) < max_count → IsFirstTooLong (raw_lines bytes) number
  too_long source turns last number bytes is did ended few =
      let apart = last_apart turns last fresh_reading source did in
      let came = all_came turns bytes fresh_reading source (fresh_to_come source bytes is) apart.0 in
      let first = came.first in
      let met : MetTooLong left number (reader_after fresh_reading turns) last.reader (source_after source turns) last.source = rw ended at apart.1 in
      let counted = all_counted turns fresh_reading source (omega (arith, few)) apart.0 in
      let starts : StartsTooLong came.rest = subst (λ bytes. IfSome bytes StartsTooLong) came.still met.to_come_too_long in
      let same : length first.raws + 1 ≡ number = omega (arith, met.number_is, counted, few, ap length first.texts_are, length-map first.raws text_of) in
      first_of_number (raw_lines bytes) number
      (ap first_too_long first.parts ∙ later_too_long first.raws (raw_lines came.rest) first.short starts ∙ ap Some same)
