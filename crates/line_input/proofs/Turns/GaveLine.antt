-- A line was returned: one that was held whole, one that a read made whole, or the last.
use Rattle.std.proofs.Common.{◌≡◌, ◌≤◌, ℕ, List, [], ◌∷◌, ◌++◌, length, Some, None, Ok, refl, ap, subst, ◌∙◌, sym, inl, inr}
use Rattle.std.proofs.lemmas.List.{append_assoc}
use Rattle.std.specs.Option.{option_map}
use Rattle.ygm_io.specs.Content.{ExposedBytes, TakenFrom, NothingLeft}
use Rattle.line_input.specs.Lines.{text_of}
use Rattle.line_input.specs.Held.{StartsWithLine, AreLastLine}
use Rattle.rising_counts.specs.Rising.{next_count}
use Rattle.line_input.specs.Limits.{max_piece}
use Rattle.line_input.specs.Reading.{Reading}
use Rattle.line_input.specs.Turns.{to_come, lines_to_come, FirstTaken, RawLineTaken, Turned}
use Rattle.line_input.specs.declared.line_reader.Got.{Got}
use Rattle.line_input.specs.declared.line_reader.Got.TheVariants.{Line}
use Rattle.line_input.proofs.Taken.LinesTaken.{line_cut, text_cut}
use Rattle.line_input.proofs.Turns.ToCome.{all_is_taken, left_unchanged, lines_from_to_come, nothing_to_come, to_come-read}

cut_at_lf : (bytes text held : List ℕ) (left : ExposedBytes) (line : StartsWithLine bytes text held) → TakenFrom (line.raw ++ 10 ∷ []) (to_come bytes left) (to_come held left)
cut_at_lf bytes text held None line = refl
cut_at_lf bytes text held (Some rest) line =
    ap (λ w. Some (w ++ rest)) line.whole
    ∙ ap Some (append_assoc line.raw (10 ∷ held) rest ∙ sym (append_assoc line.raw (10 ∷ []) (held ++ rest)))

-- a line that was held whole
pub line_taken : (bytes text held : List ℕ) (left : ExposedBytes) → StartsWithLine bytes text held → RawLineTaken text (to_come bytes left) (to_come held left)
line_taken bytes text held left line = record {
  raw = line.raw;
  text_is = line.text_is;
  short = line.short;
  partial = line.partial;
  cut = inl (cut_at_lf bytes text held left line);
}

-- a line that a read made whole
pub line_read : (before_held piece text held : List ℕ) (before now : ExposedBytes) → TakenFrom piece before now → StartsWithLine (before_held ++ piece) text held → RawLineTaken text (to_come before_held before) (to_come held now)
line_read before_held piece text held before now e line =
    subst (λ gone. RawLineTaken text gone (to_come held now)) (to_come-read before_held piece before now e) (line_taken (before_held ++ piece) text held now line)

-- the last line, which no LF ends
pub last_line_taken : (bytes text : List ℕ) (before now : ExposedBytes) → AreLastLine bytes text → TakenFrom [] before now → NothingLeft before → RawLineTaken text (to_come bytes before) (to_come [] now)
last_line_taken bytes text before now line e none = record {
  raw = bytes;
  text_is = line.text_is;
  short = line.short;
  partial = line.partial;
  cut =
      let same = left_unchanged before now e in
      let left = subst NothingLeft same none in
      inr (line.some, subst (λ gone. TakenFrom bytes (to_come bytes gone) (to_come [] now)) (sym same) (all_is_taken bytes now left), nothing_to_come now left);
}

-- the texts go with the raw lines
pub texts_taken : (text bytes held : List ℕ) (before now : ExposedBytes) → RawLineTaken text (to_come bytes before) (to_come held now) → FirstTaken text (lines_to_come bytes before) (lines_to_come held now)
texts_taken text bytes held before now line =
    lines_from_to_come bytes before
    ∙ text_cut line.raw (to_come bytes before) (to_come held now) (line_cut line.raw (to_come bytes before) (to_come held now) line.partial line.cut)
    ∙ ap (option_map (λ lines. text_of line.raw ∷ lines)) (sym (lines_from_to_come held now))
    ∙ ap (λ t. option_map (λ lines. t ∷ lines) (lines_to_come held now)) (sym line.text_is)

-- the line was returned
pub gave_line : {S : Type 0} (left : S → ExposedBytes) (faults : S → ℕ) (got : Got) (text bytes held : List ℕ) (old new : Reading) (before now : S) → got ≡ Line text → old.held ≡ bytes → new.held ≡ held
    → new.given ≡ next_count old.given → length held ≤ max_piece → RawLineTaken text (to_come bytes (left before)) (to_come held (left now)) → Turned left faults (Ok got) old new before now
gave_line left faults got text bytes held old new before now is was held_is counted bound taken =
    let raw : RawLineTaken text (to_come old.held (left before)) (to_come new.held (left now)) = rw (was, held_is) taken in
    subst (λ g. Turned left faults (Ok g) old new before now) (sym is)
    (record {
      line = texts_taken text old.held new.held (left before) (left now) raw;
      raw_line = raw;
      counted = counted;
      at_most_a_piece = rw held_is bound;
    })
