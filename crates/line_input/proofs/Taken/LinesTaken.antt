-- Lines that were taken from what was to come.
use Rattle.std.proofs.Common.{◌≡◌, ℕ, ◌≤◌, List, [], ◌∷◌, ◌++◌, Some, None, length, map, refl, sym, ap, ◌∙◌, arith, append_assoc, inl, inr, ◌+◌, IfSome}
use Rattle.std.specs.Option.{option_map}
use Rattle.std.specs.List.{AllByRecursion}
use Rattle.std.proofs.lemmas.List.{append-nil}
use Rattle.list_facts.proofs.Elements.{all_append}
use Rattle.ygm_io.specs.Content.{ExposedBytes, TakenFrom, NothingLeft}
use Rattle.line_input.specs.Taken.{LinesTaken}
use Rattle.line_input.specs.Limits.{max_line}
use Rattle.line_input.specs.Lines.{LacksLf, ended_lines, first_too_long, lines_of, raw_lines, text_of, StartsTooLong}
use Rattle.line_input.specs.Turns.{CutOff, to_come}
use Rattle.line_input.proofs.Lines.RawLines.{raw_lines-at_lf, raw_lines-at_end, ended_are_lines, ended_lines-append, ended_lines-none}
use Rattle.line_input.proofs.Lines.FirstTooLong.{later_too_long, none_too_long_of}
use Rattle.line_input.proofs.Lines.RawLines.{part_short}
use Rattle.line_input.proofs.Turns.ToCome.{taken_more, taken_none}

pub lines_none : (before now : ExposedBytes) → before ≡ now → LinesTaken [] before now
lines_none before now same = record { bytes = []; taken = same ∙ taken_none now; lines = λ prefix later e. refl }

pub lines_more : (xs ys : List (List ℕ)) (a b c : ExposedBytes) → LinesTaken xs a b → LinesTaken ys b c → LinesTaken (xs ++ ys) a c
lines_more xs ys a b c p q = record {
  bytes = p.bytes ++ q.bytes;
  taken = taken_more p.bytes q.bytes a b c p.taken q.taken;
  lines = λ prefix later e.
      ap raw_lines (append_assoc p.bytes q.bytes prefix)
      ∙ p.lines (q.bytes ++ prefix) later (q.taken ∙ ap (option_map (λ rest. q.bytes ++ rest)) e ∙ ap Some (sym (append_assoc q.bytes prefix later)))
      ∙ ap (λ w. xs ++ w) (q.lines prefix later e)
      ∙ sym (append_assoc xs ys (raw_lines prefix));
}

nothing_of : (prefix later : List ℕ) (now : ExposedBytes) → now ≡ Some (prefix ++ later) → NothingLeft now → prefix ≡ []
nothing_of [] later now e none = refl
nothing_of (byte ∷ prefix) later None e none = absurd cc
nothing_of (byte ∷ prefix) later (Some rest) e none = absurd (let f : rest ≡ byte ∷ (prefix ++ later) = cc in cc)

-- a line that was taken is the first
pub line_cut : (raw : List ℕ) (before now : ExposedBytes) → LacksLf raw → CutOff raw before now → LinesTaken (raw ∷ []) before now
line_cut raw before now h (inl e) = record {
  bytes = raw ++ 10 ∷ [];
  taken = e;
  lines = λ prefix later is. ap raw_lines (append_assoc raw (10 ∷ []) prefix) ∙ raw_lines-at_lf raw prefix h;
}
line_cut raw before now h (inr last) = record {
  bytes = raw;
  taken = last.1;
  lines = λ prefix later is.
      let empty = nothing_of prefix later now is last.2 in
      ap (λ w. raw_lines (raw ++ w)) empty ∙ ap raw_lines (append-nil raw) ∙ raw_lines-at_end raw h last.0 ∙ sym (ap (λ w. raw ∷ raw_lines w) empty);
}

-- all the lines of the bytes
pub whole_lines : (raws : List (List ℕ)) (bytes rest : List ℕ) → LinesTaken raws (Some bytes) (Some rest) → raw_lines bytes ≡ raws ++ raw_lines rest
whole_lines raws bytes rest t =
    let e : Some bytes ≡ Some (t.bytes ++ rest) = t.taken in
    let is : bytes ≡ t.bytes ++ rest = cc in
    ap raw_lines is ∙ t.lines rest [] (ap Some (sym (append-nil rest)))

-- their texts go with them
pub text_cut : (raw : List ℕ) (before now : ExposedBytes) → LinesTaken (raw ∷ []) before now → option_map lines_of before ≡ option_map (λ lines. text_of raw ∷ lines) (option_map lines_of now)
text_cut raw before None t = ap (option_map lines_of) t.taken
text_cut raw before (Some rest) t = ap (option_map lines_of) t.taken ∙ ap (λ raws. Some (map text_of raws)) (t.lines rest [] (ap Some (sym (append-nil rest))))

-- Lines were taken that aren't too long, and a part of the next is held that isn't either. So what was read before the
-- last piece has no bad line, and no more line ends than lines were taken.
pub prefix_read : (raws : List (List ℕ)) (part piece held : List ℕ) (before now : ExposedBytes) → held ≡ part ++ piece → LacksLf part → length part ≤ max_line → AllByRecursion (λ raw. length raw ≤ max_line) raws
    → LinesTaken raws before (to_come held now) → (prefix : List ℕ) × TakenFrom (prefix ++ piece) before now × (first_too_long (raw_lines prefix) ≡ None) × (ended_lines prefix ≤ length raws)
prefix_read raws part piece held before None is h fits short t = ([], t.taken, refl, omega arith)
prefix_read raws part piece held before (Some rest) is h fits short t =
    let prefix = t.bytes ++ part in
    let given : raw_lines t.bytes ≡ raws = ap raw_lines (sym (append-nil t.bytes)) ∙ t.lines [] (held ++ rest) refl ∙ append-nil raws in (
      prefix,
      t.taken
          ∙ ap (λ w. Some (t.bytes ++ (w ++ rest))) is
          ∙ ap Some (sym (append_assoc t.bytes (part ++ piece) rest) ∙ ap (λ w. w ++ rest) (sym (append_assoc t.bytes part piece))),
      ap first_too_long (t.lines part (piece ++ rest) (ap (λ w. Some (w ++ rest)) is ∙ ap Some (append_assoc part piece rest)))
          ∙ none_too_long_of (raws ++ raw_lines part) (all_append (λ raw. length raw ≤ max_line) raws (raw_lines part) short (part_short part h fits)),
      omega (arith, ended_lines-append t.bytes part, ended_lines-none part h, ended_are_lines t.bytes, ap length given),
    )

-- what is to come at first is what remains in the source
pub from_start : (raws : List (List ℕ)) (before now : ExposedBytes) → LinesTaken raws (to_come [] before) now → LinesTaken raws before now
from_start raws None now taken = taken
from_start raws (Some bytes) now taken = taken

-- where nothing more is to come, all lines of the bytes were taken
pub all_given : (raws : List (List ℕ)) (held : List ℕ) (before now : ExposedBytes) → LinesTaken raws before (to_come held now) → held ≡ [] → NothingLeft now → IfSome before (λ bytes. raw_lines bytes ≡ raws)
all_given raws held None now taken none left = tt
all_given raws held (Some bytes) None taken none left = absurd (let e = taken.taken in cc)
all_given raws held (Some bytes) (Some rest) taken none left =
    whole_lines raws bytes (held ++ rest) taken ∙ ap (λ h. raws ++ raw_lines (h ++ rest)) none ∙ ap (λ r. raws ++ raw_lines r) left ∙ append-nil raws

-- the line that is too long is the first of the bytes that is
pub too_long_given : (raws : List (List ℕ)) (held : List ℕ) (before now : ExposedBytes) → AllByRecursion (λ raw. length raw ≤ max_line) raws → LinesTaken raws before (to_come held now) → IfSome (to_come held now) StartsTooLong
    → IfSome before (λ bytes. Some (length raws + 1) ≡ first_too_long (raw_lines bytes))
too_long_given raws held None now short taken long = tt
too_long_given raws held (Some bytes) None short taken long = absurd (let e = taken.taken in cc)
too_long_given raws held (Some bytes) (Some rest) short taken long =
    sym (ap first_too_long (whole_lines raws bytes (held ++ rest) taken) ∙ later_too_long raws (raw_lines (held ++ rest)) short long)
