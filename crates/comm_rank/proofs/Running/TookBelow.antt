-- Takes from one rank after another.
use Rattle.std.proofs.Common.{◌≡◌, ◌≢◌, ℕ, ◌+◌, ◌<◌, ◌≤◌, List, [], ◌∷◌, ◌++◌, length, refl, sym, ap, ◌∙◌, subst, inl, inr, arith, append-nil, append_assoc, length-append}
use Rattle.std.specs.List.{AllByRecursion, AllPairs, filter}
use Rattle.msg_codec.specs.Control.{is_control}
use Rattle.std.proofs.lemmas.Bool.{cases_eq}
use Rattle.std.proofs.lemmas.Grind.{flat_map-append}
use Rattle.std.proofs.lemmas.List.Elements.{filter-append}
use Rattle.std.proofs.lemmas.List.Quantifiers.{all_pairs_push}
use Rattle.msg_codec.specs.declared.letter.Letter.{Letter}
use Rattle.world_core.specs.declared.entry.Entry.{Entry}
use Rattle.world_core.specs.Log.{IsTake, batches_taken, letters_taken, letters_taken_by}
use Rattle.world_core.specs.Pairs.{for_rank, is_of_pair, of_pair}
use Rattle.world_core.specs.Post.{PostState}
use Rattle.world_core.specs.Rising.{Rose}
use Rattle.list_facts.proofs.Elements.{all_append, all_weaker, all_at}
use Rattle.comm_rank.specs.Fold.{Applies}
use Rattle.comm_rank.specs.Rank.{Rank, IsSameRank, handed, ran_at, sent_to}
use Rattle.comm_rank.specs.declared.fault.CommFault.{CommFault}
use Rattle.comm_rank.specs.Running.{CutFrom, NotLookedAt, TookBelow, TookFrom, WasCutFrom}
use Rattle.comm_rank.specs.Turns.{Advanced, CutOff, FullAtFirst, LookedAt, WasCut, other_end}
use Rattle.comm_rank.proofs.Running.Passed.{folded_on, handed_on}
use Rattle.comm_rank.proofs.Running.Stuck.{begun_same, full_later}
use Rattle.comm_rank.proofs.Told.Heard.{heard_none, heard_then, lacks_then}
use Rattle.comm_rank.proofs.Turns.Faults.{cause_on, if_full}

-- ---- in the order of ranks

abbrev Before : Entry → Entry → Type 0
Before one later = other_end one < other_end later

in_order_more : (from : ℕ) (xs ys : List Entry) → AllPairs Before xs → AllByRecursion (λ entry. other_end entry < from) xs → AllByRecursion (λ entry. other_end entry ≡ from) ys → length ys ≤ 1 → AllPairs Before (xs ++ ys)
in_order_more from xs [] h below alone one = subst (AllPairs Before) (sym (append-nil xs)) h
in_order_more from xs (y ∷ []) h below alone one = all_pairs_push Before xs y h (λ k d within. omega (arith, all_at (λ entry. other_end entry < from) xs below k d within, alone.0))
in_order_more from xs (y ∷ z ∷ ys) h below alone one = absurd (omega (arith, one))

below_more : (from : ℕ) (xs ys : List Entry) → AllByRecursion (λ entry. other_end entry < from) xs → AllByRecursion (λ entry. other_end entry ≡ from) ys → AllByRecursion (λ entry. other_end entry < from + 1) (xs ++ ys)
below_more from xs ys below alone =
    all_append _ xs ys (all_weaker _ _ xs (λ entry h. omega (arith, h)) below) (all_weaker _ _ ys (λ entry h. omega (arith, h)) alone)

pub taken_append : (here : ℕ) (xs ys : List Entry) → for_rank here (letters_taken (xs ++ ys)) ≡ for_rank here (letters_taken xs) ++ for_rank here (letters_taken ys)
taken_append here xs ys = ap (for_rank here) (flat_map-append letters_taken_by xs ys) ∙ filter-append _ (letters_taken xs) (letters_taken ys)

-- ---- one rank after another

module _ {C : Type 0} (apply : Applies C) (old mid new : Rank C) (before between after : List Entry) (same : IsSameRank old mid) where
  module _ (run more : List Letter) (first : Advanced apply old mid before between run) where
    handed_both : handed apply old (run ++ more) ≡ handed apply old run ++ handed apply mid more
    handed_both = handed_on apply old mid new same.here same.layout run first.contents more

    sent_both : (given : List Letter) → ((to : ℕ) → sent_to new after to ≡ sent_to mid between to ++ of_pair mid.here to (handed apply mid more ++ given)) →
        (to : ℕ) → sent_to new after to ≡ sent_to old before to ++ of_pair old.here to (handed apply old (run ++ more) ++ given)
    sent_both given second to =
        let all : handed apply old (run ++ more) ++ given ≡ handed apply old run ++ (handed apply mid more ++ given) =
        ap (λ xs. xs ++ given) handed_both ∙ append_assoc (handed apply old run) (handed apply mid more) given in
        second to ∙ ap (λ h. sent_to mid between to ++ of_pair h to (handed apply mid more ++ given)) same.here
        ∙ ap (λ xs. xs ++ of_pair old.here to (handed apply mid more ++ given)) (first.sent to)
        ∙ append_assoc (sent_to old before to) (of_pair old.here to (handed apply old run)) (of_pair old.here to (handed apply mid more ++ given))
        ∙ ap (λ xs. sent_to old before to ++ xs) (sym (filter-append (is_of_pair old.here to) (handed apply old run) (handed apply mid more ++ given)) ∙ ap (of_pair old.here to) (sym all))

    pub advanced_more : Advanced apply mid new between after more → Advanced apply old new before after (run ++ more)
    advanced_more second = record {
      ran = second.ran ∙ ap (λ xs. xs ++ more) first.ran ∙ append_assoc (ran_at old before) run more;
      contents = second.contents ∙ folded_on apply old mid new same.here same.layout run first.contents more;
      sent = λ to.
          sent_both [] (λ t. second.sent t ∙ ap (λ xs. sent_to mid between t ++ of_pair mid.here t xs) (sym (append-nil (handed apply mid more)))) to
          ∙ ap (λ xs. sent_to old before to ++ of_pair old.here to xs) (append-nil (handed apply old (run ++ more)));
      run_count = omega (arith, first.run_count, second.run_count, length-append run more);
      sent_count = omega (arith, first.sent_count, second.sent_count, ap length handed_both, length-append (handed apply old run) (handed apply mid more));
      told = heard_then old.heard mid.heard new.heard run more first.told second.told;
    }

  module _ (from took : ℕ) (first : TookBelow from apply old mid before between took) where
    taken : List Entry
    taken = first.all.taken

    controls_both : (later : List Entry) → new.controls ≡ mid.controls ++ filter is_control (letters_taken later) →
        new.controls ≡ old.controls ++ filter is_control (letters_taken (first.all.taken ++ later))
    controls_both later second =
        let both : filter is_control (letters_taken (first.all.taken ++ later)) ≡ filter is_control (letters_taken first.all.taken) ++ filter is_control (letters_taken later) =
        ap (filter is_control) (flat_map-append letters_taken_by first.all.taken later) ∙ filter-append is_control (letters_taken first.all.taken) (letters_taken later) in
        second ∙ ap (λ xs. xs ++ filter is_control (letters_taken later)) first.all.controls
        ∙ append_assoc old.controls (filter is_control (letters_taken first.all.taken)) (filter is_control (letters_taken later))
        ∙ ap (λ xs. old.controls ++ xs) (sym both)

    pub joined : (more : ℕ) → TookFrom from apply mid new between after more → TookBelow (from + 1) apply old new before after (took + more)
    joined more second =
        let later = second.all.taken in
        let run = for_rank old.here (letters_taken first.all.taken) in
        let there : for_rank mid.here (letters_taken later) ≡ for_rank old.here (letters_taken later) = ap (λ h. for_rank h (letters_taken later)) same.here in
        let size : length later ≤ 1 = omega (arith, second.one, second.all.took_count) in
        record {
          all = record {
            taken = first.all.taken ++ later;
            gained = record {
              log = second.all.gained.log ∙ ap (λ xs. xs ++ later) first.all.gained.log ∙ append_assoc before first.all.taken later;
              takes = all_append IsTake first.all.taken later first.all.gained.takes second.all.gained.takes;
              in_order = in_order_more from first.all.taken later first.all.gained.in_order first.below second.alone size;
            };
            advanced = subst (Advanced apply old new before after) (ap (λ xs. run ++ xs) there ∙ sym (taken_append old.here first.all.taken later))
                (advanced_more run (for_rank mid.here (letters_taken later)) first.all.advanced second.all.advanced);
            nothing_waits = second.all.nothing_waits;
            controls = controls_both later second.all.controls;
            took_count = omega (arith, first.all.took_count, second.all.took_count, length-append first.all.taken later);
            same_open = λ none next. second.all.same_open (omega (arith, none)) next ∙ first.all.same_open (omega (arith, none)) next;
          };
          below = below_more from first.all.taken later first.below second.alone;
        }

    cut_on : CutFrom from apply mid new between after → CutOff apply old new before after
    cut_on second =
        let c = second.cut in
        let run = for_rank old.here (letters_taken first.all.taken) in
        let n = letters_taken c.taken in
        record {
          taken = first.all.taken ++ c.taken;
          placed = c.placed;
          run = run ++ c.run;
          given = c.given;
          gained = record {
            log = c.gained.log ∙ ap (λ xs. xs ++ c.placed) (ap (λ xs. xs ++ c.taken) first.all.gained.log ∙ append_assoc before first.all.taken c.taken);
            takes = all_append IsTake first.all.taken c.taken first.all.gained.takes c.gained.takes;
            in_order = in_order_more from first.all.taken c.taken first.all.gained.in_order first.below second.alone second.one;
            puts = c.gained.puts;
            data_alone = c.gained.data_alone;
          };
          arrived =
              taken_append old.here first.all.taken c.taken
              ∙ ap (λ xs. run ++ xs) (ap (λ h. for_rank h n) (sym same.here) ∙ c.arrived ∙ ap (λ h. c.run ++ for_rank h new.waiting) same.here)
              ∙ sym (append_assoc run c.run (for_rank old.here new.waiting));
          ran = c.ran ∙ ap (λ xs. xs ++ c.run) first.all.advanced.ran ∙ append_assoc (ran_at old before) run c.run;
          controls = controls_both c.taken c.controls;
          begun = begun_same apply old mid new same.here same.layout new.waiting c.given _ _ new.contents
              (folded_on apply old mid new same.here same.layout run first.all.advanced.contents c.run) c.begun;
          sent = sent_both run c.run first.all.advanced c.given c.sent;
          run_count = omega (arith, first.all.advanced.run_count, c.run_count, length-append run c.run);
          sent_count =
              omega (arith, first.all.advanced.sent_count, c.sent_count, ap length (handed_both run c.run first.all.advanced), length-append (handed apply old run) (handed apply mid c.run));
          told = lacks_then old.heard mid.heard new.heard run c.run first.all.advanced.told c.told;
        }

    full_joined : FullAtFirst apply mid new between after → FullAtFirst apply old new before after
    full_joined second =
        let ahead = first.all.advanced in
        let run = for_rank old.here (letters_taken first.all.taken) in
        record {
          run = run ++ second.run;
          ran = second.ran ∙ ap (λ xs. xs ++ second.run) ahead.ran ∙ append_assoc (ran_at old before) run second.run;
          full = full_later apply old mid new same.here same.layout run second.run same.most ahead.contents ahead.sent_count ahead.told second.full;
        }

    pub cut_later : (fault : CommFault) → WasCutFrom from apply mid new between after fault → WasCut apply old new before after fault
    cut_later fault second = record {
      cut_off = cut_on second.cut_from;
      full_at_first = if_full fault (λ _ full. full_joined full) second.full_at_first;
      cause = cause_on apply old mid new same.most fault second.cause;
    }

pub advanced_none : {C : Type 0} (apply : Applies C) (me : Rank C) (log : List Entry) → Advanced apply me me log log []
advanced_none apply me log = record { ran = sym (append-nil _); contents = refl; sent = λ to. sym (append-nil _); run_count = omega arith; sent_count = omega arith; told = heard_none me.heard }

pub took_nothing : {C : Type 0} (apply : Applies C) (me : Rank C) (log : List Entry) (bound : ℕ) → me.waiting ≡ [] → TookBelow bound apply me me log log 0
took_nothing apply me log bound none = record {
  all = record {
    taken = [];
    gained = record { log = sym (append-nil log); takes = tt; in_order = λ i j d less within. absurd (omega (arith, less, within)) };
    advanced = advanced_none apply me log;
    nothing_waits = none;
    controls = sym (append-nil me.controls);
    took_count = refl;
    same_open = λ none next. refl;
  };
  below = tt;
}

-- ---- at the post

-- what comes later takes nothing from the rank and counts no miss there, as puts do
pub looked_unchanged : (here from : ℕ) (a b c : PostState) → LookedAt here from a b → batches_taken from (c.log here) ≡ batches_taken from (b.log here) → c.misses from ≡ b.misses from → LookedAt here from a c
looked_unchanged here from a b c looked taken misses = elim looked [
  | inl took ↦ inl (ap length taken ∙ took)
  | inr missed ↦ inr (subst (Rose (a.misses from)) (sym misses) missed)
]

pub looked_later : (here from : ℕ) (a b c : PostState) → LookedAt here from a b → NotLookedAt here from b c → LookedAt here from a c
looked_later here from a b c looked not = looked_unchanged here from a b c looked not.taken not.misses

pub looked_first : (here from : ℕ) (a b c : PostState) → NotLookedAt here from a b → LookedAt here from b c → LookedAt here from a c
looked_first here from a b c not looked = elim looked [
  | inl took ↦ inl (took ∙ ap (λ xs. length xs + 1) not.taken)
  | inr missed ↦ inr (subst (λ m. Rose m (c.misses from)) not.misses missed)
]

pub not_looked_more : (here from : ℕ) (a b c : PostState) → NotLookedAt here from a b → NotLookedAt here from b c → NotLookedAt here from a c
not_looked_more here from a b c first second = record { taken = second.taken ∙ first.taken; misses = second.misses ∙ first.misses }

pub looked_below : (here there from : ℕ) (a b c : PostState) → there ≡ here → ((k : ℕ) → k < from → LookedAt here k a b) → ((k : ℕ) → from ≤ k → NotLookedAt here k a b) →
    LookedAt there from b c → ((k : ℕ) → k ≢ from → NotLookedAt there k b c) → (k : ℕ) → k < from + 1 → LookedAt here k a c
looked_below here there from a b c e looked not now others k within = elim (cases_eq k from) [
  | inl f ↦ subst (λ m. LookedAt here m a c) (sym f) (looked_first here from a b c (not from (omega arith)) (subst (λ h. LookedAt h from b c) e now))
  | inr ne ↦ looked_later here k a b c (looked k (omega (arith, within))) (subst (λ h. NotLookedAt h k b c) e (others k ne))
]

pub not_looked_above : (here there from : ℕ) (a b c : PostState) → there ≡ here → ((k : ℕ) → from ≤ k → NotLookedAt here k a b) →
    ((k : ℕ) → k ≢ from → NotLookedAt there k b c) → (k : ℕ) → from + 1 ≤ k → NotLookedAt here k a c
not_looked_above here there from a b c e not others k past =
    not_looked_more here k a b c (not k (omega (arith, past))) (subst (λ h. NotLookedAt h k b c) e (others k (λ f. absurd (omega (arith, past)))))
