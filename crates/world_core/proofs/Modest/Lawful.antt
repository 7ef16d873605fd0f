-- The batches that a log took are lawful, and what that says of their letters.
use Rattle.std.proofs.Common.{◌≡◌, ℕ, Bool, true, false, not, ◌||◌, ◌&&◌, nat_eq, ne_eqb, Some, List, [], ◌∷◌, ◌++◌, ◌⊎◌, length, slice_get, refl, sym, ◌∙◌, subst, inl, inr, arith}
use Rattle.std.specs.List.{AllByRecursion, list_any}
use Rattle.std.proofs.lemmas.Bool.{not-false}
use Rattle.std.proofs.lemmas.Option.{get_or_from_slice_get, slice_get_within}
use Rattle.list_facts.proofs.Elements.{all_append, all_at, all_prefix, all_weaker}
use Rattle.list_facts.proofs.Tests.{and_false_second, or_false_first, or_false_second}
use Rattle.msg_codec.specs.Control.{is_control}
use Rattle.msg_codec.specs.declared.letter.Letter.{Letter}
use Rattle.world_core.specs.declared.entry.Entry.{Entry}
use Rattle.world_core.specs.declared.entry.Entry.TheVariants.{Put, Took}
use Rattle.world_core.specs.declared.why.Why.{Why}
use Rattle.world_core.specs.declared.why.Why.TheVariants.{NoSuchRank, BadTag, MixedControl, WrongControl}
use Rattle.world_core.specs.ControlRules.{wrong_control}
use Rattle.world_core.specs.Local.{Local, is_rank, local_rank}
use Rattle.world_core.specs.Log.{batches_put, batches_taken, letters_taken}
use Rattle.world_core.specs.Modest.{IsLawful, lasting_rules}
use Rattle.world_core.specs.Pairs.{is_data}
use Rattle.world_core.specs.Rules.{Deed, rule, bad_tag, mixed_control, no_such_rank, some_letter}
use Rattle.world_core.specs.Rules.Deed.{Puts}
use Rattle.world_core.specs.World.{Logs, local, log_of}
use Rattle.world_core.proofs.Deeds.Lasting.{IsLawfulPut}
use Rattle.world_core.proofs.Deeds.Sent.{either_tag}
use Rattle.world_core.proofs.Deeds.SomeLetter.{letters_alike}
use Rattle.world_core.proofs.Deeds.Unbroken.{IsIn, not_broken, rows}
use Rattle.world_core.proofs.Log.ByLink.{each_entry}
use Rattle.world_core.proofs.Sound.OnPath.{Base, alone}

-- ---- one batch

-- the rank that a batch came from, whatever its log is
abbrev pub sender : Local → ℕ → Local
sender me from = local_rank me.layout me.scheme from []

pub record IsLawfulBatch (me : Local) (from : ℕ) (letters : List Letter) : Type 0 where
  pub ranks : no_such_rank (sender me from) (Puts me.here letters) ≡ false
  pub tags : list_any (bad_tag (sender me from) me.here) letters ≡ false
  pub unmixed : mixed_control (sender me from) (Puts me.here letters) ≡ false
  pub control : list_any (wrong_control (sender me from) me.here) letters ≡ false

pub lawful_batch : (me : Local) (from : ℕ) (letters : List Letter) → IsLawful me (Took from letters) → IsLawfulBatch me from letters
lawful_batch me from letters h =
    let ok : (why : Why) (breaks : Local → Deed → Bool) → IsIn (rule why breaks) lasting_rules → breaks (sender me from) (Puts me.here letters) ≡ false =
    λ why breaks at. not_broken (sender me from) (Puts me.here letters) (rule why breaks) lasting_rules at h in
    record {
      ranks = ok NoSuchRank no_such_rank (search rows depth 20);
      tags = sym (letters_alike bad_tag (bad_tag (sender me from) me.here) (sender me from) me.here (λ before l. refl) [] letters) ∙ ok BadTag (some_letter bad_tag) (search rows depth 20);
      unmixed = ok MixedControl mixed_control (search rows depth 20);
      control = sym (letters_alike wrong_control (wrong_control (sender me from) me.here) (sender me from) me.here (λ before l. refl) [] letters) ∙ ok WrongControl (some_letter wrong_control) (search rows depth 20);
    }

-- ---- its letters

pub record IsLawfulLetter (me : Local) (l : Letter) : Type 0 where
  pub destination : is_rank me.layout l.to ≡ true
  pub sender : is_rank me.layout l.from ≡ true
  pub tag : (is_data l || is_control l) ≡ true

each_letter : (me : Local) (letters : List Letter) → list_any (λ l. not (is_rank me.layout l.to) || not (is_rank me.layout l.from)) letters ≡ false →
    list_any (λ l. not (is_data l) && not (is_control l)) letters ≡ false → AllByRecursion (IsLawfulLetter me) letters
each_letter me [] ranks tags = tt
each_letter me (l ∷ letters) ranks tags =
    let one : IsLawfulLetter me l = record {
      destination = not-false _ (or_false_first _ _ (or_false_first _ _ ranks));
      sender = not-false _ (or_false_second _ _ (or_false_first _ _ ranks));
      tag = either_tag (is_data l) (is_control l) (or_false_first _ _ tags);
    } in
    (one, each_letter me letters (or_false_second _ _ ranks) (or_false_second _ _ tags))

pub batch_letters : (me : Local) (from : ℕ) (letters : List Letter) → IsLawfulBatch me from letters → AllByRecursion (IsLawfulLetter me) letters
batch_letters me from letters h = each_letter me letters (or_false_second _ _ h.ranks) h.tags

letters_from : (me : Local) (log : List Entry) → AllByRecursion (IsLawful me) log → AllByRecursion (IsLawfulLetter me) (letters_taken log)
letters_from me [] h = tt
letters_from me (Put to letters ∷ log) h = letters_from me log h.1
letters_from me (Took from letters ∷ log) h =
    all_append (IsLawfulLetter me) letters (letters_taken log) (batch_letters me from letters (lawful_batch me from letters h.0)) (letters_from me log h.1)

pub lawful_letters : (me : Local) → AllByRecursion (IsLawful me) me.log → AllByRecursion (IsLawfulLetter me) (letters_taken me.log)
lawful_letters me h = letters_from me me.log h

-- ---- data letters or one control letter

pub record IsOneControl (letters : List Letter) : Type 0 where
  pub letter : Letter
  pub alone : letters ≡ letter ∷ []
  pub control : is_control letter ≡ true

all_data : (letters : List Letter) → list_any (λ l. not (is_data l) && not (is_control l)) letters ≡ false → list_any is_control letters ≡ false →
    AllByRecursion (λ l. is_data l ≡ true) letters
all_data [] tags none = tt
all_data (l ∷ letters) tags none =
    (by_tag (is_data l) (is_control l) (or_false_first _ _ tags) (or_false_first _ _ none), all_data letters (or_false_second _ _ tags) (or_false_second _ _ none))
  where
    by_tag : (data_tag control : Bool) → (not data_tag && not control) ≡ false → control ≡ false → data_tag ≡ true
    by_tag true control h none = refl
    by_tag false false h none = absurd cc
    by_tag false true h none = absurd cc

one_letter : (letters : List Letter) → list_any is_control letters ≡ true → not (nat_eq (length letters) 1) ≡ false → IsOneControl letters
one_letter [] some one = absurd cc
one_letter (l ∷ []) some one = record { letter = l; alone = refl; control = first_of (is_control l) some }
  where
    first_of : (b : Bool) → (b || false) ≡ true → b ≡ true
    first_of true h = refl
    first_of false h = absurd cc
one_letter (l ∷ other ∷ letters) some one =
    let more : nat_eq (length (l ∷ other ∷ letters)) 1 ≡ false = ne_eqb _ _ (λ e. absurd (omega (arith, e))) in
    absurd cc

-- so it is with any batch whose letters have tags of these kinds, and in which no control letter is mixed with others
pub data_or_control : (letters : List Letter) → list_any (λ l. not (is_data l) && not (is_control l)) letters ≡ false →
    (list_any is_control letters && not (nat_eq (length letters) 1)) ≡ false →
    AllByRecursion (λ l. is_data l ≡ true) letters ⊎ IsOneControl letters
data_or_control letters tags unmixed = by_kind (list_any is_control letters) refl
  where
    by_kind : (b : Bool) → list_any is_control letters ≡ b → AllByRecursion (λ l. is_data l ≡ true) letters ⊎ IsOneControl letters
    by_kind true some = inr (one_letter letters some (and_false_second _ _ some unmixed))
    by_kind false none = inl (all_data letters tags none)

pub batch_kind : (me : Local) (from : ℕ) (letters : List Letter) → IsLawfulBatch me from letters → AllByRecursion (λ l. is_data l ≡ true) letters ⊎ IsOneControl letters
batch_kind me from letters h = data_or_control letters h.tags h.unmixed

-- ---- a log that gains an entry

-- what is lawful doesn't depend on the log
pub lawful_elsewhere : (me : Local) (log : List Entry) (entry : Entry) → IsLawful me entry → IsLawful (record me { log = log }) entry
lawful_elsewhere me log (Put to letters) h = tt
lawful_elsewhere me log (Took from letters) h = h

pub lawful_more : (me : Local) (entry : Entry) → AllByRecursion (IsLawful me) me.log → IsLawful me entry →
    AllByRecursion (IsLawful (record me { log = me.log ++ entry ∷ [] })) (me.log ++ entry ∷ [])
lawful_more me entry all next =
    all_weaker (IsLawful me) (IsLawful (record me { log = me.log ++ entry ∷ [] })) _ (lawful_elsewhere me (me.log ++ entry ∷ [])) (all_append (IsLawful me) me.log (entry ∷ []) all (next, tt))

-- ---- a world

module _ (world : Logs) (base : Base world) where
  -- the next batch of a link is lawful
  pub next_is_lawful : (from to : ℕ) (letters : List Letter) →
      slice_get (batches_put to (log_of world from)) (length (batches_taken from (log_of world to))) ≡ Some letters → IsLawful (local world to) (Took from letters)
  next_is_lawful from to letters next =
      let P : List Letter → Type 0 = IsLawfulPut world.layout world.scheme from to in
      let batches : List (List Letter) = batches_put to (log_of world from) in
      let at : ℕ = length (batches_taken from (log_of world to)) in
      subst P (get_or_from_slice_get batches at letters [] next) (all_at P batches ((alone world base from).lawful to) at [] (slice_get_within batches at letters next))

  -- and each that was taken
  pub all_lawful : (here : ℕ) → AllByRecursion (IsLawful (local world here)) (log_of world here)
  all_lawful here = each_entry (λ from. IsLawfulPut world.layout world.scheme from here) (IsLawful (local world here))
      (λ to batch. tt) (λ from batch h. h) (log_of world here)
      (λ from. all_prefix _ (base.agree from here) ((alone world base from).lawful here))
