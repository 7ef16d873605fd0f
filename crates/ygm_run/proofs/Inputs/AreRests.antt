-- What remains of the files, as sources are read.
use Rattle.std.proofs.Common.{◌≡◌, ℕ, ◌∙◌, List, Some, length, map, set, get_or, sym, ap, subst, inl, inr, slice_get}
use Rattle.std.specs.Option.{option_map}
use Rattle.std.proofs.lemmas.Bool.{cases_eq}
use Rattle.std.proofs.lemmas.Option.{slice_get-map}
use Rattle.list_facts.proofs.Fields.{field_at}
use Rattle.list_facts.proofs.Places.{item_kept, item_placed, item_there}
use Rattle.ygm_io.specs.Content.{ExposedBytes}
use Rattle.ygm_run.specs.Inputs.{AreRests, IsRest}
use Rattle.ygm_run.proofs.Inputs.IsRest.{rest_more, rest_none}

-- at the start all of a source's content remains
pub start_at : {X : Type 0} (left : X → ExposedBytes) (start : List X) (r : ℕ) (content : ExposedBytes) (source : X) → slice_get (map left start) r ≡ Some content → slice_get start r ≡ Some source → IsRest content (left source)
start_at left start r content source is at = subst (λ t. IsRest t (left source)) (field_at left start r source content at is) (rest_none (left source))

-- one source more was read
pub rests_more : {S : Type 0} (left : S → ExposedBytes) (start sources : List S) (k : ℕ) (item now : S) → AreRests left (map left start) sources → slice_get start k ≡ Some item → IsRest (left item) (left now) → AreRests left (map left start) (set sources k now)
rests_more left start sources k item now rests at rest r content source is found = elim (cases_eq r k) [
  | inl e ↦
      let same = item_placed sources k r source now e found in
      let first = field_at left start k item content at (subst (λ i. slice_get (map left start) i ≡ Some content) e is) in
      subst (λ t. IsRest t (left source)) first (subst (λ (x : _). IsRest (left item) (left x)) same rest)
  | inr ne ↦ rests r content source is (sym (item_kept sources k r now ne) ∙ found)
]

-- at the start all of each source's content remains
pub rests_none : {S : Type 0} (left : S → ExposedBytes) (sources : List S) → AreRests left (map left sources) sources
rests_none left sources r content source is at = start_at left sources r content source is at

-- what remains of sources that were read again
pub rests_then : {S : Type 0} (left : S → ExposedBytes) (contents : List ExposedBytes) (before after : List S) → length after ≡ length before →
    AreRests left contents before → AreRests left (map left before) after → AreRests left contents after
rests_then left contents before after all first then r content source is found =
    let one = get_or before r source in
    let there : slice_get before r ≡ Some one = item_there after before r source found (sym all) in
    rest_more content (left one) (left source) (first r content one is there)
    (then r (left one) source (slice_get-map left before r ∙ ap (option_map left) there) found)
