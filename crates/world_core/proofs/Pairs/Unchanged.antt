-- What a log put and took of a pair, where it sent, or ran, no letter more.
use Rattle.std.proofs.Common.{◌≡◌, ℕ, ◌≤◌, ◌&&◌, Bool, true, false, nat_eq, List, [], ◌++◌, length, sym, ap, ◌∙◌, arith, append-nil}
use Rattle.std.proofs.lemmas.Grind.{flat_map-append}
use Rattle.std.proofs.lemmas.List.{nil_from_length}
use Rattle.std.proofs.lemmas.List.Elements.{filter-append}
use Rattle.list_facts.specs.Prefix.{IsPrefix}
use Rattle.list_facts.proofs.Elements.{every}
use Rattle.list_facts.proofs.Filters.{fewer}
use Rattle.msg_codec.specs.declared.letter.Letter.{Letter}
use Rattle.world_core.specs.declared.entry.Entry.{Entry}
use Rattle.world_core.specs.Log.{letters_put, letters_put_by, letters_taken, letters_taken_by}
use Rattle.world_core.specs.Pairs.{is_data, is_of_pair, of_pair, own_count, pair_put, pair_taken, run_count, run_number}
use Rattle.world_core.proofs.Pairs.Numbers.{own_count-append, pair_within_sent, run_count-append}

pub pair_put-append : (s d : ℕ) (xs ys : List Entry) → pair_put s d (xs ++ ys) ≡ pair_put s d xs ++ pair_put s d ys
pair_put-append s d xs ys = ap (of_pair s d) (flat_map-append letters_put_by xs ys) ∙ filter-append _ (letters_put xs) (letters_put ys)

pub pair_taken-append : (s d : ℕ) (xs ys : List Entry) → pair_taken s d (xs ++ ys) ≡ pair_taken s d xs ++ pair_taken s d ys
pair_taken-append s d xs ys = ap (of_pair s d) (flat_map-append letters_taken_by xs ys) ∙ filter-append _ (letters_taken xs) (letters_taken ys)

-- ---- no more letters of a pair are in a list than run at its destination

without_sender : (a b c : Bool) → ((a && b) && c) ≡ true → (a && c) ≡ true
without_sender true true c h = h
without_sender true false c h = absurd cc
without_sender false b c h = absurd cc

pub pair_within_run : (s d : ℕ) (letters : List Letter) → length (of_pair s d letters) ≤ run_number d letters
unfolding run_number
pair_within_run s d letters = fewer (is_of_pair s d) (λ l. is_data l && nat_eq l.to d) letters
    (every _ _ (λ l h. without_sender (is_data l) (nat_eq l.from s) (nat_eq l.to d) h))

-- ---- a log that went on

pub put_unchanged : (s d : ℕ) {xs ys : List Entry} → IsPrefix xs ys → own_count s ys ≡ own_count s xs → pair_put s d xs ≡ pair_put s d ys
put_unchanged s d {xs} {ys} p same =
    let none : pair_put s d p.rest ≡ [] =
    nil_from_length _ (omega (
      arith,
      same,
      ap (own_count s) p.joined,
      own_count-append s xs p.rest,
      pair_within_sent s d (letters_put p.rest),
    )) in
    sym (append-nil (pair_put s d xs)) ∙ ap (λ zs. pair_put s d xs ++ zs) (sym none)
    ∙ sym (pair_put-append s d xs p.rest) ∙ ap (pair_put s d) p.joined

pub taken_unchanged : (s d : ℕ) {xs ys : List Entry} → IsPrefix xs ys → run_count d ys ≡ run_count d xs → pair_taken s d xs ≡ pair_taken s d ys
taken_unchanged s d {xs} {ys} p same =
    let none : pair_taken s d p.rest ≡ [] =
    nil_from_length _ (omega (
      arith,
      same,
      ap (run_count d) p.joined,
      run_count-append d xs p.rest,
      pair_within_run s d (letters_taken p.rest),
    )) in
    sym (append-nil (pair_taken s d xs)) ∙ ap (λ zs. pair_taken s d xs ++ zs) (sym none)
    ∙ sym (pair_taken-append s d xs p.rest) ∙ ap (pair_taken s d) p.joined
