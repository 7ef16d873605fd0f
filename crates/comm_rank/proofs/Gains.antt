-- What is held gains letters, one after another.
use Rattle.std.proofs.Common.{◌≡◌, ℕ, ◌+◌, Some, List, [], ◌∷◌, ◌++◌, take, slice_get, sym, ap, ◌∙◌, subst, append-nil, append_assoc, arith}
use Rattle.std.proofs.lemmas.List.Elements.{filter-append}
use Rattle.msg_codec.specs.Count.{Count}
use Rattle.msg_codec.specs.declared.letter.Letter.{Letter}
use Rattle.world_core.specs.Pairs.{is_of_pair, of_pair}
use Rattle.world_core.proofs.Pairs.Numbers.{sent_number-append, sent_number-nil}
use Rattle.list_facts.proofs.Steps.{taken_more}
use Rattle.comm_rank.specs.Held.{Gains}

pub gains_none : (held : List Letter) → Gains held held []
gains_none held = record { pairs = λ s d. sym (append-nil _); senders = λ s. omega (arith, sent_number-nil s) }

pub gains_more : (a b c xs ys : List Letter) → Gains a b xs → Gains b c ys → Gains a c (xs ++ ys)
gains_more a b c xs ys first later = record {
  pairs = λ s d.
      later.pairs s d ∙ ap (λ zs. zs ++ of_pair s d ys) (first.pairs s d) ∙ append_assoc (of_pair s d a) (of_pair s d xs) (of_pair s d ys)
      ∙ ap (λ zs. of_pair s d a ++ zs) (sym (filter-append (is_of_pair s d) xs ys));
  senders = λ s. omega (arith, later.senders s, first.senders s, sent_number-append s xs ys);
}

-- one letter more of a list
pub gains_next : (a b c all : List Letter) (k : ℕ) (l : Letter) → Gains a b (take k all) → slice_get all k ≡ Some l → Gains b c (l ∷ []) → Gains a c (take (k + 1) all)
gains_next a b c all k l first at later = subst (Gains a c) (sym (taken_more all k l at)) (gains_more a b c (take k all) (l ∷ []) first later)

-- ---- a count

pub count_then : (a b c : Count) (n m : ℕ) → b ≡ record a { count = a.count + n } → c ≡ record b { count = b.count + m } → c ≡ record a { count = a.count + (n + m) }
count_then a b c n m first second = let sum : (a.count + n) + m ≡ a.count + (n + m) = omega arith in cc
