-- How many letters a log sent and ran, entry by entry, and how many a batch did, letter by letter.
use Rattle.std.proofs.Common.{◌≡◌, ℕ, ◌+◌, ◌&&◌, Bool, cond, nat_eq, Some, List, [], ◌∷◌, take, slice_get, ap, ◌∙◌}
use Rattle.msg_codec.specs.declared.letter.Letter.{Letter}
use Rattle.list_facts.proofs.Steps.{taken_more}
use Rattle.world_core.specs.declared.entry.Entry.{Entry}
use Rattle.world_core.specs.Pairs.{is_data, own_count, run_count, run_number, sent_number}
use Rattle.world_core.proofs.Pairs.Numbers.{own_count-append, run_count-append, sent_number-append, sent_number-one, run_number-append, run_number-one}

-- ---- a log

module _ (rank : ℕ) (log : List Entry) (i : ℕ) (e : Entry) (here : slice_get log i ≡ Some e) where
  pub own_next : own_count rank (take (i + 1) log) ≡ own_count rank (take i log) + own_count rank (e ∷ [])
  own_next = ap (own_count rank) (taken_more log i e here) ∙ own_count-append rank (take i log) (e ∷ [])

  pub run_next : run_count rank (take (i + 1) log) ≡ run_count rank (take i log) + run_count rank (e ∷ [])
  run_next = ap (run_count rank) (taken_more log i e here) ∙ run_count-append rank (take i log) (e ∷ [])

-- ---- a batch

module _ (rank : ℕ) (letters : List Letter) (k : ℕ) (l : Letter) (b : Bool) (here : slice_get letters k ≡ Some l) where
  pub sent_next : (is_data l && nat_eq l.from rank) ≡ b → sent_number rank (take (k + 1) letters) ≡ sent_number rank (take k letters) + cond b 1 0
  sent_next h =
      ap (sent_number rank) (taken_more letters k l here) ∙ sent_number-append rank (take k letters) (l ∷ [])
      ∙ ap (λ n. sent_number rank (take k letters) + n) (sent_number-one rank l b h)

  pub ran_next : (is_data l && nat_eq l.to rank) ≡ b → run_number rank (take (k + 1) letters) ≡ run_number rank (take k letters) + cond b 1 0
  ran_next h =
      ap (run_number rank) (taken_more letters k l here) ∙ run_number-append rank (take k letters) (l ∷ [])
      ∙ ap (λ n. run_number rank (take k letters) + n) (run_number-one rank l b h)
