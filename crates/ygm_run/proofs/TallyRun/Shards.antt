-- All shards of a tally together have the counts of all lines.
use Rattle.std.proofs.Common.{◌≡◌, ◌≢◌, inl, inr, ℕ, ◌^◌, ◌<◌, ◌≤◌, eqb, Bool, true, false, cond, List, [], All, length, get_or, sum_by, bytes_eq, flat_map, refl, sym, ap, subst, ◌∙◌, arith}
use Rattle.std.proofs.lemmas.Bool.{eq-eqb, ne_eqb, cases_eq}
use Rattle.std.proofs.lemmas.List.Sums.{count_by-le-length}
use Rattle.std.proofs.lemmas.Nat.{mod_below}
use Rattle.std.proofs.lemmas.Option.{slice_get-get_or}
use Rattle.list_facts.specs.Sums.{sum_upto}
use Rattle.list_facts.proofs.Sums.{sum_upto-same, sum_upto-zero}
use Rattle.comm_rank.specs.Fold.{fold_from}
use Rattle.counting_set.specs.Counting.{AddsNoZero, Counts, HasCounts, adds_of, counting_apply}
use Rattle.part_hash.specs.Owner.{fnv, owner_of_key}
use Rattle.counting_set.proofs.Counts.HasCounts.{letters_add_up}
use Rattle.ygm_run.specs.TallyRun.{IsTally}
use Rattle.ygm_run.specs.TallyText.{AreCounts, IsTableOf, all_lines, tally_text, times}
use Rattle.ygm_run.proofs.TallyText.Shards.{AreShards, AreCounts-from_shards}
use Rattle.ygm_run.proofs.TallyText.Table.{table_of_counts}
use Rattle.ygm_run.proofs.TallyRun.AllLines.{times_in_files}
use Rattle.ygm_run.proofs.TallyRun.Tests.{none_adds_zero}

if_mine : (b : Bool) (f : ℕ → ℕ) (n : ℕ) → sum_upto (λ s. cond b (f s) 0) n ≡ cond b (sum_upto f n) 0
if_mine true f n = refl
if_mine false f n = sum_upto-zero n

no_more : (b : Bool) (n : ℕ) → cond b n 0 ≤ n
no_more true n = omega arith
no_more false n = omega arith

module _ (ranks : ℕ) (files : List (List (List ℕ))) (shards : List Counts) (some : 0 < ranks) (fit : length files ≤ ranks) (few : length (all_lines files) < 2 ^ 64) (h : IsTally ranks files shards) where
  abbrev mine : List ℕ → ℕ → Bool
  mine item d = eqb (owner_of_key item ranks) d

  -- what arrives at a rank adds up to the lines that it owns
  sums_at : (item : List ℕ) (d : ℕ) → d < ranks → sum_by (adds_of item) (h.arrivals d) ≡ cond (mine item d) (times item (all_lines files)) 0
  sums_at item d t =
      h.weigh (adds_of item) d t
      ∙ sum_upto-same (λ s. sum_by (adds_of item) (h.own s d)) (λ s. cond (mine item d) (times item (get_or files s [])) 0) ranks (λ s f. (h.count s f).sums d item t)
      ∙ if_mine (mine item d) (λ s. times item (get_or files s [])) ranks
      ∙ ap (λ n. cond (mine item d) n 0) (times_in_files item files ranks fit)

  sums_at_owner : (item : List ℕ) (d : ℕ) → d < ranks → owner_of_key item ranks ≡ d → sum_by (adds_of item) (h.arrivals d) ≡ times item (all_lines files)
  sums_at_owner item d t e = sums_at item d t ∙ ap (λ b. cond b (times item (all_lines files)) 0) (eq-eqb (owner_of_key item ranks) d e)

  sums_elsewhere : (item : List ℕ) (d : ℕ) → d < ranks → owner_of_key item ranks ≢ d → sum_by (adds_of item) (h.arrivals d) ≡ 0
  sums_elsewhere item d t ne = sums_at item d t ∙ ap (λ b. cond b (times item (all_lines files)) 0) (ne_eqb (owner_of_key item ranks) d ne)

  owner_if_there : (item : List ℕ) (c d : ℕ) → d < ranks → c ≡ sum_by (adds_of item) (h.arrivals d) → 0 < c → owner_of_key item ranks ≡ d
  owner_if_there item c d t is lt =
      elim (cases_eq (owner_of_key item ranks) d) [
        | inl e ↦ e
        | inr ne ↦ absurd (omega (arith, is, lt, sums_elsewhere item d t ne))
      ]

  below_limit : (d : ℕ) → d < ranks → (item : List ℕ) → sum_by (adds_of item) (h.arrivals d) < 2 ^ 64
  below_limit d t item =
      omega (arith, sums_at item d t, no_more (mine item d) (times item (all_lines files)), count_by-le-length (λ line. bytes_eq item line) (all_lines files), few)

  shard_is : (d : ℕ) → d < ranks → get_or shards d [] ≡ fold_from counting_apply d ranks [] (h.arrivals d)
  shard_is d t = h.folds.each d (get_or shards d []) (slice_get-get_or shards d [] (omega (arith, t, h.folds.all)))

  shard_has : (d : ℕ) → d < ranks → HasCounts (get_or shards d []) (λ item. sum_by (adds_of item) (h.arrivals d))
  shard_has d t =
      let none_zero : All AddsNoZero (h.arrivals d) = none_adds_zero ranks h.own h.arrivals h.weigh d t (λ s f. (h.count s f).adds d t) in
      subst (λ es. HasCounts es (λ item. sum_by (adds_of item) (h.arrivals d))) (sym (shard_is d t)) (letters_add_up d ranks (h.arrivals d) none_zero (below_limit d t))

  in_ranks : (d : ℕ) → d < length shards → d < ranks
  in_ranks d t = omega (arith, t, h.folds.all)

  owner_in : (item : List ℕ) → owner_of_key item ranks < length shards
  owner_in item = let lt : owner_of_key item ranks < ranks = mod_below (fnv item) ranks some in omega (arith, lt, h.folds.all)

  are_shards : AreShards (λ item. owner_of_key item ranks) shards (all_lines files)
  are_shards = record {
    once = λ d t. (shard_has d (in_ranks d t)).distinct;
    exact = λ d t item c.
        let here = (shard_has d (in_ranks d t)).counted item c in (
          λ there.
              let is = here.0 there in
              let own = owner_if_there item c d (in_ranks d t) is.0 is.1 in
              (own, is.0 ∙ sums_at_owner item d (in_ranks d t) own, is.1),
          λ is. here.1 (is.1 ∙ sym (sums_at_owner item d (in_ranks d t) is.0), is.2),
        );
    owned = λ item among. owner_in item;
  }

  pub counts_of_tally : AreCounts (flat_map (λ shard. shard) shards) (all_lines files)
  counts_of_tally = AreCounts-from_shards (λ item. owner_of_key item ranks) shards (all_lines files) are_shards

  pub text_of_tally : (text : List ℕ) → IsTableOf (flat_map (λ shard. shard) shards) text → text ≡ tally_text files
  text_of_tally text table = table_of_counts (flat_map (λ shard. shard) shards) text files table counts_of_tally
