-- What a rank was told is so: a Count that it took carries what its rank put and took before it, and a Total is of a complete round.
use Rattle.std.proofs.Common.{◌≡◌, ℕ, suc, ◌<◌, ◌&&◌, false, nat_eq, eqb-true, is_some, Option, Some, None, refl, subst, inl, inr, arith}
use Rattle.std.specs.List.{AllByRecursion}
use Rattle.std.proofs.lemmas.Bool.{cases_lt}
use Rattle.list_facts.proofs.Elements.{all_prefix, find_found}
use Rattle.list_facts.proofs.Prefix.{prefix_joined}
use Rattle.list_facts.proofs.Tests.{and_first, and_second}
use Rattle.msg_codec.specs.Control.{round_of, sent_of, run_of}
use Rattle.msg_codec.specs.declared.letter.Letter.{Letter}
use Rattle.world_core.specs.Counts.{count_taken, counts, is_count_of, is_total_to, IsTrueCount, total_taken}
use Rattle.world_core.specs.Log.{letters_put}
use Rattle.world_core.specs.Pairs.{own_count, run_count}
use Rattle.world_core.specs.Sound.{LinksAgree}
use Rattle.world_core.specs.Wave.{cut, IsComplete, IsStill, IsTrueTotal, Lacks, run_at, sent_at}
use Rattle.world_core.specs.World.{Logs, local, log_of}
use Rattle.world_core.proofs.Counts.TrueCounts.{Numbered}
use Rattle.world_core.proofs.Log.ByLink.{each_put}
use Rattle.world_core.proofs.Wave.HeldBack.{IsFrozen}

-- a rank put its Count of a round, which carries the numbers of the log before it
pub record IsCountAt (world : Logs) (rank q : ℕ) (l : Letter) : Type 0 where
  pub put : q < counts (log_of world rank)
  pub sent : sent_of l ≡ own_count rank (cut world q rank)
  pub run : run_of l ≡ run_count rank (cut world q rank)

-- a round is complete, and the Total carries its sums
pub record IsTotalAt (world : Logs) (q : ℕ) (l : Letter) : Type 0 where
  pub complete : IsComplete world q
  pub sent : sent_of l ≡ sent_at world q
  pub run : run_of l ≡ run_at world q

module _ (world : Logs) (agree : LinksAgree world) where
  pub count_is : ((rank : ℕ) → Numbered (local world rank)) → (at rank q : ℕ) (l : Letter) → count_taken rank q (log_of world at) ≡ Some l →
      IsCountAt world rank q l
  unfolding count_taken
  count_is numbered at rank q l taken =
      let all = all_prefix _ (prefix_joined (agree rank at)) (each_put _ (log_of world rank) (numbered rank).each at) in
      let there = find_found (IsTrueCount rank (log_of world rank)) (λ x. is_count_of rank x && nat_eq (round_of x) q) _ l all taken in
      let round : round_of l ≡ q = eqb-true _ _ (and_second _ _ there.1) in
      let says = there.0 (and_first _ _ (and_first _ _ (and_first _ _ there.1))) in
      let P : ℕ → Type 0 = λ n. IsCountAt world rank n l in
      subst P round (record { put = says.put; sent = says.sent; run = says.run })

  module _ (totals : (rank : ℕ) → AllByRecursion (IsTrueTotal world) (letters_put (log_of world rank))) where
    pub total_is : (rank q : ℕ) (l : Letter) → total_taken rank q (log_of world rank) ≡ Some l → IsTotalAt world q l
    unfolding total_taken
    total_is rank q l taken =
        let all = all_prefix _ (prefix_joined (agree 0 rank)) (each_put _ (log_of world 0) (totals 0) rank) in
        let there = find_found (IsTrueTotal world) (λ x. is_total_to rank x && nat_eq (round_of x) q) _ l all taken in
        let round : round_of l ≡ q = eqb-true _ _ (and_second _ _ there.1) in
        let says = there.0 (and_first _ _ (and_first _ _ (and_first _ _ there.1))) in
        let P : ℕ → Type 0 = λ n. IsTotalAt world n l in
        subst P round (record { complete = says.0; sent = says.1; run = says.2 })

    -- while some rank lacks a Count of a round, no rank took a Total of it
    pub untold : (q : ℕ) → Lacks world q → (rank : ℕ) → is_some (total_taken rank q (log_of world rank)) ≡ false
    untold q lacks rank = by_total (total_taken rank q (log_of world rank)) refl
      where
        by_total : (o : Option Letter) → total_taken rank q (log_of world rank) ≡ o → is_some o ≡ false
        by_total None taken = refl
        by_total (Some l) taken = absurd (omega (arith, (total_is rank q l taken).complete lacks.0 lacks.1, lacks.2))

    pub frozen : ((rank : ℕ) → Numbered (local world rank)) → (q : ℕ) → IsStill world q → Lacks world (suc q) →
        (rank : ℕ) → IsFrozen (local world rank) q
    frozen numbered q still lacks rank =
        let none = untold (suc q) lacks rank in
        record {
          idle = still.run rank;
          forwarded = still.forwarded rank;
          untold = none;
          few_counts = elim (cases_lt (suc (suc q)) (counts (log_of world rank))) [
            | inl more ↦ absurd (let told = (numbered rank).told (suc q) more in cc)
            | inr few ↦ few
          ];
        }
