-- What holds of the rounds of a world is kept by an entry, where its log stays honest and all stays balanced.
use Rattle.std.proofs.Common.{◌≡◌, ◌⊎◌, ℕ, suc, ◌≤◌, ◌<◌, false, is_some, List, [], ◌∷◌, ◌++◌, length, refl, sym, ap, ◌∙◌, subst, inl, inr, arith, append-nil}
use Rattle.std.specs.List.{AllByRecursion}
use Rattle.std.proofs.lemmas.Bool.{cases_eq, cases_lt}
use Rattle.std.proofs.lemmas.Grind.{flat_map-append}
use Rattle.list_facts.proofs.Elements.{all_append, all_weaker}
use Rattle.msg_codec.specs.declared.letter.Letter.{Letter}
use Rattle.world_core.specs.declared.entry.Entry.{Entry}
use Rattle.world_core.specs.declared.entry.Entry.TheVariants.{Put, Took}
use Rattle.world_core.specs.Counts.{counts, total_taken}
use Rattle.world_core.specs.Local.{local_rank}
use Rattle.world_core.specs.Log.{letters_put, letters_put_by}
use Rattle.world_core.specs.Pairs.{own_count}
use Rattle.world_core.specs.Sound.{LinksAgree}
use Rattle.world_core.specs.Wave.{AreRounds, cut, sent_at, run_at, IsComplete, IsStill, IsTrueTotal, IsWave, Lacks}
use Rattle.world_core.specs.World.{Logs, gaining, log_of, local}
use Rattle.world_core.proofs.Counts.AfterPut.{counts-none, total_taken-put}
use Rattle.world_core.proofs.Counts.TrueCounts.{Numbered}
use Rattle.world_core.proofs.Wave.Balanced.{IsBalanced}
use Rattle.world_core.proofs.Wave.Ended.{ended_is_quiet}
use Rattle.world_core.proofs.Wave.Established.{established}
use Rattle.world_core.proofs.Wave.Grown.{all_new, complete_stays, each, run_stays, sent_stays, wave_kept}
use Rattle.world_core.proofs.Wave.Told.{untold}
use Rattle.world_core.proofs.Wave.Unmoved.{HasNoData, still_stays}
use Rattle.world_core.proofs.Worlds.Link.{log_other, log_same}

-- what all facts of rounds follow from
pub record Core (world : Logs) : Type 0 where
  pub all : length world.logs ≡ world.layout.ranks
  pub agree : LinksAgree world
  pub numbered : (rank : ℕ) → Numbered (local world rank)
  pub totals : (rank : ℕ) → AllByRecursion (IsTrueTotal world) (letters_put (log_of world rank))
  pub waves : (q : ℕ) → IsComplete world q → sent_at world q ≡ run_at world q → IsWave world q

pub are_rounds : (world : Logs) → Core world → AreRounds world
are_rounds world core = record {
  totals = core.totals;
  told = λ rank q h. (core.numbered rank).told q h;
  waves = core.waves;
  ended = ended_is_quiet world core.waves;
}

module _ (world : Logs) (i : ℕ) (e : Entry) (inside : i < world.layout.ranks) (core : Core world) where
  abbrev new : Logs
  new = gaining world i e

  -- ---- Counts and Totals

  all_numbered : Numbered (local_rank world.layout world.scheme i (log_of world i ++ e ∷ [])) → (r : ℕ) → Numbered (local new r)
  all_numbered next = each world i e inside core.all (λ r log. Numbered (local_rank world.layout world.scheme r log)) core.numbered next

  still_true : (l : Letter) → IsTrueTotal world l → IsTrueTotal new l
  still_true l total is =
      let says = total is in (
        complete_stays world i e inside core.all _ says.0,
        says.1 ∙ sym (sent_stays world i e inside core.all _ says.0),
        says.2 ∙ sym (run_stays world i e inside core.all _ says.0),
      )

  all_totals : AllByRecursion (IsTrueTotal world) (letters_put_by e) → (r : ℕ) → AllByRecursion (IsTrueTotal new) (letters_put (log_of new r))
  all_totals next =
      let old : (r : ℕ) → AllByRecursion (IsTrueTotal new) (letters_put (log_of world r)) =
      λ r. all_weaker _ _ _ still_true (core.totals r) in
      each world i e inside core.all (λ r log. AllByRecursion (IsTrueTotal new) (letters_put log)) old
      (rw (flat_map-append letters_put_by (log_of world i) (e ∷ []), append-nil (letters_put_by e))
      (all_append _ _ _ (old i) (all_weaker _ _ _ still_true next)))

  -- ---- a round that is complete now

  -- it was complete before, or this rank hadn't put its Count
  complete_before : (q : ℕ) → IsComplete new q → IsComplete world q ⊎ (counts (log_of world i) ≤ q)
  complete_before q complete = elim (cases_lt q (counts (log_of world i))) [
    | inr few ↦ inr few
    | inl more ↦ inl (λ r within. elim (cases_eq r i) [
      | inl same ↦ rw same more
      | inr other ↦ let P : List Entry → Type 0 = λ log. q < counts log in subst P (log_other world i r e other) (complete r within)
    ])
  ]

  -- where this rank just put the last Count of a round, no rank took a Total of it
  untold_now : (q : ℕ) → IsComplete new q → counts (log_of world i) ≤ q → (r : ℕ) → is_some (total_taken r q (log_of new r)) ≡ false
  untold_now q complete few =
      each world i e inside core.all (λ r log. is_some (total_taken r q log) ≡ false) untold_before (by_entry e refl)
    where
      untold_before : (r : ℕ) → is_some (total_taken r q (log_of world r)) ≡ false
      untold_before = untold world core.agree core.totals q (i, inside, few)

      there : q < counts (log_of world i ++ e ∷ [])
      there = let P : List Entry → Type 0 = λ log. q < counts log in subst P (log_same world i e (rw core.all inside)) (complete i inside)

      by_entry : (x : Entry) → e ≡ x → is_some (total_taken i q (log_of world i ++ x ∷ [])) ≡ false
      by_entry (Put to batch) is = ap is_some (total_taken-put i q (log_of world i) to batch) ∙ untold_before i
      by_entry (Took from batch) is = absurd (
          let P : Entry → Type 0 = λ x. q < counts (log_of world i ++ x ∷ []) in
          let more = subst P is there in
          omega (arith, few, more, counts-none (log_of world i) (Took from batch) refl))

  -- Where this entry moves a still world, it makes the sum before the next cut greater, or holds no data letter.
  pub core_kept : LinksAgree new → Numbered (local_rank world.layout world.scheme i (log_of world i ++ e ∷ [])) →
      AllByRecursion (IsTrueTotal world) (letters_put_by e) → IsBalanced new →
      ((q : ℕ) → IsStill world q → Lacks world (suc q) → own_count i (cut world (suc q) i) ≡ own_count i (cut new (suc q) i) → HasNoData e) → Core new
  core_kept agree next_numbered next_totals balanced moves =
      let numbered = all_numbered next_numbered in
      record {
        all = all_new world i e inside core.all;
        agree = agree;
        numbered = numbered;
        totals = all_totals next_totals;
        waves = λ q complete same. elim (complete_before q complete) [
          | inl old ↦
              let agreed : sent_at world q ≡ run_at world q =
              sym (sent_stays world i e inside core.all q old) ∙ same ∙ run_stays world i e inside core.all q old in
              wave_kept world i e inside core.all q old (core.waves q old agreed)
              (λ lacks own still. still_stays world i e inside core.all (moves q still lacks own) q old still)
          | inr few ↦ established new q (all_new world i e inside core.all) balanced (none_next q complete few numbered) same
        ];
      }
    where
      none_next : (q : ℕ) → IsComplete new q → counts (log_of world i) ≤ q → ((r : ℕ) → Numbered (local new r)) → (r : ℕ) → counts (log_of new r) ≤ suc q
      none_next q complete few numbered r = elim (cases_lt (suc q) (counts (log_of new r))) [
        | inr most ↦ most
        | inl more ↦ absurd (let told = (numbered r).told q more in let none = untold_now q complete few r in cc)
      ]
