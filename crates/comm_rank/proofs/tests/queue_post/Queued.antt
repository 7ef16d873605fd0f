-- A world of one rank, what its link holds, and the state of a post that keeps this in a queue.
use Rattle.std.proofs.Common.{◌≡◌, ◌≢◌, ℕ, zero, suc, ◌<◌, ◌^◌, Bool, Some, None, List, [], ◌∷◌, ◌++◌, length, drop, get_or, slice_get, refl, sym, ap, ◌∙◌, subst, arith, ltb-true}
use Rattle.std.specs.Bool.{IsTrue}
use Rattle.msg_codec.specs.declared.letter.Letter.{Letter}
use Rattle.world_core.specs.Rising.{next_count}
use Rattle.ygm_route.specs.declared.scheme.Scheme.TheVariants.{Direct}
use Rattle.ygm_route.specs.Layout.{Shape}
use Rattle.world_core.specs.declared.entry.Entry.{Entry}
use Rattle.world_core.specs.declared.entry.Entry.TheVariants.{Put, Took}
use Rattle.world_core.specs.Local.{is_rank}
use Rattle.world_core.specs.Log.{batches_put, batches_taken}
use Rattle.world_core.specs.Modest.{IsWorld}
use Rattle.world_core.specs.Plain.{Plain, state_of}
use Rattle.world_core.specs.Post.{PutFoundFull, TookBatch}
use Rattle.world_core.specs.Rules.{first_broken}
use Rattle.world_core.specs.Rules.Deed.{Puts}
use Rattle.world_core.specs.World.{Logs, link, local}
use Rattle.world_core.proofs.Deeds.Unbroken.{receiver_within, unbroken}
use Rattle.world_core.proofs.Worlds.Link.{link_put_same, link_took_same}
use Rattle.list_facts.proofs.Prefix.{prefix_length}

abbrev pub one : Shape → List Entry → Logs
one layout log = record { layout = layout; scheme = Direct; logs = log ∷ [] }

abbrev pub shown : Shape → List Entry → Bool → ℕ → ℕ → ℕ → Plain
shown layout log raised fulls misses halts = record {
  world = one layout log;
  ring = 2;
  batches = 2 ^ 64;
  raised = raised ∷ [];
  fulls = fulls ∷ [];
  misses = misses ∷ [];
  halts = halts;
}

first_of : (xs : List (List Letter)) (n : ℕ) (x : List Letter) (rest : List (List Letter)) → drop n xs ≡ x ∷ rest → slice_get xs n ≡ Some x
first_of [] zero x rest e = absurd cc
first_of [] (suc n) x rest e = absurd cc
first_of (y ∷ xs) zero x rest e = cc
first_of (y ∷ xs) (suc n) x rest e = first_of xs n x rest e

others : {X : Type 0} (x y d : X) (rank here : ℕ) → here ≡ 0 → rank ≢ here → get_or (y ∷ []) rank d ≡ get_or (x ∷ []) rank d
others x y d zero here is ne = absurd (ne (sym is))
others x y d (suc rank) here is ne = refl

module _ (layout : Shape) (alone : layout.ranks ≡ 1) (log : List Entry) where
  pub here_is : (here : ℕ) → IsTrue (is_rank layout here) → here ≡ 0
  here_is here served = omega (arith, ltb-true here layout.ranks served, alone)

  pub to_is : (here to : ℕ) (batch : List Letter) → first_broken (local (one layout log) here) (Puts to batch) ≡ None → to ≡ 0
  to_is here to batch ok = omega (arith, receiver_within (local (one layout log) here) to batch (unbroken (local (one layout log) here) to batch ok).ranks, alone)

  pub from_is : (from : ℕ) → from < layout.ranks → from ≡ 0
  from_is from within = omega (arith, within, alone)

  pub next : (batch : List Letter) (rest : List (List Letter)) → link (one layout log) 0 0 ≡ batch ∷ rest → slice_get (batches_put 0 log) (length (batches_taken 0 log)) ≡ Some batch
  next batch rest e = first_of (batches_put 0 log) (length (batches_taken 0 log)) batch rest e

  pub put_link : IsWorld (one layout log) → (batch : List Letter) → link (one layout (log ++ Put 0 batch ∷ [])) 0 0 ≡ link (one layout log) 0 0 ++ batch ∷ []
  put_link world batch = link_put_same (one layout log) 0 0 batch (omega arith) (prefix_length (world.sound.agree 0 0))

  pub took_link : (batch : List Letter) (rest : List (List Letter)) → link (one layout log) 0 0 ≡ batch ∷ rest → link (one layout (log ++ Took 0 batch ∷ [])) 0 0 ≡ rest
  took_link batch rest e = link_took_same (one layout log) 0 0 batch (omega arith) ∙ ap (drop 1) e

  module _ (raised : Bool) (fulls misses halts : ℕ) (here : ℕ) (served : IsTrue (is_rank layout here)) where
    pub found_full : (to : ℕ) (batch : List Letter) (now : ℕ) → first_broken (local (one layout log) here) (Puts to batch) ≡ None → fulls < 2 ^ 64 → now ≡ next_count fulls →
        PutFoundFull here to (state_of (shown layout log raised fulls misses halts)) (state_of (shown layout log raised now misses halts))
    found_full to batch now ok few counted =
        let P : ℕ → ℕ → Type 0 = λ h t. PutFoundFull h t (state_of (shown layout log raised fulls misses halts)) (state_of (shown layout log raised now misses halts)) in
        let at_0 : P 0 0 = record {
          log = refl;
          fulls = record { rose = omega (arith, counted); never_falls = omega (arith, counted, few); others = λ rank ne. others fulls now 0 rank 0 refl ne };
        } in
        subst (λ h. P h to) (sym (here_is here served)) (subst (P 0) (sym (to_is here to batch ok)) at_0)

    pub took : (from : ℕ) (batch : List Letter) (after : List Entry) → after ≡ log ++ Took from batch ∷ [] → IsWorld (one layout after) →
        TookBatch here from batch (state_of (shown layout log raised fulls misses halts)) (state_of (shown layout after raised fulls misses halts))
    took from batch after is world =
        let P : ℕ → Type 0 = λ h. TookBatch h from batch (state_of (shown layout log raised fulls misses halts)) (state_of (shown layout after raised fulls misses halts)) in
        subst P (sym (here_is here served)) (record { log = is; modest = world.modest 0 (omega (arith, alone)); misses = λ rank. refl })
