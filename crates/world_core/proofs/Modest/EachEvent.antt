-- A fresh world is sound. A put that breaks no rule, and a take of the next batch, keep a world sound.
use Rattle.std.proofs.Common.{◌≡◌, ℕ, ◌<◌, Bool, true, false, nat_eq, eqb-true, Some, None, List, [], ◌∷◌, ◌++◌, length, get_or, slice_get, replicate, refl, sym, ap, subst, inl, inr, append-nil, if◌then◌else◌, ◌∙◌, length-set}
use Rattle.std.specs.List.{list_any}
use Rattle.std.proofs.lemmas.Bool.{cases_lt}
use Rattle.std.proofs.lemmas.List.{get_or_past, get_or-replicate, length-replicate}
use Rattle.list_facts.specs.Prefix.{IsPrefix}
use Rattle.list_facts.proofs.Prefix.{prefix_refl, prefix_trans}
use Rattle.msg_codec.specs.declared.letter.Letter.{Letter}
use Rattle.ygm_route.specs.declared.scheme.Scheme.{Scheme}
use Rattle.ygm_route.specs.Layout.{Shape, IsLayout}
use Rattle.world_core.specs.declared.entry.Entry.{Entry}
use Rattle.world_core.specs.declared.entry.Entry.TheVariants.{Put, Took}
use Rattle.world_core.specs.Local.{local_rank}
use Rattle.world_core.specs.Log.{batches_put, batches_taken}
use Rattle.world_core.specs.Modest.{IsWorld, too_soon}
use Rattle.world_core.specs.Rules.{first_broken, IsHonest}
use Rattle.world_core.specs.Rules.Deed.{Puts}
use Rattle.world_core.specs.Sound.{LinksAgree}
use Rattle.world_core.specs.World.{Logs, fresh, gaining, local, log_of}
use Rattle.world_core.proofs.Deeds.Honest.{honest_more}
use Rattle.world_core.proofs.Deeds.Unbroken.{Unbroken, unbroken, sender_within}
use Rattle.world_core.proofs.Log.Appended.{batches_put-put, batches_put-took, batches_taken-put, batches_taken-took}
use Rattle.world_core.proofs.Modest.FromHonest.{is_world}
use Rattle.world_core.proofs.Modest.InTurn.{TookInTurn, turn_more, next_in_turn, are_in_turn}
use Rattle.world_core.proofs.Sound.OnPath.{Base, alone}
use Rattle.world_core.proofs.Wave.EachEvent.{put_core, take_core, fresh_core}
use Rattle.world_core.proofs.Wave.Kept.{Core, are_rounds}
use Rattle.world_core.proofs.Worlds.EachLog.{each_log}

pub base_of : (world : Logs) → IsWorld world → Base world
base_of world w = record { laid_out = w.sound.laid_out; all_ranks = w.sound.all_ranks; agree = w.sound.agree; honest = w.sound.honest }

pub core_of : (world : Logs) → IsWorld world → Core world
core_of world w = record {
  all = w.sound.all_ranks;
  agree = w.sound.agree;
  numbered = λ rank. (alone world (base_of world w) rank).numbered;
  totals = w.sound.rounds.totals;
  waves = w.sound.rounds.waves;
}

-- what a world is, from what all else follows from
world_of : (world : Logs) → Base world → Core world → ((rank : ℕ) → rank < world.layout.ranks → TookInTurn (local world rank)) → IsWorld world
world_of world base core turns = is_world world base (are_rounds world core) (are_in_turn world base core turns)

-- ---- an entry more

-- the other facts that a world needs
gained : (world : Logs) (rank : ℕ) (entry : Entry) → Base world → rank < world.layout.ranks → LinksAgree (gaining world rank entry) →
    ((to : ℕ) (letters : List Letter) → entry ≡ Put to letters → first_broken (local world rank) (Puts to letters) ≡ None) → Base (gaining world rank entry)
gained world rank entry base within agree ok = record {
  laid_out = base.laid_out;
  all_ranks = length-set world.logs rank (log_of world rank ++ entry ∷ []) ∙ base.all_ranks;
  agree = agree;
  honest = each_log world rank entry
      (λ r log. r < world.layout.ranks → IsHonest (local_rank world.layout world.scheme r log))
      (rw base.all_ranks within) base.honest (λ _. honest_more (local world rank) entry (base.honest rank within) ok);
}

-- What a log took in its turn stays so.
turns : (world : Logs) (rank : ℕ) (entry : Entry) → IsWorld world → rank < world.layout.ranks →
    ((from : ℕ) (letters : List Letter) → entry ≡ Took from letters → list_any (too_soon (local world rank) from) letters ≡ false) →
    (r : ℕ) → r < world.layout.ranks → TookInTurn (local (gaining world rank entry) r)
turns world rank entry w within next =
    each_log world rank entry (λ r log. r < world.layout.ranks → TookInTurn (local_rank world.layout world.scheme r log))
    (rw w.sound.all_ranks within) (λ r inside. (w.modest r inside).control.in_turn)
    (λ inside. turn_more (local world rank) entry (w.modest rank inside).control.in_turn next)

-- ---- a put

put_is : (to rank : ℕ) (letters batch : List Letter) → (let e : Entry = Put to letters in e) ≡ Put rank batch → (to ≡ rank) × (letters ≡ batch)
put_is to rank letters batch e = (cc, cc)

pub put_kept : (world : Logs) (from to : ℕ) (letters : List Letter) → Base world → first_broken (local world from) (Puts to letters) ≡ None → Base (gaining world from (Put to letters))
put_kept world from to letters base ok =
    let within : from < world.layout.ranks = sender_within (local world from) to letters (unbroken (local world from) to letters ok).ranks in
    let inside : from < length world.logs = rw base.all_ranks within in
    let taken : (j i : ℕ) → batches_taken i (log_of (gaining world from (Put to letters)) j) ≡ batches_taken i (log_of world j) =
    each_log world from (Put to letters) (λ j log. (i : ℕ) → batches_taken i log ≡ batches_taken i (log_of world j)) inside (λ j i. refl) (λ i. batches_taken-put (log_of world from) to i letters) in
    let put : (i j : ℕ) → IsPrefix (batches_put j (log_of world i)) (batches_put j (log_of (gaining world from (Put to letters)) i)) =
    each_log world from (Put to letters) (λ i log. (j : ℕ) → IsPrefix (batches_put j (log_of world i)) (batches_put j log)) inside (λ i j. prefix_refl (batches_put j (log_of world i)))
    (λ j. record { rest = if nat_eq to j then letters ∷ [] else []; joined = sym (batches_put-put (log_of world from) to j letters) }) in
    gained world from (Put to letters) base within
    (λ i j. rw (taken j i) (prefix_trans (base.agree i j) (put i j)))
    (λ rank batch e. let same = put_is to rank letters batch e in
    let P : ℕ → List Letter → Type 0 = λ r b. first_broken (local world from) (Puts r b) ≡ None in
    subst (λ b. P rank b) same.1 (subst (λ r. P r letters) same.0 ok))

pub honest_put_keeps : (world : Logs) (from to : ℕ) (letters : List Letter) → IsWorld world → first_broken (local world from) (Puts to letters) ≡ None → IsWorld (gaining world from (Put to letters))
honest_put_keeps world from to letters w ok =
    let unbroken_put : Unbroken (local world from) to letters = unbroken (local world from) to letters ok in
    let base = put_kept world from to letters (base_of world w) ok in
    world_of (gaining world from (Put to letters)) base (put_core world from to letters (core_of world w) unbroken_put base)
    (turns world from (Put to letters) w (sender_within (local world from) to letters unbroken_put.ranks) (λ rank batch e. absurd cc))

-- ---- a take

next_of : (xs rest : List (List Letter)) (y : List Letter) → slice_get (xs ++ rest) (length xs) ≡ Some y → IsPrefix (xs ++ y ∷ []) (xs ++ rest)
next_of [] [] y h = absurd cc
next_of [] (z ∷ rest) y h = record { rest = rest; joined = ap (λ w. w ∷ rest) (let same : y ≡ z = cc in same) }
next_of (x ∷ xs) rest y h = let p = next_of xs rest y h in record { rest = p.rest; joined = ap (λ ws. x ∷ ws) p.joined }

prefix_next : (xs ys : List (List Letter)) (y : List Letter) → IsPrefix xs ys → slice_get ys (length xs) ≡ Some y → IsPrefix (xs ++ y ∷ []) ys
prefix_next xs ys y p h =
    let P : List (List Letter) → Type 0 = λ zs. slice_get zs (length xs) ≡ Some y in
    let Q : List (List Letter) → Type 0 = IsPrefix (xs ++ y ∷ []) in
    subst Q p.joined (next_of xs p.rest y (subst P (sym p.joined) h))

-- a rank that has a batch to take is a rank of the world
take_within : (world : Logs) (from to : ℕ) (letters : List Letter) → Base world →
    slice_get (batches_put to (log_of world from)) (length (batches_taken from (log_of world to))) ≡ Some letters → to < world.layout.ranks
take_within world from to letters base next = elim (cases_lt to world.layout.ranks) [
  | inl below ↦ below
  | inr past ↦
      let none : batches_put to (log_of world from) ≡ [] = (alone world base from).targets to past in
      let P : List (List Letter) → Type 0 = λ ys. slice_get ys (length (batches_taken from (log_of world to))) ≡ Some letters in
      let never : P [] = subst P none next in
      absurd cc
]

pub take_kept : (world : Logs) (from to : ℕ) (letters : List Letter) → Base world →
    slice_get (batches_put to (log_of world from)) (length (batches_taken from (log_of world to))) ≡ Some letters → Base (gaining world to (Took from letters))
take_kept world from to letters base next =
    let within : to < world.layout.ranks = take_within world from to letters base next in
    let inside : to < length world.logs = rw base.all_ranks within in
    let put : (i j : ℕ) → batches_put j (log_of (gaining world to (Took from letters)) i) ≡ batches_put j (log_of world i) =
    each_log world to (Took from letters) (λ i log. (j : ℕ) → batches_put j log ≡ batches_put j (log_of world i)) inside (λ i j. refl) (λ j. batches_put-took (log_of world to) from j letters) in
    let agree : (j i : ℕ) → IsPrefix (batches_taken i (log_of (gaining world to (Took from letters)) j)) (batches_put j (log_of world i)) =
    each_log world to (Took from letters) (λ j log. (i : ℕ) → IsPrefix (batches_taken i log) (batches_put j (log_of world i))) inside (λ j i. base.agree i j)
    (λ i. rw (batches_taken-took (log_of world to) from i letters) (one_more (nat_eq from i) i refl)) in
    gained world to (Took from letters) base within
    (λ i j. rw (put i j) (agree j i))
    (λ rank batch e. absurd cc)
  where
    one_more : (b : Bool) (i : ℕ) → nat_eq from i ≡ b → IsPrefix (batches_taken i (log_of world to) ++ (if b then letters ∷ [] else [])) (batches_put to (log_of world i))
    one_more true i e =
        let P : ℕ → Type 0 = λ n. IsPrefix (batches_taken n (log_of world to) ++ letters ∷ []) (batches_put to (log_of world n)) in
        subst P (eqb-true from i e) (prefix_next _ _ letters (base.agree from to) next)
    one_more false i e = rw (append-nil (batches_taken i (log_of world to))) (base.agree i to)

took_is : (from rank : ℕ) (letters batch : List Letter) → (let e : Entry = Took from letters in e) ≡ Took rank batch → (from ≡ rank) × (letters ≡ batch)
took_is from rank letters batch e = (cc, cc)

pub next_take_keeps : (world : Logs) (from to : ℕ) (letters : List Letter) → IsWorld world →
    slice_get (batches_put to (log_of world from)) (length (batches_taken from (log_of world to))) ≡ Some letters → IsWorld (gaining world to (Took from letters))
next_take_keeps world from to letters w next =
    let before = base_of world w in
    let base = take_kept world from to letters before next in
    let within : to < world.layout.ranks = take_within world from to letters before next in
    world_of (gaining world to (Took from letters)) base (take_core world from to letters (core_of world w) within next base)
    (turns world to (Took from letters) w within (λ rank batch e.
    let same = took_is from rank letters batch e in
    let P : ℕ → List Letter → Type 0 = λ r b. list_any (too_soon (local world to) r) b ≡ false in
    subst (λ b. P rank b) same.1 (subst (λ r. P r letters) same.0 (next_in_turn world before (core_of world w) from to letters within next))))

-- ---- a fresh world

same_at : (n i : ℕ) (d : List Entry) → get_or (replicate n d) i d ≡ d
same_at n i d = elim (cases_lt i n) [
  | inl within ↦ get_or-replicate n i d d within
  | inr past ↦ get_or_past (replicate n d) i d (rw (length-replicate n d) past)
]

pub empty_log : (layout : Shape) (scheme : Scheme) (rank : ℕ) → log_of (fresh layout scheme) rank ≡ []
empty_log layout scheme rank = same_at layout.ranks rank []

pub fresh_base : (layout : Shape) (scheme : Scheme) → IsLayout layout → Base (fresh layout scheme)
fresh_base layout scheme laid = record {
  laid_out = laid;
  all_ranks = length-replicate layout.ranks [];
  agree = λ i j. rw (empty_log layout scheme j, empty_log layout scheme i) (prefix_refl []);
  honest = λ rank within k to letters h. absurd (
      let P : List Entry → Type 0 = λ log. slice_get log k ≡ Some (Put to letters) in
      let never : P [] = subst P (empty_log layout scheme rank) h in cc);
}

pub fresh_is_world : (layout : Shape) (scheme : Scheme) → IsLayout layout → IsWorld (fresh layout scheme)
fresh_is_world layout scheme laid =
    let base = fresh_base layout scheme laid in
    world_of (fresh layout scheme) base (fresh_core (fresh layout scheme) base (empty_log layout scheme))
    (λ r within k from letters h. absurd (
    let P : List Entry → Type 0 = λ log. slice_get log k ≡ Some (Took from letters) in
    let never : P [] = subst P (empty_log layout scheme r) h in cc))
