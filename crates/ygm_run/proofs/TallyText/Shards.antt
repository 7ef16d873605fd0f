-- The counts of all items, from shards that each hold the counts of the items that they own.
use Rattle.std.proofs.Common.{◌≡◌, ◌≢◌, ◌↔◌, ℕ, suc, ◌+◌, ◌<◌, List, [], ◌∷◌, length, get_or, AllPairs, Contains, flat_map, refl, ap, subst, arith}
use Rattle.ygm_run.specs.TallyText.{AreCounts, times}
use Rattle.ygm_run.proofs.TallyText.Times.{Contains-from_times}
use Rattle.list_facts.proofs.Members.{AllPairs-append, Contains-joined, from_joined}
use Rattle.ygm_run.proofs.TallyText.Table.{Pair}

-- each shard has exactly the items that it owns, each once and with its count
pub record AreShards (owner : List ℕ → ℕ) (shards : List (List Pair)) (lines : List (List ℕ)) : Type 0 where
  pub once : (d : ℕ) → d < length shards → AllPairs (λ pair later. pair.0 ≢ later.0) (get_or shards d [])
  pub exact : (d : ℕ) → d < length shards → (item : List ℕ) (count : ℕ) → Contains (get_or shards d []) (item, count) ↔ ((owner item ≡ d) × (count ≡ times item lines) × (0 < count))
  -- each line has an owner
  pub owned : (item : List ℕ) → Contains lines item → owner item < length shards

-- shards that own from the number `from` on
once_in_all : (owner : List ℕ → ℕ) (from : ℕ) (shards : List (List Pair)) → ((d : ℕ) → d < length shards → AllPairs (λ pair later. pair.0 ≢ later.0) (get_or shards d []))
    → ((d : ℕ) (pair : Pair) → d < length shards → Contains (get_or shards d []) pair → owner pair.0 ≡ from + d)
    → AllPairs (λ (pair later : Pair). pair.0 ≢ later.0) (flat_map (λ shard. shard) shards)
once_in_all owner from [] once owned = λ i j d less within. absurd (omega arith)
once_in_all owner from (shard ∷ shards) once owned =
    AllPairs-append (λ (pair later : Pair). pair.0 ≢ later.0) shard (flat_map (λ s. s) shards)
    (once 0 (omega arith))
    (once_in_all owner (from + 1) shards (λ d within. once (suc d) (omega arith)) (λ d pair within among. let of = owned (suc d) pair (omega arith) among in omega arith))
    (λ pair later first rest same.
    let place = from_joined shards later rest in
    let mine = owned 0 pair (omega arith) first in
    let theirs = owned (suc place.0) later (omega (arith, place.1)) place.2 in
    let one = ap owner same in
    omega arith)

pub AreCounts-from_shards : (owner : List ℕ → ℕ) (shards : List (List Pair)) (lines : List (List ℕ)) → AreShards owner shards lines → AreCounts (flat_map (λ shard. shard) shards) lines
AreCounts-from_shards owner shards lines h = record {
  distinct = once_in_all owner 0 shards h.once (λ d pair within among. let of = ((h.exact d within pair.0 pair.1).0 among).0 in omega arith);
  counted = λ item count. (
    λ among. let place = from_joined shards (item, count) among in let says = (h.exact place.0 place.1 item count).0 place.2 in (says.1, says.2),
    λ counts.
        let stands : Contains lines item = Contains-from_times item lines (subst (λ n. 0 < n) counts.0 counts.1) in
        let within = h.owned item stands in
        Contains-joined shards (owner item) (item, count) within ((h.exact (owner item) within item count).1 (refl, counts.0, counts.1)),
  );
}
