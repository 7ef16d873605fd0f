-- How many letters a rank sent, and how many run at it: of lists of letters, and of logs.
use Rattle.std.proofs.Common.{◌≡◌, ℕ, ◌+◌, ◌≤◌, ◌&&◌, Bool, true, false, cond, nat_eq, List, [], ◌∷◌, ◌++◌, length, refl, ap, ◌∙◌, arith, length-append}
use Rattle.std.specs.List.{AllByRecursion}
use Rattle.std.proofs.lemmas.Grind.{flat_map-append}
use Rattle.std.proofs.lemmas.List.Elements.{filter-append}
use Rattle.msg_codec.specs.declared.letter.Letter.{Letter}
use Rattle.list_facts.proofs.Filters.{filter_none}
use Rattle.list_facts.specs.Prefix.{IsPrefix}
use Rattle.world_core.specs.declared.entry.Entry.{Entry}
use Rattle.world_core.specs.declared.entry.Entry.TheVariants.{Put, Took}
use Rattle.world_core.specs.Log.{letters_put, letters_put_by, letters_taken, letters_taken_by}
use Rattle.world_core.specs.Pairs.{for_rank, is_data, of_pair, of_sender, own_count, run_count, run_number, sent_number}
use Rattle.world_core.proofs.Log.Appended.{letters_put-put, letters_put-took, letters_taken-put, letters_taken-took}
use Rattle.world_core.proofs.Pairs.OfPair.{pair_of_sender}

abbrev is_from : ℕ → Letter → Bool
is_from rank l = is_data l && nat_eq l.from rank

abbrev is_to : ℕ → Letter → Bool
is_to rank l = is_data l && nat_eq l.to rank

-- ---- of letters

pub sent_number-is : (rank : ℕ) (letters : List Letter) → sent_number rank letters ≡ length (of_sender rank letters)
unfolding sent_number
sent_number-is rank letters = refl

pub run_number-is : (rank : ℕ) (letters : List Letter) → run_number rank letters ≡ length (for_rank rank letters)
unfolding run_number
run_number-is rank letters = refl

pub sent_number-append : (rank : ℕ) (xs ys : List Letter) → sent_number rank (xs ++ ys) ≡ sent_number rank xs + sent_number rank ys
unfolding sent_number
sent_number-append rank xs ys = ap length (filter-append (is_from rank) xs ys) ∙ length-append (of_sender rank xs) (of_sender rank ys)

pub run_number-append : (rank : ℕ) (xs ys : List Letter) → run_number rank (xs ++ ys) ≡ run_number rank xs + run_number rank ys
unfolding run_number
run_number-append rank xs ys = ap length (filter-append (is_to rank) xs ys) ∙ length-append (for_rank rank xs) (for_rank rank ys)

pub sent_number-nil : (rank : ℕ) → sent_number rank [] ≡ 0
unfolding sent_number
sent_number-nil rank = refl

pub run_number-nil : (rank : ℕ) → run_number rank [] ≡ 0
unfolding run_number
run_number-nil rank = refl

-- none is of the sender, or for the rank
pub sent_number-none : (rank : ℕ) (letters : List Letter) → AllByRecursion (λ l. (is_data l && nat_eq l.from rank) ≡ false) letters → sent_number rank letters ≡ 0
unfolding sent_number
sent_number-none rank letters none = ap length (filter_none (is_from rank) letters none)

pub run_number-none : (rank : ℕ) (letters : List Letter) → AllByRecursion (λ l. (is_data l && nat_eq l.to rank) ≡ false) letters → run_number rank letters ≡ 0
unfolding run_number
run_number-none rank letters none = ap length (filter_none (is_to rank) letters none)

-- one letter
pub sent_number-one : (rank : ℕ) (l : Letter) (b : Bool) → (is_data l && nat_eq l.from rank) ≡ b → sent_number rank (l ∷ []) ≡ cond b 1 0
unfolding sent_number
sent_number-one rank l true h = rw h refl
sent_number-one rank l false h = rw h refl

pub run_number-one : (rank : ℕ) (l : Letter) (b : Bool) → (is_data l && nat_eq l.to rank) ≡ b → run_number rank (l ∷ []) ≡ cond b 1 0
unfolding run_number
run_number-one rank l true h = rw h refl
run_number-one rank l false h = rw h refl

-- a prefix has no more
pub sent_number_of_prefix : (rank : ℕ) {xs ys : List Letter} → IsPrefix xs ys → sent_number rank xs ≤ sent_number rank ys
sent_number_of_prefix rank {xs} {ys} p = omega (arith, ap (sent_number rank) p.joined, sent_number-append rank xs p.rest)

pub run_number_of_prefix : (rank : ℕ) {xs ys : List Letter} → IsPrefix xs ys → run_number rank xs ≤ run_number rank ys
run_number_of_prefix rank {xs} {ys} p = omega (arith, ap (run_number rank) p.joined, run_number-append rank xs p.rest)

-- a rank sends no fewer letters than those to one rank
pub pair_within_sent : (from to : ℕ) (letters : List Letter) → length (of_pair from to letters) ≤ sent_number from letters
pair_within_sent from to letters = rw (sent_number-is from letters) (pair_of_sender from to letters)

-- ---- of logs

pub own_count-put : (rank : ℕ) (log : List Entry) (to : ℕ) (batch : List Letter) → own_count rank (log ++ Put to batch ∷ []) ≡ own_count rank log + sent_number rank batch
own_count-put rank log to batch = ap (sent_number rank) (letters_put-put log to batch) ∙ sent_number-append rank (letters_put log) batch

pub own_count-took : (rank : ℕ) (log : List Entry) (from : ℕ) (batch : List Letter) → own_count rank (log ++ Took from batch ∷ []) ≡ own_count rank log
own_count-took rank log from batch = ap (sent_number rank) (letters_put-took log from batch)

pub run_count-put : (rank : ℕ) (log : List Entry) (to : ℕ) (batch : List Letter) → run_count rank (log ++ Put to batch ∷ []) ≡ run_count rank log
run_count-put rank log to batch = ap (run_number rank) (letters_taken-put log to batch)

pub run_count-took : (rank : ℕ) (log : List Entry) (from : ℕ) (batch : List Letter) → run_count rank (log ++ Took from batch ∷ []) ≡ run_count rank log + run_number rank batch
run_count-took rank log from batch = ap (run_number rank) (letters_taken-took log from batch) ∙ run_number-append rank (letters_taken log) batch

pub own_count-append : (rank : ℕ) (log more : List Entry) → own_count rank (log ++ more) ≡ own_count rank log + own_count rank more
own_count-append rank log more = ap (sent_number rank) (flat_map-append letters_put_by log more) ∙ sent_number-append rank (letters_put log) (letters_put more)

pub run_count-append : (rank : ℕ) (log more : List Entry) → run_count rank (log ++ more) ≡ run_count rank log + run_count rank more
run_count-append rank log more = ap (run_number rank) (flat_map-append letters_taken_by log more) ∙ run_number-append rank (letters_taken log) (letters_taken more)

-- a prefix of a log counts no more
pub own_of_prefix : (rank : ℕ) {xs ys : List Entry} → IsPrefix xs ys → own_count rank xs ≤ own_count rank ys
own_of_prefix rank {xs} {ys} p = omega (arith, ap (own_count rank) p.joined, own_count-append rank xs p.rest)

pub run_of_prefix : (rank : ℕ) {xs ys : List Entry} → IsPrefix xs ys → run_count rank xs ≤ run_count rank ys
run_of_prefix rank {xs} {ys} p = omega (arith, ap (run_count rank) p.joined, run_count-append rank xs p.rest)
