-- Whether a link is full, as the code reads it and as the logs say.
use Rattle.std.proofs.Common.{◌≡◌, ℕ, ◌+◌, ◌*◌, ◌<◌, ◌||◌, nat_le, None, List, length, get_or, sym, ap, ◌∙◌, subst}
use Rattle.msg_codec.specs.declared.letter.Letter.{Letter}
use Rattle.world_core.specs.Kept.{AreLinks, Kept, batches_in, carried_by}
use Rattle.world_core.specs.Plain.{Plain, is_full}
use Rattle.world_core.specs.Rules.{first_broken}
use Rattle.world_core.specs.Rules.Deed.{Puts}
use Rattle.world_core.specs.World.{local}
use Rattle.world_core.proofs.Kept.AreLinks.{from_within, full_read, to_within}

-- `inside` is what the fields show, and `now` what the caller sees
module _ (inside now : Plain) (n : ℕ) (row : List Kept) (links : AreLinks inside.world n (batches_in row) (carried_by row)) (same : inside ≡ now)
    (here to : ℕ) (batch : List Letter) (ok : first_broken (local now.world here) (Puts to batch) ≡ None) where
  pub unbroken_inside : first_broken (local inside.world here) (Puts to batch) ≡ None
  unbroken_inside = let P : Plain → Type 0 = λ p. first_broken (local p.world here) (Puts to batch) ≡ None in subst P (sym same) ok

  pub here_in : here < n
  here_in = from_within inside.world n (batches_in row) (carried_by row) links here to batch unbroken_inside

  pub to_in : to < n
  to_in = to_within inside.world n (batches_in row) (carried_by row) links here to batch unbroken_inside

  pub full_shown : (place : ℕ) (x : Kept) → place ≡ here * n + to → x ≡ get_or row place x →
      (nat_le inside.ring (length x.batches) || nat_le inside.batches x.carried) ≡ is_full now here to
  full_shown place x e is =
      full_read inside.world n row links here to here_in to_in inside.ring inside.batches place x e is ∙ ap (λ p. is_full p here to) same
