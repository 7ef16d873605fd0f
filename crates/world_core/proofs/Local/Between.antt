-- Two ranks, and one between them.
use Rattle.std.proofs.Common.{◌≡◌, ◌≢◌, ℕ, ◌<◌, true, not, nat_eq, ltb-true, eq-eqb}
use Rattle.ygm_route.specs.declared.scheme.Scheme.{Scheme}
use Rattle.ygm_route.specs.Layout.{Shape}
use Rattle.world_core.specs.Local.{is_between}
use Rattle.list_facts.proofs.Tests.{and_first, and_second}

-- two ranks, and one that is neither
pub record IsThird (layout : Shape) (s d r : ℕ) : Type 0 where
  pub from_within : s < layout.ranks
  pub to_within : d < layout.ranks
  pub not_sender : r ≢ s
  pub not_destination : r ≢ d

pub not_equal : (a b : ℕ) → not (nat_eq a b) ≡ true → a ≢ b
not_equal a b h e = absurd (let same : nat_eq a b ≡ true = eq-eqb a b e in cc)

pub between : (layout : Shape) (scheme : Scheme) (s d r : ℕ) → is_between layout scheme s d r ≡ true → IsThird layout s d r
unfolding is_between
between layout scheme s d r h =
    let a = and_first _ _ h in
    let b = and_first _ _ a in
    let c = and_first _ _ b in
    record {
      from_within = ltb-true _ _ (and_first _ _ c);
      to_within = ltb-true _ _ (and_second _ _ c);
      not_sender = not_equal _ _ (and_second _ _ b);
      not_destination = not_equal _ _ (and_second _ _ a);
    }
