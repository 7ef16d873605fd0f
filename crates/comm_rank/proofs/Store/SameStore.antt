-- Buffers that stay those of the same rank.
use Rattle.std.proofs.Common.{◌≡◌, ℕ, ap, ◌∙◌, subst, refl}
use Rattle.ygm_route.specs.declared.scheme.Scheme.{Scheme}
use Rattle.ygm_route.specs.Layout.{Shape}
use Rattle.send_buffers.specs.Buffers.{Buffered}
use Rattle.send_buffers.specs.Calls.{InPlace}
use Rattle.comm_rank.specs.Store.{AreOf, IsSameStore}

pub in_place_then : (a b c : Buffered) → InPlace a b → InPlace b c → InPlace a c
in_place_then a b c first second =
    let P : Buffered → Type 0 = λ x. c ≡ record x { queues = c.queues; room = c.room } in
    subst P first second

pub same_store_none : (held : Buffered) → IsSameStore held held
same_store_none held = record { place = refl; data_alone = λ all. all }

pub same_store_then : (a b c : Buffered) → IsSameStore a b → IsSameStore b c → IsSameStore a c
same_store_then a b c first second = record { place = in_place_then a b c first.place second.place; data_alone = λ all. second.data_alone (first.data_alone all) }

-- they are still of this rank
pub still_of : (layout : Shape) (scheme : Scheme) (here : ℕ) (before after : Buffered) → IsSameStore before after → AreOf layout scheme here before → AreOf layout scheme here after
still_of layout scheme here before after same are = record {
  layout_is = ap (λ (b : Buffered). b.layout) same.place ∙ are.layout_is;
  scheme_is = ap (λ (b : Buffered). b.scheme) same.place ∙ are.scheme_is;
  here_is = ap (λ (b : Buffered). b.here) same.place ∙ are.here_is;
  data_alone = same.data_alone are.data_alone;
}
