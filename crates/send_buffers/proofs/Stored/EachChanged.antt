-- Stored queues that change one after another.
use Rattle.std.proofs.Common.{◌≡◌, ◌≢◌, ℕ, ◌+◌, ◌<◌, ◌≤◌, List, ◌++◌, length, take, drop, map, get_or, set, inl, inr, sym, ap, ◌∙◌, subst, arith}
use Rattle.std.proofs.lemmas.Bool.{cases_eq}
use Rattle.std.proofs.lemmas.List.{get_or-map, get_or-set_other, length-map, map-set}
use Rattle.std.proofs.lemmas.List.Edits.{map_over_more}
use Rattle.list_facts.proofs.Fields.{field_now, field_same}
use Rattle.send_buffers.specs.Buffers.{closed_up}
use Rattle.send_buffers.specs.Stored.{Stored, held_in, room_in}

module _ (stored first : List Stored) (next : ℕ) (was now : Stored) (within : next < length stored) (at : was ≡ get_or stored next was) where
  -- what is held stays
  pub held_still : held_in stored ≡ held_in first → now.held ≡ was.held → held_in (set stored next now) ≡ held_in first
  held_still same is =
      field_same (λ (one : Stored). one.held) stored (held_in first) next was now same (omega (arith, within, ap length same, length-map stored (λ (one : Stored). one.held))) at is

  -- one more batch was closed
  pub one_more_closed : length stored ≡ length first → held_in stored ≡ map closed_up (take next (held_in first)) ++ drop next (held_in first) → now.held ≡ closed_up was.held →
      held_in (set stored next now) ≡ map closed_up (take (next + 1) (held_in first)) ++ drop (next + 1) (held_in first)
  one_more_closed all so_far is =
      let there : was.held ≡ get_or (held_in stored) next was.held = ap (λ (one : Stored). one.held) at ∙ sym (get_or-map (λ (one : Stored). one.held) stored next was was.held within) in
      map-set (λ (one : Stored). one.held) stored next now ∙ ap (set (held_in stored) next) is
      ∙ map_over_more closed_up (held_in first) (held_in stored) next was.held (omega (arith, within, all, length-map first (λ (one : Stored). one.held))) so_far there

  -- ---- rooms

  -- another queue has the room that it had
  room_other : (other : ℕ) → other ≢ next → get_or (room_in (set stored next now)) other 0 ≡ get_or (room_in stored) other 0
  room_other other differs = ap (λ rooms. get_or rooms other 0) (map-set (λ (one : Stored). one.room) stored next now) ∙ get_or-set_other (room_in stored) next other now.room 0 differs

  pub one_more_room : 1 ≤ now.room → ((other : ℕ) → other < next → 1 ≤ get_or (room_in stored) other 0) →
      (other : ℕ) → other < next + 1 → 1 ≤ get_or (room_in (set stored next now)) other 0
  one_more_room room before other lt = elim (cases_eq other next) [
    | inl same ↦
        let here : 1 ≤ get_or (room_in (set stored next now)) next 0 = omega (arith, room, field_now (λ (one : Stored). one.room) stored next now 0 within) in
        subst (λ k. 1 ≤ get_or (room_in (set stored next now)) k 0) (sym same) here
    | inr differs ↦ omega (arith, room_other other differs, before other (omega (arith, lt, differs)))
  ]

  pub later_room : ((other : ℕ) → next ≤ other → other < length stored → 1 ≤ get_or (room_in stored) other 0) →
      (other : ℕ) → next + 1 ≤ other → other < length stored → 1 ≤ get_or (room_in (set stored next now)) other 0
  later_room rooms other past lt = omega (arith, room_other other (λ e. omega (arith, e, past)), rooms other (omega (arith, past)) lt)
