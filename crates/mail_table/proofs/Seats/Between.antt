-- Seats between the steps of a put and of a take.
use Rattle.std.proofs.Common.{◌≡◌, ℕ, ◌+◌, ◌-◌, ◌<◌, Bool, true, not, MatchBool, List, [], ◌∷◌, ◌++◌, length, Option, Some, refl, sym, ap, ◌∙◌, subst, arith, length-append, if◌then◌else◌}
use Rattle.std.proofs.lemmas.Bool.{eq-eqb, lt-ltb}
use Rattle.atomic_table.specs.Table.{rest}
use Rattle.msg_codec.specs.declared.letter.Letter.{Letter}
use Rattle.world_core.specs.declared.entry.Entry.TheVariants.{Took}
use Rattle.world_core.specs.Log.{batches_taken}
use Rattle.world_core.specs.Modest.{IsModest}
use Rattle.world_core.proofs.Log.Appended.{batches_taken-took}
use Rattle.mail_table.specs.declared.settings.Settings.{Settings}
use Rattle.mail_table.specs.declared.views.RankView.{RankView}
use Rattle.mail_table.specs.declared.views.View.{View}
use Rattle.mail_table.specs.Seats.{IsAt, IsEmptying, IsFilling, IsOf}
use Rattle.mail_table.specs.Steps.{HeadLoaded, Seated, TailLoaded, after_head, after_tail, has_more, has_room, local_in, put_in, slot_from, slot_to, taken_in}
use Rattle.mail_table.specs.Table.{is_full_at}
use Rattle.mail_table.specs.Views.{knowing, loaded_at, mine}
use Rattle.mail_table.specs.Words.{slot_at}

-- a rank's view in the place of another
of_knowing : (settings : Settings) (rank : ℕ) (old : View) (new : RankView) → IsOf settings rank old → IsOf settings rank (knowing old new)
of_knowing settings rank old new of = record { first = of.first; one = refl; settings_are = of.settings_are; within = of.within }

-- the slot, by the settings and the rank that the call has
slot_to_here : (settings : Settings) (rank to number slot : ℕ) (view : View) → IsOf settings rank view → slot ≡ slot_at settings.layout.ranks settings.ring rank to number → slot_to view to number ≡ slot
slot_to_here settings rank to number slot view of e = ap (λ (z : Settings × ℕ). slot_at z.0.layout.ranks z.0.ring z.1 to number) (λ i. (of.settings_are i, of.first i)) ∙ sym e

slot_from_here : (settings : Settings) (rank from number slot : ℕ) (view : View) → IsOf settings rank view → slot ≡ slot_at settings.layout.ranks settings.ring from rank number → slot_from view from number ≡ slot
slot_from_here settings rank from number slot view of e = ap (λ (z : Settings × ℕ). slot_at z.0.layout.ranks z.0.ring from z.1 number) (λ i. (of.settings_are i, of.first i)) ∙ sym e

-- ---- a put

-- how the call compares
pub room_shown : (settings : Settings) (made head : ℕ) → made - head < settings.ring → made < settings.batches → not (is_full_at settings made head) ≡ true
room_shown settings made head room few = grind (arith, room, few)

module _ (settings : Settings) (rank to made head : ℕ) (old mid : Seated) (at : IsAt settings rank old) (within : to < settings.layout.ranks) (made_is : made ≡ put_in old.0 to) (loaded : HeadLoaded to head old mid) where
  -- the link has room, and the seat has the slot
  pub has_slot : not (is_full_at settings made head) ≡ true → (value : Option (List Letter)) × IsFilling settings rank to made value mid
  has_slot e =
      let room : has_room old.0 to head ≡ true = subst (λ (z : Settings × ℕ). not (is_full_at z.0 z.1 head) ≡ true) (λ i. (sym at.of.settings_are i, made_is i)) e in
      let view : mid.0 ≡ after_head old.0 to head true = loaded.view ∙ ap (after_head old.0 to head) room in
      let hand = subst (λ (b : Bool). MatchBool b ((value : Option (List Letter)) × (mid.1 ≡ (slot_to old.0 to (put_in old.0 to), value) ∷ old.1)) (mid.1 ≡ old.1)) room loaded.hand in (
        hand.0,
        subst (λ (z : Seated). IsFilling settings rank to made hand.0 z) (λ i. (sym view i, (sym hand.1) i)) (record {
          of = of_knowing settings rank old.0 (record (mine old.0) { heads = loaded_at (mine old.0).heads to head; filling = Some to }) at.of;
          within = within;
          filling = refl;
          number_is = made_is;
          hand = λ i. (slot_to old.0 to (sym made_is i), hand.0) ∷ at.hand i;
        }),
      )

-- the slot has another batch
pub exchanged_to : (settings : Settings) (rank to made slot : ℕ) (value value' : Option (List Letter)) (mid last : Seated) → slot ≡ slot_at settings.layout.ranks settings.ring rank to made →
    IsFilling settings rank to made value mid → last ≡ (mid.0, (slot, value') ∷ rest mid.1) → IsFilling settings rank to made value' last
exchanged_to settings rank to made slot value value' mid last slot_is filling e =
    subst (IsFilling settings rank to made value') (sym e) (record {
      of = filling.of;
      within = filling.within;
      filling = filling.filling;
      number_is = filling.number_is;
      hand = λ i. (sym (slot_to_here settings rank to made slot mid.0 filling.of slot_is) i, value') ∷ rest (filling.hand i);
    })

-- ---- a take

module _ (settings : Settings) (rank from made tail : ℕ) (old mid : Seated) (at : IsAt settings rank old) (within : from < settings.layout.ranks) (made_is : made ≡ taken_in old.0 from) (loaded : TailLoaded from tail old mid) where
  module _ (there : made < tail) where
    some_more : has_more old.0 from tail ≡ true
    some_more = lt-ltb (taken_in old.0 from) tail (subst (λ (n : ℕ). n < tail) made_is there)

    view : mid.0 ≡ after_tail old.0 from tail true loaded.batch
    view = loaded.view ∙ ap (λ (b : Bool). after_tail old.0 from tail b loaded.batch) some_more

    in_hand : (mid.1 ≡ (slot_from old.0 from (taken_in old.0 from), Some loaded.batch) ∷ old.1) × IsModest (local_in mid.0)
    in_hand = subst (λ (b : Bool). MatchBool b ((mid.1 ≡ (slot_from old.0 from (taken_in old.0 from), Some loaded.batch) ∷ old.1) × IsModest (local_in mid.0)) (mid.1 ≡ old.1)) some_more loaded.hand

    -- the seat has the slot, with the batch
    pub has_batch_slot : IsEmptying settings rank from made (Some loaded.batch) mid
    has_batch_slot =
        let log = (mine old.0).log in let ts = batches_taken from log in
        let more : batches_taken from (log ++ Took from loaded.batch ∷ []) ≡ ts ++ loaded.batch ∷ [] =
        batches_taken-took log from from loaded.batch ∙ ap (λ (b : Bool). ts ++ (if b then loaded.batch ∷ [] else [])) (eq-eqb from from refl) in
        subst (λ (z : Seated). IsEmptying settings rank from made (Some loaded.batch) z) (λ i. (sym view i, sym in_hand.0 i)) (record {
          of = of_knowing settings rank old.0 (record (mine old.0) { log = log ++ Took from loaded.batch ∷ []; tails = loaded_at (mine old.0).tails from tail; emptying = Some from }) at.of;
          within = within;
          emptying = refl;
          number_is = ap length more ∙ length-append ts (loaded.batch ∷ []) ∙ ap (λ (n : ℕ). n + 1) (sym made_is);
          hand = λ i. (slot_from old.0 from (sym made_is i), Some loaded.batch) ∷ at.hand i;
        })

-- the slot has another value
pub exchanged_from : (settings : Settings) (rank from made slot : ℕ) (value value' : Option (List Letter)) (mid last : Seated) → slot ≡ slot_at settings.layout.ranks settings.ring from rank made →
    IsEmptying settings rank from made value mid → last ≡ (mid.0, (slot, value') ∷ rest mid.1) → IsEmptying settings rank from made value' last
exchanged_from settings rank from made slot value value' mid last slot_is emptying e =
    subst (IsEmptying settings rank from made value') (sym e) (record {
      of = emptying.of;
      within = emptying.within;
      emptying = emptying.emptying;
      number_is = emptying.number_is;
      hand = λ i. (sym (slot_from_here settings rank from made slot mid.0 emptying.of slot_is) i, value') ∷ rest (emptying.hand i);
    })

-- what the exchange asks for
pub slot_there : (settings : Settings) (rank from made slot : ℕ) (value : Option (List Letter)) (mid : Seated) → slot ≡ slot_at settings.layout.ranks settings.ring from rank made → IsEmptying settings rank from made value mid →
    mid.1 ≡ (slot, value) ∷ rest mid.1
slot_there settings rank from made slot value mid slot_is emptying =
    emptying.hand ∙ (λ i. (slot_from_here settings rank from made slot mid.0 emptying.of slot_is i, value) ∷ rest (sym emptying.hand i))
