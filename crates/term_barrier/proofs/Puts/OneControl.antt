-- A put of one control letter between ranks breaks no rule but those on control letters.
use Rattle.std.proofs.Common.{◌≡◌, ℕ, ◌<◌, Bool, true, false, not, ◌&&◌, ◌||◌, nat_lt, lt-ltb, [], ◌∷◌, refl, sym, ◌∙◌}
use Rattle.msg_codec.specs.Control.{is_control}
use Rattle.msg_codec.specs.declared.letter.Letter.{Letter}
use Rattle.world_core.specs.Local.{Local}
use Rattle.world_core.specs.Pairs.{is_data}
use Rattle.world_core.specs.Rules.{bad_tag, first_broken, first_broken_of, mixed_control, no_such_rank, some_letter}
use Rattle.world_core.specs.Rules.Deed.{Puts}
use Rattle.world_core.specs.Trial.{control_rules}
use Rattle.world_core.proofs.Deeds.Table.{control_table, whole_deed}

good_tag : (a b : Bool) → b ≡ true → ((not a && not b) || false) ≡ false
good_tag true b h = refl
good_tag false b h = rw h refl

alone : (b : Bool) → (b && false) ≡ false
alone true = refl
alone false = refl

pub one_control : (me : Local) (to : ℕ) (l : Letter) → is_control l ≡ true → me.here < me.layout.ranks → to < me.layout.ranks →
    l.to < me.layout.ranks → l.from < me.layout.ranks → first_broken me (Puts to (l ∷ [])) ≡ first_broken_of control_rules me (Puts to (l ∷ []))
one_control me to l control here there dest source =
    let a : nat_lt me.here me.layout.ranks ≡ true = lt-ltb _ _ here in
    let b : nat_lt to me.layout.ranks ≡ true = lt-ltb _ _ there in
    let c : nat_lt l.to me.layout.ranks ≡ true = lt-ltb _ _ dest in
    let d : nat_lt l.from me.layout.ranks ≡ true = lt-ltb _ _ source in
    let ranks : no_such_rank me (Puts to (l ∷ [])) ≡ false = rw (a, b, c, d) refl in
    let tags : some_letter bad_tag me (Puts to (l ∷ [])) ≡ false = good_tag (is_data l) (is_control l) control in
    let unmixed : mixed_control me (Puts to (l ∷ [])) ≡ false = alone _ in
    sym (whole_deed me to (l ∷ []) false false false false ranks refl tags unmixed)
    ∙ control_table me to (l ∷ []) l (record { lone = refl; control = control })
