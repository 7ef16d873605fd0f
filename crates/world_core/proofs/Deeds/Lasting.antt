-- A put that breaks no rule breaks none of the lasting ones, whatever the log of its rank is.
use Rattle.std.proofs.Common.{◌≡◌, ℕ, Bool, false, Some, None, List, [], refl, sym, ◌∙◌, if◌then◌else◌}
use Rattle.msg_codec.specs.declared.letter.Letter.{Letter}
use Rattle.ygm_route.specs.declared.scheme.Scheme.{Scheme}
use Rattle.ygm_route.specs.Layout.{Shape}
use Rattle.world_core.specs.declared.why.Why.{Why}
use Rattle.world_core.specs.ControlRules.{wrong_control}
use Rattle.world_core.specs.Local.{Local, local_rank}
use Rattle.world_core.specs.Modest.{lasting_rules}
use Rattle.world_core.specs.Rules.{bad_tag, first_broken_of, some_letter_after}
use Rattle.world_core.specs.Rules.Deed.{Puts}
use Rattle.world_core.proofs.Deeds.SomeLetter.{letters_alike}
use Rattle.world_core.proofs.Deeds.Unbroken.{Unbroken}

-- a batch breaks none of them, as a put of one rank to another
abbrev pub IsLawfulPut : Shape → Scheme → ℕ → ℕ → List Letter → Type 0
IsLawfulPut layout scheme from to letters = first_broken_of lasting_rules (local_rank layout scheme from []) (Puts to letters) ≡ None

-- these two rules look at the letter, the rank and the destination alone
pub tags_alike : (me other : Local) (to : ℕ) (letters : List Letter) → some_letter_after bad_tag [] letters me to ≡ some_letter_after bad_tag [] letters other to
tags_alike me other to letters =
    letters_alike bad_tag (bad_tag me to) me to (λ before l. refl) [] letters ∙ sym (letters_alike bad_tag (bad_tag me to) other to (λ before l. refl) [] letters)

pub control_alike : (me other : Local) (to : ℕ) (letters : List Letter) → me.here ≡ other.here →
    some_letter_after wrong_control [] letters me to ≡ some_letter_after wrong_control [] letters other to
control_alike me other to letters here =
    letters_alike wrong_control (wrong_control me to) me to (λ before l. refl) [] letters
    ∙ sym (letters_alike wrong_control (wrong_control me to) other to (λ before l. rw here refl) [] letters)

none_of_four : (a b c d : Bool) (first second third last : Why) → a ≡ false → b ≡ false → c ≡ false → d ≡ false →
    (if a then Some first else if b then Some second else if c then Some third else if d then Some last else None) ≡ None
none_of_four a b c d first second third last ha hb hc hd = rw (ha, hb, hc, hd) refl

pub lawful_put : (me : Local) (to : ℕ) (letters : List Letter) → Unbroken me to letters → IsLawfulPut me.layout me.scheme me.here to letters
lawful_put me to letters ok =
    let bare : Local = local_rank me.layout me.scheme me.here [] in
    none_of_four _ _ _ _ _ _ _ _ ok.ranks (tags_alike bare me to letters ∙ ok.tags) ok.unmixed (control_alike bare me to letters refl ∙ ok.control)
