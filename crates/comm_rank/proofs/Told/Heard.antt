-- What a tap has heard after letters, and after more of them.
use Rattle.std.proofs.Common.{◌≡◌, List, [], ◌∷◌, ◌++◌, None, Some, map, refl, sym, ap, ◌∙◌, inl, inr, append-nil, append_assoc}
use Rattle.std.proofs.lemmas.List.{map-append}
use Rattle.msg_codec.specs.declared.letter.Letter.{Letter}
use Rattle.ygm_taps.specs.Heard.{Heard}
use Rattle.comm_rank.specs.Told.{HeardOrLacksLast, LacksLast, as_heard, with_letters}

pub heard_none : (h : Heard) → h ≡ with_letters h []
heard_none None = refl
heard_none (Some letters) = ap Some (sym (append-nil letters))

heard_more : (h : Heard) (run more : List Letter) → with_letters (with_letters h run) more ≡ with_letters h (run ++ more)
heard_more None run more = refl
heard_more (Some letters) run more =
    ap Some (append_assoc letters (map as_heard run) (map as_heard more) ∙ ap (λ xs. letters ++ xs) (sym (map-append as_heard run more)))

pub heard_then : (a b c : Heard) (run more : List Letter) → b ≡ with_letters a run → c ≡ with_letters b more → c ≡ with_letters a (run ++ more)
heard_then a b c run more first later = later ∙ ap (λ h. with_letters h more) first ∙ heard_more a run more

pub lacks_then : (a b c : Heard) (run more : List Letter) → b ≡ with_letters a run → HeardOrLacksLast b c more → HeardOrLacksLast a c (run ++ more)
lacks_then a b c run more first later = elim later [
  | inl all ↦ inl (heard_then a b c run more first all)
  | inr lacks ↦ inr (record {
    given = run ++ lacks.given;
    last = lacks.last;
    joined = ap (λ xs. run ++ xs) lacks.joined ∙ sym (append_assoc run lacks.given (lacks.last ∷ []));
    heard = heard_then a b c run lacks.given first lacks.heard;
  })
]

-- the only letter that ran was refused
pub lacks_only : (a b : Heard) (l : Letter) → b ≡ a → LacksLast a b (l ∷ [])
lacks_only a b l same = record { given = []; last = l; joined = refl; heard = same ∙ heard_none a }
