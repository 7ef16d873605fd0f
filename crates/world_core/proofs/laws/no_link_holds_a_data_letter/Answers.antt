use Rattle.std.proofs.Common.{◌≡◌, List, [], ◌++◌, length, drop, filter, refl, sym, ap, ◌∙◌, append-nil}
use Rattle.std.proofs.lemmas.Grind.{flat_map-append}
use Rattle.std.proofs.lemmas.List.{append_cancel_left, drop_at}
use Rattle.std.proofs.lemmas.List.Elements.{filter-append}
use Rattle.list_facts.specs.Prefix.{IsPrefix}
use Rattle.msg_codec.specs.declared.letter.Letter.{Letter}
use Rattle.world_core.specs.Log.{letters_of}
use Rattle.world_core.specs.Pairs.{is_data}
use Rattle.world_core.specs.Wave.{data_of}
use Rattle.world_core.proofs.laws.no_link_holds_a_data_letter.Goals as goal

data_of-append : (xs ys : List (List Letter)) → data_of (xs ++ ys) ≡ data_of xs ++ data_of ys
data_of-append xs ys = ap (λ ls. filter is_data ls) (flat_map-append (λ batch. batch) xs ys) ∙ filter-append is_data (letters_of xs) (letters_of ys)

-- one link
module _ (taken put : List (List Letter)) (agree : IsPrefix taken put) where
  rest : data_of (drop (length taken) put) ≡ data_of agree.rest
  rest = ap data_of (ap (drop (length taken)) (sym agree.joined) ∙ drop_at taken agree.rest (length taken) refl)

  parts : data_of put ≡ data_of taken ++ data_of agree.rest
  parts = ap data_of (sym agree.joined) ∙ data_of-append taken agree.rest

  none_left : data_of taken ≡ data_of put → data_of (drop (length taken) put) ≡ []
  none_left same = rest ∙ append_cancel_left (data_of taken) (data_of agree.rest) [] (sym parts ∙ sym same ∙ sym (append-nil (data_of taken)))

  all_taken : data_of (drop (length taken) put) ≡ [] → data_of taken ≡ data_of put
  all_taken none = sym (append-nil (data_of taken)) ∙ ap (λ ls. data_of taken ++ ls) (sym none ∙ rest) ∙ sym parts

pub returns : goal.returns
returns c world w = (
  (λ all from to. none_left _ _ (w.sound.agree from to) (all from to)),
  (λ none from to. all_taken _ _ (w.sound.agree from to) (none from to)),
)
