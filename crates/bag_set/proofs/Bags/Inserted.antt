-- A bag keeps what letters insert, in order, and sends nothing.
use Rattle.std.proofs.Common.{◌≡◌, ℕ, List, [], ◌∷◌, ◌++◌, refl, sym, ◌∙◌, append_assoc}
use Rattle.std.specs.Option.{option_to_list}
use Rattle.std.proofs.lemmas.List.{append-nil}
use Rattle.msg_codec.specs.declared.letter.Letter.{Letter}
use Rattle.comm_rank.specs.Fold.{fold_from, handed_from}
use Rattle.bag_set.specs.Bags.{Items, all_inserted, bag_apply, inserts}

pub bag_holds : (here ranks : ℕ) (contents : Items) (letters : List Letter) → fold_from bag_apply here ranks contents letters ≡ contents ++ all_inserted letters
bag_holds here ranks contents [] = sym (append-nil contents)
bag_holds here ranks contents (l ∷ ls) =
    bag_holds here ranks (contents ++ option_to_list (inserts l)) ls
    ∙ append_assoc contents (option_to_list (inserts l)) (all_inserted ls)

pub handed-none : (here ranks : ℕ) (contents : Items) (letters : List Letter) → handed_from bag_apply here ranks contents letters ≡ []
handed-none here ranks contents [] = refl
handed-none here ranks contents (l ∷ ls) = handed-none here ranks (contents ++ option_to_list (inserts l)) ls
