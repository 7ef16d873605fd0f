-- No letter comes back to its sender: a letter that a rank took and that is for another rank is of another rank.
use Rattle.std.proofs.Common.{◌≡◌, ℕ, ◌<◌, ltb-true, sym, ◌∙◌, subst}
use Rattle.std.specs.Bool.{IsTrue}
use Rattle.std.specs.List.{AllByRecursion}
use Rattle.msg_codec.specs.declared.letter.Letter.{Letter}
use Rattle.ygm_route.specs.Layout.{AreRanks, IsLayout}
use Rattle.ygm_route.specs.Path.{crosses, path}
use Rattle.ygm_route.proofs.Path.Tree.{root}
use Rattle.world_core.specs.Local.{Local}
use Rattle.world_core.specs.Log.{batches_taken, letters_of, letters_taken}
use Rattle.world_core.specs.Modest.{IsModest}
use Rattle.world_core.specs.Pairs.{is_data}
use Rattle.world_core.proofs.Log.ByLink.{all_taken}
use Rattle.world_core.proofs.Modest.Lawful.{IsLawfulLetter, lawful_letters}
use Rattle.list_facts.proofs.Elements.{all_weaker, both_of}
use Rattle.comm_rank.specs.Running.{IsTaken}

module _ (me : Local) (laid_out : IsLayout me.layout) (modest : IsModest me) where
  abbrev Returns : Letter → Type 0
  Returns l = IsTrue (is_data l) → AreRanks me.layout l.from l.to → l.from ≡ me.here → l.to ≡ me.here

  -- a path leads back to its first rank only where it is also the last
  back_to_itself : (from : ℕ) (l : Letter) → (IsTrue (is_data l) → IsTrue (crosses (path me.layout me.scheme l.from l.to) from me.here)) → Returns l
  back_to_itself from l on tag ranks own =
      let P : ℕ → Type 0 = λ h. IsTrue (crosses (path me.layout me.scheme l.from l.to) from h) in
      sym (root me.layout me.scheme l.from l.to from ranks (subst P (sym own) (on tag))) ∙ own

  -- the data letters that a rank took are for it, or of others
  pub are_taken : AllByRecursion (λ (l : Letter). IsTrue (is_data l) → IsTaken me.layout.ranks me.here l) (letters_taken me.log)
  are_taken =
      let back : AllByRecursion Returns (letters_taken me.log) =
      all_taken Returns me.log (λ from. all_weaker _ Returns (letters_of (batches_taken from me.log)) (back_to_itself from) (modest.on_path from)) in
      both_of Returns (IsLawfulLetter me) (λ (l : Letter). IsTrue (is_data l) → IsTaken me.layout.ranks me.here l) (letters_taken me.log)
      (λ l returns lawful tag.
      let destination : l.to < me.layout.ranks = ltb-true _ _ lawful.destination in
      let sender : l.from < me.layout.ranks = ltb-true _ _ lawful.sender in
      record {
        tag = tag;
        destination = destination;
        sender = sender;
        others = λ other own. other (returns tag (record { laid_out = laid_out; from_within = sender; to_within = destination }) own);
      }) back (lawful_letters me modest.lawful)
