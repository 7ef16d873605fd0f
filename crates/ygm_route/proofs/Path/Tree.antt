-- The paths of one sender make a tree, which grows link by link.
use Rattle.std.proofs.Common.{◌≡◌, ◌≢◌, ℕ, [], ◌∷◌, ◌++◌, ap, sym, ◌∙◌, refl}
use Rattle.std.proofs.lemmas.List.{append-nil}
use Rattle.std.specs.Bool.{IsTrue}
use Rattle.list_facts.specs.Prefix.{IsPrefix, IsSuffix}
use Rattle.list_facts.proofs.Prefix.{suffix_same}
use Rattle.ygm_route.specs.declared.scheme.Scheme.{Scheme}
use Rattle.ygm_route.specs.Layout.{Shape, AreRanks}
use Rattle.ygm_route.specs.Path.{path, passes, crosses}
use Rattle.ygm_route.proofs.Path.FirstOrLater.{crosses_first, crosses_later}
use Rattle.ygm_route.proofs.Hop.AtMostThree.{at_once, over_one, over_two, way}
use Rattle.ygm_route.proofs.Path.Computed.{path-near, path-one, path-two, path-two_begin}
use Rattle.ygm_route.proofs.Path.Places.{is_sender, is_destination, is_between, is_first, is_second, standing, is_whole, into_one, out_of_one, into_first, first_to_second, out_of_second, crossing}
use Rattle.ygm_route.proofs.Layouts.AreRanks.{onto}

module _ (layout : Shape) (scheme : Scheme) where
  -- a link of a path is the last link of the path to its end
  pub link_ends_path : (s d a b : ℕ) → AreRanks layout s d → IsTrue (crosses (path layout scheme s d) a b) → IsSuffix (a ∷ b ∷ []) (path layout scheme s b)
  link_ends_path s d a b ranks h = elim (crossing layout scheme s d ranks a b h) [
    | is_whole e f g ↦ record { before = []; joined = ap (λ x. x ∷ b ∷ []) (sym f) ∙ ap (λ x. s ∷ x ∷ []) (sym g) ∙ sym (path-near layout scheme s d ranks e) ∙ ap (λ x. path layout scheme s x) g }
    | into_one f over ↦ record { before = []; joined = ap (λ x. x ∷ b ∷ []) (sym f) ∙ sym (path-near layout scheme s b (onto layout s d b ranks over.m_within) over.early) }
    | out_of_one over g ↦ record { before = s ∷ []; joined = ap (λ x. s ∷ a ∷ x ∷ []) (sym g) ∙ sym (path-one layout scheme s d ranks a over) ∙ ap (λ x. path layout scheme s x) g }
    | into_first k f over ↦ record { before = []; joined = ap (λ x. x ∷ b ∷ []) (sym f) ∙ sym (path-near layout scheme s b (onto layout s d b ranks over.m_within) over.early) }
    | first_to_second over ↦ record { before = s ∷ []; joined = sym (path-two_begin layout scheme s d ranks a b over) }
    | out_of_second m over g ↦ record { before = s ∷ m ∷ []; joined = ap (λ x. s ∷ m ∷ a ∷ x ∷ []) (sym g) ∙ sym (path-two layout scheme s d ranks m a over) ∙ ap (λ x. path layout scheme s x) g }
  ]

  -- a rank has a rank before it on its path
  pub some_parent : (s d : ℕ) → AreRanks layout s d → (a : ℕ) × IsTrue (crosses (path layout scheme s d) a d)
  some_parent s d ranks = elim (way layout s d ranks scheme) [
    | at_once e ↦ (s, rw (path-near layout scheme s d ranks e) (crosses_first s d [] s d refl refl))
    | over_one m _ over ↦ (m, rw (path-one layout scheme s d ranks m over) (crosses_later s m (d ∷ []) m d (crosses_first m d [] m d refl refl)))
    | over_two m k _ over ↦ (k, rw (path-two layout scheme s d ranks m k over) (crosses_later s m (k ∷ d ∷ []) k d (crosses_later m k (d ∷ []) k d (crosses_first k d [] k d refl refl))))
  ]

  -- a rank has one rank before it on all paths from a sender
  pub one_parent : (s d e a a' b : ℕ) → AreRanks layout s d → AreRanks layout s e → IsTrue (crosses (path layout scheme s d) a b) → IsTrue (crosses (path layout scheme s e) a' b) → a ≡ a'
  one_parent s d e a a' b ranks others h h' =
      let p : IsSuffix (a ∷ b ∷ []) (path layout scheme s b) = link_ends_path s d a b ranks h in
      let q : IsSuffix (a' ∷ b ∷ []) (path layout scheme s b) = link_ends_path s e a' b others h' in
      let both : a ∷ b ∷ [] ≡ a' ∷ b ∷ [] = suffix_same p q refl in
      cc

  -- a link to the sender is on the path to itself alone
  pub root : (s d a : ℕ) → AreRanks layout s d → IsTrue (crosses (path layout scheme s d) a s) → s ≡ d
  root s d a ranks h = elim (crossing layout scheme s d ranks a s h) [
    | is_whole e f g ↦ sym g
    | into_one f over ↦ absurd (over.s_m refl)
    | out_of_one over g ↦ sym g
    | into_first k f over ↦ absurd (over.s_m refl)
    | first_to_second over ↦ absurd (over.s_k refl)
    | out_of_second m over g ↦ sym g
  ]

  -- the path to a rank is the path to the rank before it, with the link from there
  pub path_by_parent : (s d a b : ℕ) → AreRanks layout s d → IsTrue (crosses (path layout scheme s d) a b) → a ≢ s → path layout scheme s b ≡ path layout scheme s a ++ b ∷ []
  path_by_parent s d a b ranks h on = elim (crossing layout scheme s d ranks a b h) [
    | is_whole e f g ↦ absurd (on (sym f))
    | into_one f over ↦ absurd (on (sym f))
    | out_of_one over g ↦ ap (λ x. path layout scheme s x) (sym g) ∙ path-one layout scheme s d ranks a over ∙ ap (λ x. s ∷ a ∷ x ∷ []) g ∙ ap (λ xs. xs ++ b ∷ []) (sym (path-near layout scheme s a (onto layout s d a ranks over.m_within) over.early))
    | into_first k f over ↦ absurd (on (sym f))
    | first_to_second over ↦ path-two_begin layout scheme s d ranks a b over ∙ ap (λ xs. xs ++ b ∷ []) (sym (path-near layout scheme s a (onto layout s d a ranks over.m_within) over.early))
    | out_of_second m over g ↦ ap (λ x. path layout scheme s x) (sym g) ∙ path-two layout scheme s d ranks m a over ∙ ap (λ x. s ∷ m ∷ a ∷ x ∷ []) g ∙ ap (λ xs. xs ++ b ∷ []) (sym (path-two_begin layout scheme s d ranks m a over))
  ]

  -- the path to the first rank of a path is the link to it
  pub path_from_root : (s d b : ℕ) → AreRanks layout s d → IsTrue (crosses (path layout scheme s d) s b) → path layout scheme s b ≡ s ∷ b ∷ []
  path_from_root s d b ranks h = elim (crossing layout scheme s d ranks s b h) [
    | is_whole e f g ↦ ap (λ x. path layout scheme s x) (sym g) ∙ path-near layout scheme s d ranks e ∙ ap (λ x. s ∷ x ∷ []) g
    | into_one f over ↦ path-near layout scheme s b (onto layout s d b ranks over.m_within) over.early
    | out_of_one over g ↦ absurd (over.s_m refl)
    | into_first k f over ↦ path-near layout scheme s b (onto layout s d b ranks over.m_within) over.early
    | first_to_second over ↦ absurd (over.s_m refl)
    | out_of_second m over g ↦ absurd (over.s_k refl)
  ]

  -- up to a rank on the path it is the path to there
  pub begin_is_path : (s d r : ℕ) → AreRanks layout s d → IsTrue (passes (path layout scheme s d) r) → r ≢ s → IsPrefix (path layout scheme s r) (path layout scheme s d)
  begin_is_path s d r ranks h on = elim (standing layout scheme s d ranks r h) [
    | is_sender e ↦ absurd (on (sym e))
    | is_destination e ↦ record { rest = []; joined = append-nil (path layout scheme s r) ∙ ap (λ x. path layout scheme s x) (sym e) }
    | is_between over ↦ record { rest = d ∷ []; joined = ap (λ xs. xs ++ d ∷ []) (path-near layout scheme s r (onto layout s d r ranks over.m_within) over.early) ∙ sym (path-one layout scheme s d ranks r over) }
    | is_first k over ↦ record { rest = k ∷ d ∷ []; joined = ap (λ xs. xs ++ k ∷ d ∷ []) (path-near layout scheme s r (onto layout s d r ranks over.m_within) over.early) ∙ sym (path-two layout scheme s d ranks r k over) }
    | is_second m over ↦ record { rest = d ∷ []; joined = ap (λ xs. xs ++ d ∷ []) (path-two_begin layout scheme s d ranks m r over) ∙ sym (path-two layout scheme s d ranks m r over) }
  ]

-- as the public functions state it
pub ruleset tree = (some_parent, one_parent, root)

pub ruleset growth = (path_by_parent, path_from_root, begin_is_path)
