-- The path of a message: its sender, the next hop from there, and so on until its destination.
use Rattle.std.specs.Prelude.{◌≡◌, ℕ, zero, suc, Bool, ◌&&◌, ◌==◌, if◌then◌else◌, IsTrue, List, [], ◌∷◌, ◌++◌}
use Rattle.std.specs.List.{list_any}
use Rattle.ygm_route.specs.declared.scheme.Scheme.{Scheme}
use Rattle.ygm_route.specs.declared.scheme.Scheme.TheVariants.{Direct, Nr, Nlnr}
use Rattle.ygm_route.specs.Layout.{Shape}
use Rattle.ygm_route.specs.Hop.{hop}

-- the links from a rank to the first of these ranks, from that one to the second, and so on
abbrev pub links_from : ℕ → List ℕ → List (ℕ × ℕ)
links_from here [] = []
links_from here (next ∷ rest) = (here, next) ∷ links_from next rest

-- the links between the ranks of a path
abbrev pub links : List ℕ → List (ℕ × ℕ)
links [] = []
links (first ∷ rest) = links_from first rest

-- whether a path crosses the link from `a` to `b`
abbrev pub crosses : List ℕ → ℕ → ℕ → Bool
crosses ranks a b = list_any (λ link. (link.0 == a) && (link.1 == b)) (links ranks)

-- whether a path passes a rank
abbrev pub passes : List ℕ → ℕ → Bool
passes ranks r = list_any (λ x. x == r) ranks

-- A path begins with its sender and ends with its destination, which isn't between them, and
-- each link leads to the next hop towards the destination. A path to oneself is the link to oneself.
pub record IsPath (layout : Shape) (scheme : Scheme) (from to : ℕ) (ranks : List ℕ) : Type 0 where
  pub between : List ℕ
  pub ends : ranks ≡ from ∷ between ++ to ∷ []
  pub arrives_once : ¬ IsTrue (passes between to)
  pub follows : (a b : ℕ) → IsTrue (crosses ranks a b) → b ≡ hop layout scheme a to

-- the ranks that next hops lead to from here, until the destination, and at most this many
abbrev pub stops : Shape → Scheme → ℕ → ℕ → ℕ → List ℕ
stops layout scheme zero here to = []
stops layout scheme (suc most) here to =
    hop layout scheme here to ∷
    (if hop layout scheme here to == to then [] else stops layout scheme most (hop layout scheme here to) to)

-- the path between two ranks, computed
unfoldable pub path : Shape → Scheme → ℕ → ℕ → List ℕ
path layout scheme from to = from ∷ stops layout scheme layout.ranks from to

-- the most links that a path has
abbrev pub most_links : Scheme → ℕ
most_links Direct = 1
most_links Nr = 2
most_links Nlnr = 3
