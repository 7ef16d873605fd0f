-- Only tests cite this module: a rank that sends letters of its own, and passes on by hand those that it takes for others.
use Rattle.std.specs.Prelude.{◌≡◌, ◌≢◌, ℕ, ◌<◌, true, Option, Some, None, List, [], ◌∷◌, ◌++◌}
use Rattle.msg_codec.specs.declared.letter.Letter.{Letter}
use Rattle.ygm_route.specs.declared.scheme.Scheme.{Scheme}
use Rattle.ygm_route.specs.Layout.{Shape}
use Rattle.world_core.specs.Counts.{counts}
use Rattle.world_core.specs.Pairs.{is_data, of_pair, own_count, pair_put, pair_taken}
use Rattle.mail_table.specs.Table.{PassState}

-- the letters of a batch that waits to be passed on
abbrev pub letters_in : Option (List Letter) → List Letter
letters_in None = []
letters_in (Some batch) = batch

-- a data letter between two other ranks
pub record IsForOthers (layout : Shape) (here : ℕ) (l : Letter) : Type 0 where
  pub tagged : is_data l ≡ true
  pub to_within : l.to < layout.ranks
  pub from_within : l.from < layout.ranks
  pub not_from : l.from ≢ here
  pub not_to : l.to ≢ here

abbrev pub MayPassOn : Shape → ℕ → Option (List Letter) → Type 0
MayPassOn layout here None = Unit {0}
MayPassOn layout here (Some batch) = (l : Letter) × (batch ≡ l ∷ []) × IsForOthers layout here l

-- The rank put no Count. Of two other ranks it passed on all that it took, but for the batch that waits.
pub record Carries (layout : Shape) (scheme : Scheme) (pass : PassState) (sent : ℕ) (waiting : Option (List Letter)) : Type 0 where
  pub layout_is : pass.settings.layout ≡ layout
  pub scheme_is : pass.settings.scheme ≡ scheme
  pub within : pass.rank < layout.ranks
  pub sent_is : own_count pass.rank pass.log ≡ sent
  pub uncounted : counts pass.log ≡ 0
  pub passed_on : (s d : ℕ) → s ≢ pass.rank → d ≢ pass.rank → pair_taken s d pass.log ≡ pair_put s d pass.log ++ of_pair s d (letters_in waiting)
  pub may_pass_on : MayPassOn layout pass.rank waiting

-- a carrier, how many letters it got, and how many it sent
pub record CarrierState : Type 0 where
  pub pass : PassState
  pub layout : Shape
  pub sent : ℕ
  pub got : ℕ

-- its pass stays that of its rank and its table
pub record SameCarrier (old new : CarrierState) : Type 0 where
  pub table : new.pass.table ≡ old.pass.table
  pub settings : new.pass.settings ≡ old.pass.settings
  pub rank : new.pass.rank ≡ old.pass.rank
  pub layout : new.layout ≡ old.layout
