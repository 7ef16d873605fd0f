-- What is known of ranks: at the start, after a load, and as views are cut and joined.
use Rattle.std.specs.Prelude.{ℕ, ◌+◌, false, None, List, [], ◌∷◌, ◌++◌, replicate, slice_index_or, slice_set}
use Rattle.ygm_route.specs.declared.scheme.Scheme.TheVariants.{Direct}
use Rattle.mail_table.specs.declared.settings.Settings.{Settings}
use Rattle.mail_table.specs.declared.views.Loads.{Loads}
use Rattle.mail_table.specs.declared.views.RankView.{RankView}
use Rattle.mail_table.specs.declared.views.View.{View}

-- ---- loads

abbrev pub no_loads : Loads
no_loads = record { count = 0; last = 0 }

-- one load more, with the value found
abbrev pub loaded : Loads → ℕ → Loads
loaded loads found = record { count = loads.count + 1; last = found }

-- the loads of one of several words, and one load more of it
abbrev pub loads_at : List Loads → ℕ → Loads
loads_at words rank = slice_index_or words rank no_loads

abbrev pub loaded_at : List Loads → ℕ → ℕ → List Loads
loaded_at words rank found = slice_set words rank (loaded (loads_at words rank) found)

-- ---- views

-- a rank that did nothing yet, of so many
abbrev pub fresh_rank : ℕ → RankView
fresh_rank ranks = record {
  log = [];
  raised = false;
  heads = replicate ranks no_loads;
  tails = replicate ranks no_loads;
  stop = no_loads;
  filling = None;
  emptying = None;
}

-- the view of the seat that makes all passes, at first
abbrev pub fresh_view : Settings → View
fresh_view settings = record { settings = settings; first = 0; ranks = replicate settings.layout.ranks (fresh_rank settings.layout.ranks) }

-- the first rank of a view, and the others
abbrev pub first_rank : List RankView → RankView
first_rank [] = fresh_rank 0
first_rank (rank ∷ ranks) = rank

abbrev pub other_ranks : List RankView → List RankView
other_ranks [] = []
other_ranks (rank ∷ ranks) = ranks

abbrev pub mine : View → RankView
mine view = first_rank view.ranks

-- the view with this in the place of its ranks
abbrev pub knowing : View → RankView → View
knowing view rank = record view { ranks = rank ∷ [] }

-- how a view is cut in two: its first rank, and the others
abbrev pub first_part : View → View
first_part view = record view { ranks = mine view ∷ [] }

abbrev pub other_part : View → View
other_part view = record view { first = view.first + 1; ranks = other_ranks view.ranks }

-- two views as one, where the ranks of the second come next; a seat whose view was joined to another has no rank
abbrev pub joined : View → View → View
joined view other = record view { ranks = view.ranks ++ other.ranks }

abbrev pub spent : View
spent = record {
  settings = record { layout = record { ranks = 0; cores = 0 }; scheme = Direct; ring = 0; batches = 0 };
  first = 0;
  ranks = [];
}
