-- Ranks that belong to links and have put data letters alone: new ones, one that sent or took a turn, and all others.
use Rattle.std.proofs.Common.{◌≡◌, ◌≢◌, ℕ, ◌<◌, false, Some, List, length, set, slice_get, sym, ap, ◌∙◌, subst, inl, inr, arith}
use Rattle.std.proofs.lemmas.Bool.{cases_eq}
use Rattle.std.proofs.lemmas.Option.{slice_get_within}
use Rattle.list_facts.proofs.Places.{item_kept, item_placed}
use Rattle.ygm_route.specs.declared.scheme.Scheme.{Scheme}
use Rattle.ygm_route.specs.Layout.{Shape}
use Rattle.world_core.specs.declared.entry.Entry.{Entry}
use Rattle.world_core.specs.Plain.{Plain, fresh_links, state_of}
use Rattle.world_core.specs.Post.{SamePost}
use Rattle.world_core.specs.World.{log_of}
use Rattle.comm_rank.specs.Agrees.{Agrees, Belongs, PutsData}
use Rattle.comm_rank.specs.Fold.{Applies}
use Rattle.comm_rank.specs.Rank.{IsSameRank, Rank, fresh_rank}
use Rattle.comm_rank.proofs.Agrees.Fresh.{belongs_new, none_new}
use Rattle.ygm_taps.specs.Heard.{Heard}
use Rattle.comm_rank.proofs.Rank.Same.{belongs_still}

module _ {C : Type 0} (apply : Applies C) (start : C → C) where
  abbrev pub Stands : Rank C → Plain → Type 0
  Stands me links = Belongs apply start me (state_of links) × PutsData (log_of links.world me.here)

  -- each rank has the number of its place, and stands at the links unless it is stopped
  abbrev pub AllStand : List (Rank C) → Plain → Type 0
  AllStand comms links = (rank : ℕ) (me : Rank C) → slice_get comms rank ≡ Some me → (me.here ≡ rank) × (me.stopped ≡ false → Stands me links)

  pub stands_sent : (links : Plain) (me now : Rank C) → IsSameRank me now → ((log : List Entry) → Agrees apply start me log → Agrees apply start now log) → Stands me links → Stands now links
  stands_sent links me now same agrees stands = (
    record {
      serves = ap (state_of links).serves same.here ∙ stands.0.serves;
      layout = stands.0.layout ∙ sym same.layout;
      scheme = stands.0.scheme ∙ sym same.scheme;
      agrees = subst (λ here. Agrees apply start now (log_of links.world here)) (sym same.here) (agrees _ stands.0.agrees);
    },
    subst (λ here. PutsData (log_of links.world here)) (sym same.here) stands.1,
  )

  -- another rank took a turn
  stands_still : (me : Rank C) (here : ℕ) (old new : Plain) → me.here ≢ here → SamePost here (state_of old) (state_of new) → Stands me old → Stands me new
  stands_still me here old new other same stands =
      let log : log_of new.world me.here ≡ log_of old.world me.here = same.other_logs me.here other in
      (belongs_still apply start me here (state_of old) (state_of new) same log stands.0, subst (λ xs. PutsData xs) (sym log) stands.1)

  -- one of them changed
  pub all_set : (comms : List (Rank C)) (old new : Plain) (rank : ℕ) (now : Rank C) → AllStand comms old → now.here ≡ rank → (now.stopped ≡ false → Stands now new) →
      SamePost rank (state_of old) (state_of new) → AllStand (set comms rank now) new
  all_set comms old new rank now all here stands same other a e = elim (cases_eq other rank) [
    | inl is ↦
        let Q : Rank C → Type 0 = λ m. (m.here ≡ other) × (m.stopped ≡ false → Stands m new) in
        subst Q (item_placed comms rank other a now is e) (here ∙ sym is, stands)
    | inr ne ↦
        let at = all other a (sym (item_kept comms rank other now ne) ∙ e) in
        (at.0, λ going. stands_still a rank old new (λ here. ne (sym at.0 ∙ here)) same (at.1 going))
  ]

  -- new ones, at new links
  pub all_new : (layout : Shape) (scheme : Scheme) (most ring batches : ℕ) (contents : C) (heard : Heard) (comms : List (Rank C)) → start contents ≡ contents → length comms ≡ layout.ranks →
      ((rank : ℕ) (me : Rank C) → slice_get comms rank ≡ Some me → me ≡ fresh_rank layout scheme rank most contents heard) → AllStand comms (fresh_links layout scheme ring batches)
  all_new layout scheme most ring batches contents heard comms fresh all each rank me e =
      let links = fresh_links layout scheme ring batches in
      let within : rank < layout.ranks = omega (arith, slice_get_within comms rank me e, all) in
      let is = each rank me e in (
        ap (λ (r : Rank C). r.here) is,
        λ going. subst (λ r. Stands r links) (sym is) (
          belongs_new apply start layout scheme most ring batches contents heard fresh rank within,
          subst (λ xs. PutsData xs) (sym (none_new apply start layout scheme most ring batches contents heard fresh rank within)) tt,
        ),
      )
