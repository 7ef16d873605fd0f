-- Ranks stay ready at their links: where one is added, makes a call or takes a turn.
use Rattle.std.proofs.Common.{◌≡◌, ◌≢◌, ℕ, ◌+◌, ◌<◌, ◌≤◌, false, IsTrue, None, Some, List, [], ◌∷◌, ◌++◌, length, get_or, replicate, set, slice_get, sym, ap, ◌∙◌, subst, lt-ltb, inl, inr, arith, length-append, length-set}
use Rattle.std.proofs.lemmas.Bool.{cases_eq, cases_lt}
use Rattle.std.proofs.lemmas.List.{get_or-replicate, get_or_past, length-replicate}
use Rattle.std.proofs.lemmas.Option.{slice_get-get_or}
use Rattle.list_facts.proofs.Places.{each_place_more, item_kept, item_placed}
use Rattle.world_core.specs.declared.entry.Entry.{Entry}
use Rattle.ygm_route.specs.declared.scheme.Scheme.{Scheme}
use Rattle.ygm_route.specs.Layout.{Shape}
use Rattle.world_core.specs.Plain.{fresh_links, state_of}
use Rattle.world_core.specs.Post.{PostState, SamePost}
use Rattle.comm_rank.specs.Agrees.{Agrees, PutsData}
use Rattle.comm_rank.specs.Fold.{Applies}
use Rattle.comm_rank.specs.Rank.{IsSameRank, Rank, fresh_rank}
use Rattle.shard_rig.specs.Ready.{AreReady, IsReady}

module _ {C : Type 0} (apply : Applies C) (start : C → C) where
  -- a rank, while another one took a turn
  other_ready : (me : Rank C) (rank : ℕ) (old new : PostState) → me.here ≢ rank → SamePost rank old new → IsReady apply start me old → IsReady apply start me new
  other_ready me rank old new ne same ready =
      let log = sym (same.other_logs me.here ne) in
      let belongs = ready.belongs in
      record {
        belongs = record {
          serves = same.serves me.here ∙ belongs.serves;
          layout = same.layout ∙ belongs.layout;
          scheme = same.scheme ∙ belongs.scheme;
          agrees = subst (Agrees apply start me) log belongs.agrees;
        };
        data_alone = subst PutsData log ready.data_alone;
      }

  -- a rank that made a call
  pub called : (me now : Rank C) (post : PostState) → IsSameRank me now → ((log : List Entry) → Agrees apply start me log → Agrees apply start now log) → IsReady apply start me post → IsReady apply start now post
  called me now post same agrees ready =
      let belongs = ready.belongs in
      let here : me.here ≡ now.here = sym same.here in
      record {
        belongs = record {
          serves = subst (λ rank. IsTrue (post.serves rank)) here belongs.serves;
          layout = belongs.layout ∙ sym same.layout;
          scheme = belongs.scheme ∙ sym same.scheme;
          agrees = subst (λ rank. Agrees apply start now (post.log rank)) here (agrees (post.log me.here) belongs.agrees);
        };
        data_alone = subst (λ rank. PutsData (post.log rank)) here ready.data_alone;
      }

  -- a rank that was made, at links where it did nothing
  pub new_ready : (now : Rank C) (layout : Shape) (scheme : Scheme) (here most : ℕ) (contents : C) (post : PostState) → now ≡ fresh_rank layout scheme here most contents None → Agrees apply start now [] →
      IsTrue (post.serves here) → post.layout ≡ layout → post.scheme ≡ scheme → post.log here ≡ [] → (now.here ≡ here) × IsReady apply start now post
  new_ready now layout scheme here most contents post is agrees serves same_layout same_scheme none =
      let at : now.here ≡ here = ap (λ (me : Rank C). me.here) is in
      let log : [] ≡ post.log now.here = sym (ap post.log at ∙ none) in (
        at,
        record {
          belongs = record {
            serves = ap post.serves at ∙ serves;
            layout = same_layout ∙ sym (ap (λ (me : Rank C). me.layout) is);
            scheme = same_scheme ∙ sym (ap (λ (me : Rank C). me.scheme) is);
            agrees = subst (Agrees apply start now) log agrees;
          };
          data_alone = subst PutsData log tt;
        },
      )

  -- no rank yet, at new links
  pub none_added : (layout : Shape) (scheme : Scheme) (ring batches : ℕ) → AreReady apply start [] (state_of (fresh_links layout scheme ring batches))
  none_added layout scheme ring batches = record {
    each = λ rank me e. absurd cc;
    not_added = λ rank later. elim (cases_lt rank layout.ranks) [
      | inl within ↦ get_or-replicate layout.ranks rank [] [] within
      | inr past ↦ get_or_past (replicate layout.ranks []) rank [] (omega (arith, past, length-replicate {A = List Entry} layout.ranks []))
    ];
  }

  module _ (ranks : List (Rank C)) (old : PostState) (all : AreReady apply start ranks old) where
    -- the rank at a place
    pub at_place : (rank : ℕ) (me : Rank C) → rank < length ranks → me ≡ get_or ranks rank me → (me.here ≡ rank) × (me.stopped ≡ false → IsReady apply start me old)
    at_place rank me within is = all.each rank me (slice_get-get_or ranks rank me within ∙ ap Some (sym is))

    -- one of them changed, and the links with it
    pub all_set : (new : PostState) (rank : ℕ) (now : Rank C) → rank < length ranks → now.here ≡ rank → (now.stopped ≡ false → IsReady apply start now new) → SamePost rank old new →
        AreReady apply start (set ranks rank now) new
    all_set new rank now within here ready same = record {
      each = λ other a e. elim (cases_eq other rank) [
        | inl is ↦
            let P : Rank C → Type 0 = λ me. (me.here ≡ other) × (me.stopped ≡ false → IsReady apply start me new) in
            subst P (item_placed ranks rank other a now is e) (here ∙ sym is, ready)
        | inr ne ↦
            let at = all.each other a (sym (item_kept ranks rank other now ne) ∙ e) in
            (at.0, λ going. other_ready a rank old new (λ i. ne (sym at.0 ∙ i)) same (at.1 going))
      ];
      not_added = λ other later.
          let past : length ranks ≤ other = omega (arith, later, length-set ranks rank now) in
          same.other_logs other (λ is. omega (arith, is, past, within)) ∙ all.not_added other past;
    }

    -- one more
    pub all_added : (now : Rank C) → now.here ≡ length ranks → IsReady apply start now old → AreReady apply start (ranks ++ now ∷ []) old
    all_added now here ready = record {
      each = each_place_more (λ rank me. (me.here ≡ rank) × (me.stopped ≡ false → IsReady apply start me old)) ranks now all.each (here, λ going. ready);
      not_added = λ rank later. all.not_added rank (omega (arith, later, length-append ranks (now ∷ [])));
    }
