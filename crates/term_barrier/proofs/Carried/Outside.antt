-- What a rank carries outside a barrier: at first, and as it sends its own letters.
use Rattle.std.proofs.Common.{◌≡◌, ℕ, zero, suc, replicate, ◌+◌, ◌<◌, true, false, not, ◌&&◌, List, [], ◌∷◌, refl, sym, ap, ◌∙◌, subst, inl, arith}
use Rattle.std.proofs.lemmas.Bool.{false≢true}
use Rattle.msg_codec.specs.declared.letter.Letter.{Letter}
use Rattle.ygm_route.specs.declared.scheme.Scheme.{Scheme}
use Rattle.ygm_route.specs.Layout.{Shape}
use Rattle.world_core.specs.declared.entry.Entry.{Entry}
use Rattle.world_core.specs.ControlRules.{is_idle}
use Rattle.send_buffers.specs.Buffers.{empty_queue, queued}
use Rattle.world_core.specs.Pairs.{of_pair}
use Rattle.world_core.specs.Post.{PostState}
use Rattle.comm_rank.specs.Agrees.{Agrees, Belongs, MayTurn}
use Rattle.comm_rank.specs.Fold.{Applies}
use Rattle.comm_rank.specs.Rank.{HasSent, Rank, fresh_rank, held_letters, local_of}
use Rattle.comm_rank.proofs.Agrees.MayTurn.{may_turn_data}
use Rattle.ygm_taps.specs.Heard.{Heard}
use Rattle.term_barrier.specs.Account.{handler_of, with_more}
use Rattle.term_barrier.specs.Barriers.{BarrierAgrees, BarrierState, fresh_barrier}
use Rattle.term_barrier.specs.Carried.{Carries, Phases, own_cuts}
use Rattle.term_barrier.specs.Left.{HasLeft}
use Rattle.term_barrier.specs.Polls.{Stands}
use Rattle.term_barrier.proofs.Account.Sent.{account_fresh, account_sent, more_elsewhere}
use Rattle.term_barrier.proofs.Barriers.Agrees.{agrees_fresh}
use Rattle.term_barrier.proofs.Waited.Outcomes.{stands_inside}

-- a new rank holds no letter
none_held : (n here : ℕ) (to : ℕ) → of_pair here to (queued (replicate n empty_queue)) ≡ []
none_held zero here to = refl
none_held (suc n) here to = none_held n here to

module _ {C : Type 0} (apply : Applies C) (start : C → C) where
  -- ---- a new rank

  pub carries_new : (layout : Shape) (scheme : Scheme) (here most limit : ℕ) (contents : C) (heard : Heard) (rounds : ℕ → ℕ) (post : PostState) →
      Belongs apply start (fresh_rank layout scheme here most contents heard) post → post.log here ≡ [] →
      Carries apply start (λ phase to. []) rounds (fresh_barrier layout here limit) (fresh_rank layout scheme here most contents heard) post
  carries_new layout scheme here most limit contents heard rounds post belongs none =
      let me : Rank C = fresh_rank layout scheme here most contents heard in
      let barrier : BarrierState = fresh_barrier layout here limit in
      record {
        stands = record {
          belongs = belongs;
          may_turn = subst (MayTurn me) (sym none) (may_turn_data me [] tt);
          agrees = subst (λ log. BarrierAgrees barrier [] (local_of me log)) (sym none) (agrees_fresh layout scheme here limit);
        };
        phases = subst (Phases apply start (λ phase to. []) rounds barrier me) (sym none) (record {
          left = λ k lt. absurd (omega (arith, lt));
          account = account_fresh (handler_of apply start me) (own_cuts (local_of me []) rounds) (held_letters me) (none_held layout.ranks here);
          places = λ q since put. absurd (omega (arith, put));
          none_outside = λ outside. omega arith;
          none_later = λ k to lt. refl;
        });
      }

  -- ---- an own letter

  module _ (own : ℕ → ℕ → List Letter) (rounds : ℕ → ℕ) (barrier : BarrierState) (old new : Rank C) (l : Letter) (post : PostState)
      (outside : barrier.inside ≡ false) (sends : HasSent old new l) where
    abbrev log : List Entry
    log = post.log old.here

    abbrev sent : Rank C
    sent = record old { sent_count = old.sent_count + 1; held = new.held }

    stands_sent : Agrees apply start new log → Stands apply start barrier old post → Stands apply start barrier sent post
    stands_sent agrees stands = record {
      belongs = record {
        serves = stands.belongs.serves;
        layout = stands.belongs.layout;
        scheme = stands.belongs.scheme;
        agrees = subst (λ me. Agrees apply start me log) sends.rank agrees;
      };
      may_turn = inl (ap (λ counted. not (counted && is_idle (local_of old log))) (stands.agrees.outside outside));
      agrees = stands.agrees;
    }

    phases_sent : Phases apply start own rounds barrier old log →
        Phases apply start (with_more old.here own barrier.left (l ∷ [])) rounds barrier new log
    phases_sent phases =
        let more = with_more old.here own barrier.left (l ∷ []) in
        record {
          left = subst (λ (me : Rank C). (k : ℕ) → k < barrier.left → HasLeft (local_of me log) k (rounds k)) (sym sends.rank) phases.left;
          account = account_sent apply start own (own_cuts (local_of old log) rounds) barrier.left old new l log sends phases.account;
          places = λ q since put. absurd (omega (arith, since, put, phases.none_outside outside));
          none_outside = phases.none_outside;
          none_later = λ k to lt. more_elsewhere old.here own barrier.left k (l ∷ []) to (λ e. omega (arith, lt, e)) ∙ phases.none_later k to lt;
        }

    pub carries_sent : ((entries : List Entry) → Agrees apply start old entries → Agrees apply start new entries) →
        Carries apply start own rounds barrier old post →
        Carries apply start (with_more old.here own barrier.left (l ∷ [])) rounds barrier new post
    carries_sent agrees carries =
        let more = with_more old.here own barrier.left (l ∷ []) in
        let here : old.here ≡ new.here = sym (ap (λ (me : Rank C). me.here) sends.rank) in
        let stands = carries.stands in
        record {
          stands = subst (λ (me : Rank C). Stands apply start barrier me post) (sym sends.rank)
              (stands_sent (agrees log stands.belongs.agrees) stands);
          phases = subst (λ h. Phases apply start more rounds barrier new (post.log h)) here (phases_sent carries.phases);
        }

  -- ---- it enters

  pub carries_entered : (own : ℕ → ℕ → List Letter) (rounds : ℕ → ℕ) (barrier : BarrierState) (me : Rank C) (post : PostState) →
      Carries apply start own rounds barrier me post →
      Carries apply start own rounds (record barrier { inside = true }) me post
  carries_entered own rounds barrier me post carries =
      let phases = carries.phases in
      record {
        stands = stands_inside apply start barrier me post carries.stands;
        phases = record {
          left = phases.left;
          account = phases.account;
          places = phases.places;
          none_outside = λ outside. absurd (false≢true (sym outside));
          none_later = phases.none_later;
        };
      }
