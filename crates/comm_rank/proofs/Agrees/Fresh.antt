-- A rank that has sent and run nothing agrees with an empty log, and belongs to new links.
use Rattle.std.proofs.Common.{◌≡◌, ℕ, zero, suc, ◌<◌, Bool, true, false, not, ◌&&◌, nat_eq, List, [], drop, replicate, refl, sym, ap, ◌∙◌, subst, lt-ltb, arith, if◌then◌else◌}
use Rattle.std.proofs.lemmas.List.{get_or-replicate}
use Rattle.ygm_route.specs.declared.scheme.Scheme.{Scheme}
use Rattle.ygm_route.specs.Layout.{Shape}
use Rattle.msg_codec.specs.declared.letter.Letter.{Letter}
use Rattle.send_buffers.specs.Buffers.{empty_queue, queued}
use Rattle.world_core.specs.Local.{Local, is_rank, local_rank, to_forward}
use Rattle.world_core.specs.Counts.{count_taken}
use Rattle.world_core.specs.Modest.{AreInTurn, IsModest}
use Rattle.world_core.specs.Pairs.{of_pair, sent_number}
use Rattle.world_core.specs.Plain.{fresh_links, state_of}
use Rattle.world_core.specs.World.{log_of}
use Rattle.world_core.proofs.Pairs.Numbers.{run_number-nil, sent_number-nil}
use Rattle.list_facts.proofs.Prefix.{suffix_refl}
use Rattle.list_facts.proofs.Sublist.{sublist_nil}
use Rattle.list_facts.proofs.Sums.{sum_upto-zero}
use Rattle.comm_rank.specs.Agrees.{Agrees, Belongs}
use Rattle.comm_rank.specs.Fold.{Applies}
use Rattle.comm_rank.specs.Rank.{fresh_rank}
use Rattle.ygm_taps.specs.Heard.{Heard}

pub no_letters : (n : ℕ) → queued (replicate n empty_queue) ≡ []
no_letters zero = refl
no_letters (suc n) = no_letters n

-- an empty log has nothing to forward
none_to_forward : (layout : Shape) (scheme : Scheme) (here s d : ℕ) → to_forward (local_rank layout scheme here []) s d ≡ []
unfolding to_forward
none_to_forward layout scheme here s d = by_test (is_rank layout s && is_rank layout d && not (nat_eq here s) && not (nat_eq here d))
  where
    by_test : (b : Bool) → (let none : List Letter = [] in if b then drop 0 none else []) ≡ []
    by_test true = refl
    by_test false = refl

-- an empty log took no control letters
in_turn_fresh : (layout : Shape) (scheme : Scheme) (here : ℕ) → AreInTurn (local_rank layout scheme here [])
unfolding count_taken
in_turn_fresh layout scheme here = record {
  few_sent = λ q. omega (arith, sum_upto-zero layout.ranks);
  few_run = λ q. omega (arith, sum_upto-zero layout.ranks);
  counts_in_order = λ from. tt;
  totals_in_order = λ from. tt;
  in_turn = λ k from letters h. absurd cc;
}

pub agrees_fresh : {C : Type 0} (apply : Applies C) (start : C → C) (layout : Shape) (scheme : Scheme) (here most : ℕ) (contents : C) (heard : Heard) → start contents ≡ contents →
    Agrees apply start (fresh_rank layout scheme here most contents heard) []
agrees_fresh apply start layout scheme here most contents heard fresh =
    let none : queued (replicate layout.ranks empty_queue) ≡ [] = no_letters layout.ranks in
    let me : Local = local_rank layout scheme here [] in
    let modest : IsModest me = record { few = omega (arith, run_number-nil here); lawful = tt; on_path = λ from. tt; control = in_turn_fresh layout scheme here } in
    record {
      nothing_waits = refl;
      forwards = record { held = λ from to other. ap (of_pair from to) none ∙ sym (none_to_forward layout scheme here from to); no_more_put = λ from to other. omega arith };
      sent_count = omega (arith, ap (sent_number here) none, sent_number-nil here);
      run_count = refl;
      contents = sym fresh;
      given_is_sent = λ to. sublist_nil _;
      modest = modest;
      controls = suffix_refl [];
      served = λ q to some. absurd (omega (arith, some));
    }

-- ---- at new links

module _ {C : Type 0} (apply : Applies C) (start : C → C) (layout : Shape) (scheme : Scheme) (most ring batches : ℕ) (contents : C) (heard : Heard) (fresh : start contents ≡ contents) (rank : ℕ) (within : rank < layout.ranks) where
  pub none_new : log_of (fresh_links layout scheme ring batches).world rank ≡ []
  none_new = get_or-replicate layout.ranks rank [] [] within

  pub belongs_new : Belongs apply start (fresh_rank layout scheme rank most contents heard) (state_of (fresh_links layout scheme ring batches))
  belongs_new = record {
    serves = lt-ltb _ _ within;
    layout = refl;
    scheme = refl;
    agrees = subst (Agrees apply start (fresh_rank layout scheme rank most contents heard)) (sym none_new) (agrees_fresh apply start layout scheme rank most contents heard fresh);
  }
