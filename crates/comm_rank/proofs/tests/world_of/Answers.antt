use Rattle.std.proofs.Common.{◌≡◌, ◌∙◌, ℕ, None, Some, List, [], ◌∷◌, ◌++◌, length, slice_get, refl, sym, subst, rules}
use Rattle.list_facts.proofs.Places.{each_place_more}
use Rattle.world_core.specs.Plain.{fresh_links}
use Rattle.comm_rank.specs.Rank.{Rank, fresh_rank}
use Rattle.comm_rank.proofs.tests.Standing.{all_new}
use Rattle.comm_rank.proofs.tests.world_of.Goals as goal

pub loop-here-preserved : goal.loop-here-preserved
loop-here-preserved c =
    let before = c.loop-here.comms.items in
    let new = c.in_ok-rank_of.field-0 in
    let P : ℕ → Rank (List ℕ) → Type 0 = λ rank me. me ≡ fresh_rank c.args.layout c.args.scheme rank c.args.limits.letters [] None in
    let Each : List (Rank (List ℕ)) → Type 0 = λ comms. (rank : ℕ) (me : Rank (List ℕ)) → slice_get comms rank ≡ Some me → P rank me in
    let items : c.push.new.self.items ≡ before ++ new ∷ [] = search rules in
    record {
      all = search rules;
      each = subst Each (sym items) (each_place_more P before new c.loop-here.invariant.each (subst (λ rank. P rank new) (sym c.loop-here.invariant.all) c.in_ok-rank_of.ensures.made));
    }

pub invariant_of-result : goal.invariant_of-result
invariant_of-result c =
    let layout = c.args.layout in
    let scheme = c.args.scheme in
    let most = c.args.limits.letters in
    let batches = c.args.limits.batches in
    let all : length c.loop-here.comms.items ≡ layout.ranks = search rules in
    let links : c.in_ok-links-2.links.value ≡ fresh_links layout scheme c.args.ring batches = c.in_ok-links-2.ensures ∙ c.in_ok-links.ensures in
    rw links (refl, all, all_new _ _ layout scheme most c.args.ring batches [] None c.loop-here.comms.items refl all c.loop-here.invariant.each)
