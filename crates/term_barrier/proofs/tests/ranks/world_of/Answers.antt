use Rattle.std.proofs.Common.{◌≡◌, ◌∙◌, ℕ, None, Some, List, [], ◌∷◌, ◌++◌, length, slice_get, refl, sym, subst, rules}
use Rattle.list_facts.proofs.Places.{each_place_more}
use Rattle.world_core.specs.Plain.{fresh_links}
use Rattle.comm_rank.specs.Rank.{fresh_rank}
use Rattle.term_barrier.specs.declared.tests.ranks.Member.{Member}
use Rattle.term_barrier.specs.Barriers.{fresh_barrier}
use Rattle.term_barrier.proofs.tests.ranks.Standing.{all_new}
use Rattle.term_barrier.proofs.tests.ranks.world_of.Goals as goal

pub loop-here-preserved : goal.loop-here-preserved
loop-here-preserved c =
    let before = c.loop-here.members.items in
    let new = c.in_ok-member_of.field-0 in
    let layout = c.args.layout in
    let limits = c.args.limits in
    let P : ℕ → Member (List ℕ) → Type 0 = λ rank member.
    (member.comm ≡ fresh_rank layout c.args.scheme rank limits.letters [] None) × (member.barrier ≡ fresh_barrier layout rank limits.rounds) in
    let Each : List (Member (List ℕ)) → Type 0 = λ members.
    (rank : ℕ) (member : Member (List ℕ)) → slice_get members rank ≡ Some member → P rank member in
    let items : c.push.new.self.items ≡ before ++ new ∷ [] = search rules in
    let made : P c.loop-here.here new = (c.in_ok-member_of.ensures.rank, c.in_ok-member_of.ensures.barrier) in
    let last = subst (λ rank. P rank new) (sym c.loop-here.invariant.all) made in
    record {
      all = search rules;
      each = subst Each (sym items) (each_place_more P before new c.loop-here.invariant.each last);
    }

pub invariant_of-result : goal.invariant_of-result
invariant_of-result c =
    let layout = c.args.layout in
    let limits = c.args.limits in
    let members = c.loop-here.members.items in
    let all : length members ≡ layout.ranks = search rules in
    let ring = c.args.ring in
    let links : c.in_ok-links-2.links.value ≡ fresh_links layout c.args.scheme ring limits.batches =
    c.in_ok-links-2.ensures ∙ c.in_ok-links.ensures in
    rw links (refl, all, all_new _ _ layout c.args.scheme limits.letters limits.rounds ring limits.batches [] members refl all c.loop-here.invariant.each)
