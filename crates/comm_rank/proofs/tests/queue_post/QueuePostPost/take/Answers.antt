use Rattle.std.proofs.Common.{◌≡◌, ◌<◌, ◌++◌, [], ◌∷◌, map, sym, ap, ◌∙◌, subst, rules}
use Rattle.std.specs.Bool.{IsTrue}
use Rattle.world_core.specs.declared.entry.Entry.TheVariants.{Took}
use Rattle.world_core.specs.Plain.{Plain, state_of}
use Rattle.world_core.specs.Post.{TookBatch}
use Rattle.world_core.specs.World.{link}
use Rattle.comm_rank.specs.declared.tests.queue_post.Parcel.{Parcel}
use Rattle.comm_rank.proofs.tests.queue_post.Queued.{from_is, next, one, shown, took, took_link}
use Rattle.comm_rank.proofs.tests.queue_post.QueuePostPost.take.Goals as goal

batches : (c : goal.After-push_reserved) → link (one c.self.inside.layout c.self.inside.log.items) 0 0 ≡ c.in-Some.batch ∷ map (λ (p : Parcel). p.batch) c.pop_front.new.self.items
batches c =
    let queue : c.self.inside.queue.items ≡ record { batch = c.in-Some.batch; letters = c.in-Some.letters } ∷ c.pop_front.new.self.items = search rules in
    sym c.self.invariant.2 ∙ ap (map (λ (p : Parcel). p.batch)) queue

copies : (c : goal.After-push_reserved) → link (one c.self.inside.layout c.self.inside.log.items) 0 0 ≡ c.in-Some.letters ∷ map (λ (p : Parcel). p.letters) c.pop_front.new.self.items
copies c =
    let queue : c.self.inside.queue.items ≡ record { batch = c.in-Some.batch; letters = c.in-Some.letters } ∷ c.pop_front.new.self.items = search rules in
    sym c.self.invariant.2 ∙ sym c.self.invariant.3 ∙ ap (map (λ (p : Parcel). p.letters)) queue

same : (c : goal.After-push_reserved) → c.in-Some.letters ≡ c.in-Some.batch
same c = let b = batches c in let l = copies c in cc

pub invariant_of-self-2 : goal.invariant_of-self-2
invariant_of-self-2 c =
    let s = c.self.inside in
    let inv = c.self.invariant in
    let b = batches c in
    let l = copies c in
    let sender = subst (λ (p : Plain). c.args.from < p.world.layout.ranks) (sym c.self.view_is) c.requires.sender in
    let from : c.args.from ≡ 0 = from_is s.layout inv.0 s.log.items c.args.from sender in
    let items : c.push_reserved.new.self.items ≡ s.log.items ++ Took 0 c.in-Some.batch ∷ [] = search (rules, same c, from) in
    let rest : map (λ (p : Parcel). p.letters) c.pop_front.new.self.items ≡ map (λ (p : Parcel). p.batch) c.pop_front.new.self.items = cc in
    let world = c.taking_the_next_batch_keeps_a_sound_world.ensures (one s.layout s.log.items) 0 0 c.in-Some.batch inv.1 (next s.layout inv.0 s.log.items c.in-Some.batch _ b) in
    rw items (inv.0, world, sym (took_link s.layout inv.0 s.log.items c.in-Some.batch _ b), rest, search rules)

pub returns-clause-took : goal.returns-clause-took
returns-clause-took c =
    let s = c.self.inside in
    let here = c.args._here in
    let from = c.args.from in
    let batch = c.in-Some.field-0.batch in
    let after = c.push_reserved.new.self.items in
    let served = subst (λ p. IsTrue ((state_of p).serves here)) (sym c.self.view_is) c.requires.serves in
    let items : after ≡ s.log.items ++ Took from batch ∷ [] = search (rules, same c) in
    let P : Plain → Type 0 = λ p. TookBatch here from batch (state_of p) (state_of (shown s.layout after s.raised s.fulls s.misses s.halts)) in
    subst P c.self.view_is (took s.layout c.self.invariant.0 s.log.items s.raised s.fulls s.misses s.halts here served from batch after items (invariant_of-self-2 c).1)
