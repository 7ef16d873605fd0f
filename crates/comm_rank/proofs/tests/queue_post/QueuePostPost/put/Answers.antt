use Rattle.std.proofs.Common.{◌≡◌, ◌<◌, ◌^◌, ◌++◌, None, [], ◌∷◌, map, sym, ap, ◌∙◌, subst, rules}
use Rattle.std.proofs.lemmas.List.{map-append}
use Rattle.std.specs.Bool.{IsTrue}
use Rattle.world_core.specs.declared.entry.Entry.TheVariants.{Put}
use Rattle.world_core.specs.Plain.{Plain, state_of}
use Rattle.world_core.specs.Post.{PutFoundFull, local_at}
use Rattle.world_core.specs.Rules.{first_broken}
use Rattle.world_core.specs.Rules.Deed.{Puts}
use Rattle.world_core.specs.World.{local}
use Rattle.comm_rank.specs.declared.tests.queue_post.Parcel.{Parcel}
use Rattle.comm_rank.proofs.tests.queue_post.Queued.{found_full, here_is, one, put_link, shown, to_is}
use Rattle.comm_rank.proofs.tests.queue_post.QueuePostPost.put.Goals as goal

pub returns-then-len-ge2-clause-full : goal.returns-then-len-ge2-clause-full
returns-then-len-ge2-clause-full c =
    let s = c.self.inside in
    let inv = c.self.invariant in
    let here = c.args._here in
    let served : IsTrue ((state_of (shown s.layout s.log.items s.raised s.fulls s.misses s.halts)).serves here) = subst (λ p. IsTrue ((state_of p).serves here)) (sym c.self.view_is) c.requires.serves in
    let honest = subst (λ p. first_broken (local_at (state_of p) here) (Puts c.args.to c.args.batch) ≡ None) (sym c.self.view_is) c.requires.honest in
    let few : s.fulls < 2 ^ 64 = search rules in
    let now = c.saturating_add-self-inside.result in
    let P : Plain → Type 0 = λ p. PutFoundFull here c.args.to (state_of p) (state_of (shown s.layout s.log.items s.raised now s.misses s.halts)) in
    subst P c.self.view_is
    (found_full s.layout inv.0 s.log.items s.raised s.fulls s.misses s.halts here served c.args.to c.args.batch now honest few c.saturating_add-self-inside.ensures)

pub invariant_of-self-2 : goal.invariant_of-self-2
invariant_of-self-2 c =
    let s = c.self.inside in
    let inv = c.self.invariant in
    let here = c.args._here in
    let batch = c.args.batch in
    let served = subst (λ p. IsTrue ((state_of p).serves here)) (sym c.self.view_is) c.requires.serves in
    let honest = subst (λ p. first_broken (local_at (state_of p) here) (Puts c.args.to batch) ≡ None) (sym c.self.view_is) c.requires.honest in
    let at = here_is s.layout inv.0 s.log.items here served in
    let to = to_is s.layout inv.0 s.log.items here c.args.to batch honest in
    let allowed : first_broken (local (one s.layout s.log.items) 0) (Puts 0 batch) ≡ None =
    subst (λ h. first_broken (local (one s.layout s.log.items) h) (Puts 0 batch) ≡ None) at (subst (λ t. first_broken (local (one s.layout s.log.items) here) (Puts t batch) ≡ None) to honest) in
    let world = c.an_honest_put_keeps_a_sound_world.ensures (one s.layout s.log.items) 0 0 batch inv.1 allowed in
    let letters : c.in-Ok.letters ≡ batch = c.in-Ok.ensures in
    let copied : c.in-Ok-copy.copied ≡ batch = c.in-Ok-copy.ensures ∙ letters in
    let items : c.push_reserved.new.self.items ≡ s.log.items ++ Put 0 batch ∷ [] = search (rules, copied, to) in
    let queue : c.push_back_reserved.new.self.items ≡ s.queue.items ++ record { batch = batch; letters = c.in-Ok.letters } ∷ [] = search rules in
    let batches : map (λ (p : Parcel). p.batch) (s.queue.items ++ record { batch = batch; letters = c.in-Ok.letters } ∷ []) ≡ map (λ (p : Parcel). p.batch) s.queue.items ++ batch ∷ [] = map-append _ _ _ in
    let copies : map (λ (p : Parcel). p.letters) (s.queue.items ++ record { batch = batch; letters = c.in-Ok.letters } ∷ []) ≡ map (λ (p : Parcel). p.letters) s.queue.items ++ c.in-Ok.letters ∷ [] = map-append _ _ _ in
    rw (items, queue) (
      inv.0,
      world,
      batches ∙ ap (λ xs. xs ++ batch ∷ []) inv.2 ∙ sym (put_link s.layout inv.0 s.log.items inv.1 batch),
      copies ∙ ap (λ xs. xs ++ c.in-Ok.letters ∷ []) inv.3 ∙ ap (λ l. map (λ (p : Parcel). p.batch) s.queue.items ++ l ∷ []) letters ∙ sym batches,
      search rules,
    )
