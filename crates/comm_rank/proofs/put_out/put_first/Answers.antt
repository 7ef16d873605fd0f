use Rattle.std.proofs.Common.{◌≡◌, ℕ, None, [], ◌∷◌, length, refl, sym, ap, ◌∙◌, subst, arith}
use Rattle.send_buffers.specs.Buffers.{IsBatchFor, Queue}
use Rattle.send_buffers.specs.Calls.{with_batch_back}
use Rattle.send_buffers.proofs.Queued.Steps.{stepped_back}
use Rattle.world_core.specs.declared.entry.Entry.TheVariants.{Put}
use Rattle.world_core.specs.Post.{PostState, PutDone, PutFoundFull, PutHadNoMemory, PutKeeps, batch_back, local_at}
use Rattle.world_core.specs.Rules.{first_broken}
use Rattle.world_core.specs.Rules.Deed.{Puts}
use Rattle.world_core.proofs.Posts.CountsNeverFall.{after_put_done, after_put_full, after_put_no_memory}
use Rattle.comm_rank.proofs.Moves.OnePut.{all_unchanged, batch_in_place, found_full, had_no_memory, moved_none, moved_one, others_unchanged, puts_keep, some_held, unbroken_put}
use Rattle.comm_rank.proofs.Store.Loses.{loses_batch}
use Rattle.comm_rank.proofs.Store.SameStore.{in_place_then}
use Rattle.comm_rank.proofs.put_out.put_first.Goals as goal

pub put-requires-clause-honest : goal.put-requires-clause-honest
put-requires-clause-honest g c =
    let before = c.args.held.now in
    let after = c.next_out.new.self in
    let old : PostState = g.P.Post.state c.args.post.now in
    let out = c.in-Some.ensures.some in
    let P : ℕ → Type 0 = λ h. first_broken (local_at old h) (Puts c.args.to c.in-Some.batch) ≡ None in
    subst P (sym c.requires.here)
    (unbroken_put before after c.args.to c.in-Some.batch old c.holds.ensures.routed c.requires.within out (loses_batch before after c.args.to c.in-Some.batch c.holds.ensures.routed out) c.requires.may_put)

-- the batch that comes back is the one that was handed out
pub step_back-requires-clause-routed : goal.step_back-requires-clause-routed
step_back-requires-clause-routed g c =
    let back = ap batch_back (sym c.in-Err-Full.field-0-is) ∙ c.in-Err-Full.ensures.back in
    subst (IsBatchFor c.next_out.new.self c.args.to) (sym back)
    (batch_in_place c.args.held.now c.next_out.new.self c.args.to c.in-Some.batch c.next_out.ensures.place c.in-Some.ensures.some.routed)

pub step_back-requires-in-Err-NoMemory-clause-routed : goal.step_back-requires-in-Err-NoMemory-clause-routed
step_back-requires-in-Err-NoMemory-clause-routed g c =
    let back = ap batch_back (sym c.in-Err-NoMemory.field-0-is) ∙ c.in-Err-NoMemory.ensures.back in
    subst (IsBatchFor c.next_out.new.self c.args.to) (sym back)
    (batch_in_place c.args.held.now c.next_out.new.self c.args.to c.in-Some.batch c.next_out.ensures.place c.in-Some.ensures.some.routed)

pub returns-in-Ok-clause-put : goal.returns-in-Ok-clause-put
returns-in-Ok-clause-put g c =
    let before = c.args.held.now in
    let after = c.next_out.new.self in
    let old : PostState = g.P.Post.state c.args.post.now in
    let new : PostState = g.P.Post.state c.put.new.self in
    let batch = c.in-Some.batch in
    let out = c.in-Some.ensures.some in
    let done : PutDone before.here c.args.to batch old new = subst (λ h. PutDone h c.args.to batch old new) c.requires.here c.in-Ok.ensures.done in
    let keeps : PutKeeps before.here old new = subst (λ h. PutKeeps h old new) c.requires.here c.put.ensures.keeps in
    record {
      placed = Put c.args.to batch ∷ [];
      moved = moved_one before after c.args.to batch old new c.holds.ensures.routed c.requires.within out c.next_out.ensures.place
          (loses_batch before after c.args.to batch c.holds.ensures.routed out) done.log
          (puts_keep before.here old new keeps (after_put_done before.here c.args.to batch old new keeps done)) c.requires.may_put;
      count = refl;
      one = (omega (arith, ap (λ (queue : Queue). length queue.closed) out.oldest), done.fulls);
    }

pub returns-in-Err-Full-clause-put : goal.returns-in-Err-Full-clause-put
returns-in-Err-Full-clause-put g c =
    let before = c.args.held.now in
    let mid = c.next_out.new.self in
    let now = c.step_back.new.self in
    let old : PostState = g.P.Post.state c.args.post.now in
    let new : PostState = g.P.Post.state c.put.new.self in
    let keeps : PutKeeps before.here old new = subst (λ h. PutKeeps h old new) c.requires.here c.put.ensures.keeps in
    let full : PutFoundFull before.here c.args.to old new =
    subst (λ h. PutFoundFull h c.args.to old new) c.requires.here (found_full c.in-Err-Full.field-0 c.in-Err-Full.batch c.in-Err-Full.field-0-is c.in-Err-Full.ensures.full) in
    let back : now.queues ≡ before.queues =
    c.step_back.ensures.back ∙ ap (with_batch_back mid.queues c.args.to) (ap batch_back (sym c.in-Err-Full.field-0-is) ∙ c.in-Err-Full.ensures.back)
    ∙ stepped_back before mid c.args.to c.in-Some.batch c.in-Some.ensures.some in
    record {
      placed = [];
      moved = moved_none before now old new back (in_place_then before mid now c.next_out.ensures.place c.step_back.ensures.place) full.log
          (puts_keep before.here old new keeps (after_put_full before.here c.args.to old new keeps full));
      count = refl;
      one = (record { rose = full.fulls.rose; some = some_held c.args.to before.queues now.queues back c.requires.some }, full.fulls);
    }

pub returns-in-Err-NoMemory-clause-failed : goal.returns-in-Err-NoMemory-clause-failed
returns-in-Err-NoMemory-clause-failed g c =
    let before = c.args.held.now in
    let mid = c.next_out.new.self in
    let again = c.step_back-in-Err-NoMemory in
    let now = again.new.self in
    let old : PostState = g.P.Post.state c.args.post.now in
    let new : PostState = g.P.Post.state c.put.new.self in
    let keeps : PutKeeps before.here old new = subst (λ h. PutKeeps h old new) c.requires.here c.put.ensures.keeps in
    let none : PutHadNoMemory before.here old new =
    subst (λ h. PutHadNoMemory h old new) c.requires.here (had_no_memory c.in-Err-NoMemory.field-0 c.in-Err-NoMemory.batch c.in-Err-NoMemory.field-0-is c.in-Err-NoMemory.ensures.no_memory) in
    let back : now.queues ≡ before.queues =
    again.ensures.back ∙ ap (with_batch_back mid.queues c.args.to) (ap batch_back (sym c.in-Err-NoMemory.field-0-is) ∙ c.in-Err-NoMemory.ensures.back)
    ∙ stepped_back before mid c.args.to c.in-Some.batch c.in-Some.ensures.some in
    record {
      placed = [];
      moved = moved_none before now old new back (in_place_then before mid now c.next_out.ensures.place again.ensures.place) none.log
          (puts_keep before.here old new keeps (after_put_no_memory before.here old new keeps none));
      no_memory = refl;
    }

pub returns-in-Ok-clause-others : goal.returns-in-Ok-clause-others
returns-in-Ok-clause-others g c = others_unchanged c.args.held.now c.next_out.new.self c.args.to c.in-Some.batch c.in-Some.ensures.some

pub returns-in-Err-Full-clause-others : goal.returns-in-Err-Full-clause-others
returns-in-Err-Full-clause-others g c =
    let back : c.step_back.new.self.queues ≡ c.args.held.now.queues =
    c.step_back.ensures.back ∙ ap (with_batch_back c.next_out.new.self.queues c.args.to) (ap batch_back (sym c.in-Err-Full.field-0-is) ∙ c.in-Err-Full.ensures.back)
    ∙ stepped_back c.args.held.now c.next_out.new.self c.args.to c.in-Some.batch c.in-Some.ensures.some in
    all_unchanged c.args.to c.args.held.now.queues c.step_back.new.self.queues back

pub returns-in-Err-NoMemory-clause-others : goal.returns-in-Err-NoMemory-clause-others
returns-in-Err-NoMemory-clause-others g c =
    let again = c.step_back-in-Err-NoMemory in
    let back : again.new.self.queues ≡ c.args.held.now.queues =
    again.ensures.back ∙ ap (with_batch_back c.next_out.new.self.queues c.args.to) (ap batch_back (sym c.in-Err-NoMemory.field-0-is) ∙ c.in-Err-NoMemory.ensures.back)
    ∙ stepped_back c.args.held.now c.next_out.new.self c.args.to c.in-Some.batch c.in-Some.ensures.some in
    all_unchanged c.args.to c.args.held.now.queues again.new.self.queues back
