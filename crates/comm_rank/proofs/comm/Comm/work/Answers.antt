use Rattle.std.proofs.Common.{◌≡◌, ℕ, IfErr, refl, sym, ap, ◌∙◌, subst, arith, rules}
use Rattle.std.proofs.lemmas.Result.{IfErr-weaker}
use Rattle.ygm_route.specs.Layout.{Shape}
use Rattle.send_buffers.specs.Buffers.{queue_at}
use Rattle.comm_rank.specs.Agrees.{MayTurn}
use Rattle.comm_rank.specs.Moves.{PutAllFailed, PutOut}
use Rattle.comm_rank.proofs.Running.Keeps.{puts_then}
use Rattle.comm_rank.proofs.Rank.Same.{same_rank}
use Rattle.comm_rank.proofs.Turns.Outcomes.{full_then, looked_then, met_then, turned, was_cut}
use Rattle.comm_rank.proofs.comm.Comm.work.Goals as goal

pub put_all-requires-clause-may_turn : goal.put_all-requires-clause-may_turn
put_all-requires-clause-may_turn g c =
    let mid = c.take_all.new.self in
    let M : ℕ → Type 0 = λ h. MayTurn mid ((g.P.Post.state c.take_all.new.post).log h) in
    subst M (sym (same_rank c.args.self.now mid c.take_all.ensures.rank).here) c.in_ok-took.ensures.took.may_turn

pub returns-in_err-put-clause-cut : goal.returns-in_err-put-clause-cut
returns-in_err-put-clause-cut g c =
    let state = g.P.Post.state in
    let old = c.args.self.now in
    let mid = c.take_all.new.self in
    let new = c.put_all.new.self in
    let same = same_rank old mid c.take_all.ensures.rank in
    let there : IfErr c.from_residual-in_err-put.result (PutAllFailed mid new (state c.take_all.new.post) (state c.put_all.new.post)) = search rules in
    IfErr-weaker c.from_residual-in_err-put.result _ _
    (λ fault f.
    let P : ℕ → Type 0 = λ h. PutOut mid new ((state c.take_all.new.post).log h) ((state c.put_all.new.post).log h) f.placed in
    was_cut g.H.Handler.apply old mid new _ _ _ c.in_ok-took.took c.in_ok-took.ensures.took.taken f.placed (subst P same.here f.out) fault f.no_memory) there

pub returns-in_err-put-clause-keeps : goal.returns-in_err-put-clause-keeps
returns-in_err-put-clause-keeps g c =
    puts_then c.args.self.now c.take_all.new.self (same_rank c.args.self.now c.take_all.new.self c.take_all.ensures.rank) _ _ _ c.take_all.ensures.keeps c.put_all.ensures.keeps c.put_all.ensures.honest

pub returns-clause-keeps : goal.returns-clause-keeps
returns-clause-keeps g c =
    puts_then c.args.self.now c.take_all.new.self (same_rank c.args.self.now c.take_all.new.self c.take_all.ensures.rank) _ _ _ c.take_all.ensures.keeps c.put_all.ensures.keeps c.put_all.ensures.honest

pub returns-clause-ended : goal.returns-clause-ended
returns-clause-ended g c =
    let apply = g.H.Handler.apply in
    let state = g.P.Post.state in
    let old = c.args.self.now in
    let mid = c.take_all.new.self in
    let new = c.put_all.new.self in
    let a = state c.args.post.now in
    let b = state c.take_all.new.post in
    let d = state c.put_all.new.post in
    let same = same_rank old mid c.take_all.ensures.rank in
    let takes = c.take_all.ensures.keeps in
    let has = c.in_ok-took.ensures.took in
    let put = c.in_ok-put.ensures.put in
    let puts = c.put_all.ensures.keeps in
    let ranks = ap (λ (l : Shape). l.ranks) same.layout in
    let P : ℕ → Type 0 = λ h. PutOut mid new (b.log h) (d.log h) put.placed in
    record {
      turned = turned apply old mid new _ _ _ c.in_ok-took.took has.taken put.placed (subst P same.here put.out) _ refl put.count;
      belongs = c.put_all.ensures.belongs;
      may_turn = (let M : ℕ → Type 0 = λ h. MayTurn new (d.log h) in subst M same.here c.put_all.ensures.may_turn);
      takes_from_each = λ from within. looked_then old.here mid.here a b d same.here puts.misses put.placed put.out.log put.out.puts from (has.takes_from_each from within);
      puts_to_each = λ to within. met_then a b d takes.fulls to new.held (put.none_or_full to (omega (arith, within, ranks)));
      full = full_then a b d takes.fulls old.layout.ranks mid.layout.ranks ranks new.held _ put.first_full;
      none_held = λ full none gathered.
          let still : (next : ℕ) → (queue_at new.held next).gathered ≡ (queue_at old.held next).gathered = λ next. put.out.same_open next ∙ has.taken.same_open none next in
          put.none_held full (λ next within. still next ∙ gathered next (omega (arith, within, ranks)));
      stops = λ rank. puts.stops rank ∙ takes.work.stops rank;
      halts = puts.halts ∙ takes.work.halts;
    }
