use Rattle.std.proofs.Common.{◌≡◌, ◌<◌, ◌+◌, ◌∙◌, IfErr, length, sym, subst, ap, refl, rules}
use Rattle.std.specs.List.{AllByRecursion}
use Rattle.std.proofs.lemmas.Result.{IfErr-weaker}
use Rattle.msg_codec.specs.Letter.{letter_of}
use Rattle.comm_rank.specs.declared.fault.CommFault.TheVariants.{NoMemory}
use Rattle.comm_rank.specs.Fault.{IfCountFull, IsFullAt, NeverStopped}
use Rattle.comm_rank.specs.Sends.{IsData}
use Rattle.comm_rank.specs.Rank.{Rank}
use Rattle.comm_rank.specs.Running.{IsFirstFor}
use Rattle.comm_rank.proofs.Running.Passed.{made_are, outs_are, ran_first}
use Rattle.comm_rank.proofs.Running.Stuck.{first_cut_short, first_refused, first_untold}
use Rattle.comm_rank.proofs.Running.Waiting.{first_mine}
use Rattle.comm_rank.proofs.comm.Comm.run_first.Goals as goal

pub returns-in_err-run-clause-stuck : goal.returns-in_err-run-clause-stuck
returns-in_err-run-clause-stuck g c =
    let there : IfErr c.from_residual.result (λ fault. fault ≡ NoMemory) = search rules in
    IfErr-weaker c.from_residual.result _ _ (first_refused g.H.Handler.apply _ _ _ c.self.view_is c.in_err-run.ensures.contents_unchanged refl refl refl refl refl) there

pub returns-in_err-sent-clause-stuck : goal.returns-in_err-sent-clause-stuck
returns-in_err-sent-clause-stuck g c =
    let apply = g.H.Handler.apply in
    let i = c.self.inside in
    let l = letter_of c.first-letter.result in
    let ranks : i.out.ranks ≡ i.layout.ranks = c.self.invariant.2 in
    let outs = outs_are apply i.here _ _ i.handler l _ _ ranks c.self.invariant.3 c.in_ok-run.ensures.sent in
    let made = made_are apply i.here _ _ i.handler _ l ranks c.in_ok-run.ensures.contents in
    let lawful = subst (λ n. AllByRecursion (IsData n) c.run.new.out.letters) (c.run.ensures.ranks ∙ ranks) c.cut.ensures.data in
    let e = c.in_err-sent.ensures.part in
    let why : IfErr c.from_residual-in_err-sent.result (λ fault. IsFullAt c.send_out-sent.new.sent.count i.limits.letters fault × IfCountFull fault (λ _. i.limits.letters < i.sent.count + length c.run.new.out.letters) × NeverStopped fault) = search rules in
    IfErr-weaker c.from_residual-in_err-sent.result _ _
    (λ fault w. first_cut_short apply _ _ _ c.self.view_is c.run.new.out.letters l outs made lawful c.first-letter.ensures c.send_out-sent.ensures.same.data_alone e.0 refl e.1 e.2 refl (ap (λ n. n.count) e.3) refl fault w.0 w.1 w.2) why

pub returns-in_err-told-clause-stuck : goal.returns-in_err-told-clause-stuck
returns-in_err-told-clause-stuck g c =
    let apply = g.H.Handler.apply in
    let l = letter_of c.first-letter.result in
    let here = c.self.inside.here in
    let ranks : c.self.inside.out.ranks ≡ c.self.inside.layout.ranks = c.self.invariant.2 in
    let outs = outs_are apply here _ _ c.self.inside.handler l _ _ ranks c.self.invariant.3 c.in_ok-run.ensures.sent in
    let made = made_are apply here _ _ c.self.inside.handler _ l ranks c.in_ok-run.ensures.contents in
    let lawful = subst (λ n. AllByRecursion (IsData n) c.run.new.out.letters) (c.run.ensures.ranks ∙ ranks) c.cut.ensures.data in
    let mine = first_mine here c.self.inside.waiting l c.first-letter.ensures (subst (λ (me : Rank _). IsFirstFor me.here me.waiting) (sym c.self.view_is) c.requires.for_here) in
    let there : IfErr c.from_residual-in_err-told.result (λ fault. fault ≡ NoMemory) = search rules in
    IfErr-weaker c.from_residual-in_err-told.result _ _
    (first_untold apply _ _ _ c.self.view_is c.run.new.out.letters l outs made lawful c.first-letter.ensures c.send_out-sent.ensures.same.data_alone mine.0 mine.1 c.drop_first.ensures c.in_ok-sent.ensures.held refl (ap (λ n. n.count) c.in_ok-sent.ensures.counted)
    c.in_err-told.ensures.unchanged) there

pub returns-clause-passed : goal.returns-clause-passed
returns-clause-passed g c =
    let apply = g.H.Handler.apply in
    let l = letter_of c.first-letter.result in
    let here = c.self.inside.here in
    let ranks : c.self.inside.out.ranks ≡ c.self.inside.layout.ranks = c.self.invariant.2 in
    let outs = outs_are apply here _ _ c.self.inside.handler l _ _ ranks c.self.invariant.3 c.in_ok-run.ensures.sent in
    let made = made_are apply here _ _ c.self.inside.handler _ l ranks c.in_ok-run.ensures.contents in
    let lawful = subst (λ n. AllByRecursion (IsData n) c.run.new.out.letters) (c.run.ensures.ranks ∙ ranks) c.cut.ensures.data in
    let mine = first_mine here c.self.inside.waiting l c.first-letter.ensures (subst (λ (me : Rank _). IsFirstFor me.here me.waiting) (sym c.self.view_is) c.requires.for_here) in
    ran_first apply _ _ _ c.self.view_is c.run.new.out.letters l outs made lawful c.first-letter.ensures c.send_out-sent.ensures.same.data_alone mine.0 mine.1 c.drop_first.ensures c.in_ok-sent.ensures.held refl (ap (λ n. n.count) c.in_ok-sent.ensures.counted) c.in_ok-told.ensures.heard
