use Rattle.std.proofs.Common.{◌≡◌, ◌++◌, [], ◌∷◌, IfErr, List, map, refl, ap, sym, ◌∙◌, subst, rules}
use Rattle.std.proofs.lemmas.Result.{IfErr-weaker}
use Rattle.std.proofs.lemmas.List.{map-append}
use Rattle.msg_codec.specs.Control.{letter_of_control}
use Rattle.msg_codec.specs.declared.letter.Letter.{Letter}
use Rattle.comm_rank.specs.declared.fault.CommFault.TheVariants.{NoMemory}
use Rattle.comm_rank.specs.Rank.{IsSameRank, Rank}
use Rattle.comm_rank.specs.Running.{HasTakenFrom, StuckIn, WasCutFrom}
use Rattle.comm_rank.proofs.Rank.Same.{same_ran}
use Rattle.comm_rank.proofs.Running.TakenFrom.{all_for_handlers, batch_cut, batch_few, batch_keeps, batch_taken, control_read, control_taken, laid_out_as, letters_taken_here, none_keeps, none_kept, none_taken}
use Rattle.comm_rank.proofs.Agrees.AfterTake.{cut_before, few_waiting, passed_waiting, same_from, stuck_waiting, waiting_taken}
use Rattle.comm_rank.proofs.comm.Comm.take_from.Goals as goal

pub returns-in_err-reserve-clause-cut : goal.returns-in_err-reserve-clause-cut
returns-in_err-reserve-clause-cut g c =
    let i = c.self.inside in
    let old = c.args.self.now in
    let log = (g.P.Post.state c.args.post.now).log old.here in
    let me : List Letter → Rank g.row.H.Denot = λ controls. record { layout = i.layout; scheme = i.scheme; here = i.here; most = i.limits.letters; contents = i.handler; sent_count = i.sent.count; run_count = i.ran; held = i.held.queues; waiting = i.waiting; controls = controls; stopped = i.stopped; heard = g.T.Tap.heard i.tap } in
    let now : me (map letter_of_control c.reserve.new.self.items) ≡ old = ap (λ items. me (map letter_of_control items)) c.reserve.ensures.items ∙ c.self.view_is in
    let there : IfErr c.from_residual.result (λ fault. fault ≡ NoMemory) = search rules in
    IfErr-weaker c.from_residual.result _ _
    (λ fault is. subst (λ m. WasCutFrom c.args.from g.H.Handler.apply old m log log fault) (sym now) (cut_before c.args.from g.H.Handler.apply old log c.requires.belongs.agrees.nothing_waits fault is)) there

pub returns-in_default-clause-took : goal.returns-in_default-clause-took
returns-in_default-clause-took g c =
    let i = c.self.inside in
    let old = c.args.self.now in
    let me : List Letter → Rank g.row.H.Denot = λ controls. record { layout = i.layout; scheme = i.scheme; here = i.here; most = i.limits.letters; contents = i.handler; sent_count = i.sent.count; run_count = i.ran; held = i.held.queues; waiting = i.waiting; controls = controls; stopped = i.stopped; heard = g.T.Tap.heard i.tap } in
    let now : me (map letter_of_control c.reserve.new.self.items) ≡ old = ap (λ items. me (map letter_of_control items)) c.reserve.ensures.items ∙ c.self.view_is in
    subst (λ (m : Rank g.row.H.Denot). HasTakenFrom c.args.from g.H.Handler.apply g.H.Handler.start old m (g.P.Post.state c.args.post.now) (g.P.Post.state c.take.new.self) 0) (sym now)
    (none_taken g.H.Handler.apply g.H.Handler.start old _ c.args.from _ _ (ap (λ (r : Rank _). r.here) c.self.view_is) c.requires.belongs c.requires.may_turn c.take.ensures.keeps (c.in_default.ensures.none refl))

pub returns-in_default-clause-keeps : goal.returns-in_default-clause-keeps
returns-in_default-clause-keeps g c =
    none_keeps g.H.Handler.apply g.H.Handler.start c.args.self.now _ c.args.from _ _ (ap (λ (me : Rank _). me.here) c.self.view_is) c.requires.belongs c.requires.may_turn c.take.ensures.keeps (c.in_default.ensures.none refl)

pub control_in-requires : goal.control_in-requires
control_in-requires g c =
    let old = c.args.self.now in
    let here = ap (λ (me : Rank _). me.here) c.self.view_is in
    let laid_out = laid_out_as _ _ c.self.view_is c.self.invariant.4.layout_is c.holds.ensures.laid_out in
    record {
      control = control_read g.H.Handler.apply g.H.Handler.start old _ c.args.from _ _ here c.requires.belongs c.requires.may_turn c.take.ensures.keeps c.in-Some.batch c.in-Some.ensures.took laid_out _
          c.begins_with_control.ensures c.if-begins_with_control.true;
    }

pub returns-then-begins_with_control-clause-took : goal.returns-then-begins_with_control-clause-took
returns-then-begins_with_control-clause-took g c =
    let i = c.self.inside in
    let old = c.args.self.now in
    let batch = c.in-Some.batch in
    let here = ap (λ (me : Rank _). me.here) c.self.view_is in
    let laid_out = laid_out_as _ _ c.self.view_is c.self.invariant.4.layout_is c.holds.ensures.laid_out in
    let me : List Letter → Rank g.row.H.Denot = λ controls. record { layout = i.layout; scheme = i.scheme; here = i.here; most = i.limits.letters; contents = i.handler; sent_count = i.sent.count; run_count = i.ran; held = i.held.queues; waiting = i.waiting; controls = controls; stopped = i.stopped; heard = g.T.Tap.heard i.tap } in
    let controls = map letter_of_control c.push_back_reserved.new.self.items in
    let was : map letter_of_control c.reserve.new.self.items ≡ old.controls = ap (map letter_of_control) c.reserve.ensures.items ∙ ap (λ (r : Rank _). r.controls) c.self.view_is in
    let more : controls ≡ old.controls ++ batch =
    ap (map letter_of_control) c.push_back_reserved.ensures.items ∙ map-append letter_of_control c.reserve.new.self.items (c.control_in.result ∷ [])
    ∙ ap (λ xs. xs ++ letter_of_control c.control_in.result ∷ []) was ∙ ap (λ xs. old.controls ++ xs) (sym c.control_in.ensures) in
    let same : me controls ≡ record old { controls = controls } = ap (λ (r : Rank g.row.H.Denot). record r { controls = controls }) c.self.view_is in
    subst (λ (m : Rank g.row.H.Denot). HasTakenFrom c.args.from g.H.Handler.apply g.H.Handler.start old m (g.P.Post.state c.args.post.now) (g.P.Post.state c.take.new.self) 1) (sym same)
    (control_taken g.H.Handler.apply g.H.Handler.start old _ c.args.from _ _ here c.requires.belongs c.requires.may_turn c.take.ensures.keeps batch c.in-Some.ensures.took laid_out _
    c.begins_with_control.ensures c.if-begins_with_control.true controls more g.met.H.Handler.keeps_start)

pub returns-then-begins_with_control-clause-keeps : goal.returns-then-begins_with_control-clause-keeps
returns-then-begins_with_control-clause-keeps g c =
    let old = c.args.self.now in
    let here = ap (λ (me : Rank _). me.here) c.self.view_is in
    let laid_out = laid_out_as _ _ c.self.view_is c.self.invariant.4.layout_is c.holds.ensures.laid_out in
    batch_keeps g.H.Handler.apply g.H.Handler.start old _ c.args.from _ _ here c.requires.belongs c.requires.may_turn c.take.ensures.keeps c.in-Some.batch c.in-Some.ensures.took laid_out

pub pass_waiting-requires-clause-taken : goal.pass_waiting-requires-clause-taken
pass_waiting-requires-clause-taken g c =
    let old = c.args.self.now in
    let i = c.self.inside in
    let me : List Letter → Rank g.row.H.Denot = λ controls. record { layout = i.layout; scheme = i.scheme; here = i.here; most = i.limits.letters; contents = i.handler; sent_count = i.sent.count; run_count = i.ran; held = i.held.queues; waiting = i.waiting; controls = controls; stopped = i.stopped; heard = g.T.Tap.heard i.tap } in
    let now : me (map letter_of_control c.reserve.new.self.items) ≡ old = ap (λ items. me (map letter_of_control items)) c.reserve.ensures.items ∙ c.self.view_is in
    let here = ap (λ (me : Rank _). me.here) c.self.view_is in
    let laid_out = laid_out_as _ _ c.self.view_is c.self.invariant.4.layout_is c.holds.ensures.laid_out in
    waiting_taken _ old c.in-Some.batch c.of.result now c.of.ensures
    (letters_taken_here g.H.Handler.apply g.H.Handler.start old _ c.args.from _ _ here c.requires.belongs c.requires.may_turn c.take.ensures.keeps c.in-Some.batch c.in-Some.ensures.took laid_out c.in-Some.batch (all_for_handlers c.in-Some.batch _ c.begins_with_control.ensures c.if-begins_with_control.false))

pub pass_waiting-requires-clause-few : goal.pass_waiting-requires-clause-few
pass_waiting-requires-clause-few g c =
    let old = c.args.self.now in
    let i = c.self.inside in
    let me : List Letter → Rank g.row.H.Denot = λ controls. record { layout = i.layout; scheme = i.scheme; here = i.here; most = i.limits.letters; contents = i.handler; sent_count = i.sent.count; run_count = i.ran; held = i.held.queues; waiting = i.waiting; controls = controls; stopped = i.stopped; heard = g.T.Tap.heard i.tap } in
    let now : me (map letter_of_control c.reserve.new.self.items) ≡ old = ap (λ items. me (map letter_of_control items)) c.reserve.ensures.items ∙ c.self.view_is in
    let here = ap (λ (me : Rank _). me.here) c.self.view_is in
    let laid_out = laid_out_as _ _ c.self.view_is c.self.invariant.4.layout_is c.holds.ensures.laid_out in
    few_waiting _ old c.in-Some.batch c.of.result now c.of.ensures
    (batch_few g.H.Handler.apply g.H.Handler.start old _ c.args.from _ _ here c.requires.belongs c.requires.may_turn c.take.ensures.keeps c.in-Some.batch c.in-Some.ensures.took laid_out c.in-Some.batch (all_for_handlers c.in-Some.batch _ c.begins_with_control.ensures c.if-begins_with_control.false))

pub returns-in_err-pass_waiting-clause-cut : goal.returns-in_err-pass_waiting-clause-cut
returns-in_err-pass_waiting-clause-cut g c =
    let apply = g.H.Handler.apply in
    let old = c.args.self.now in
    let i = c.self.inside in
    let me : List Letter → Rank g.row.H.Denot = λ controls. record { layout = i.layout; scheme = i.scheme; here = i.here; most = i.limits.letters; contents = i.handler; sent_count = i.sent.count; run_count = i.ran; held = i.held.queues; waiting = i.waiting; controls = controls; stopped = i.stopped; heard = g.T.Tap.heard i.tap } in
    let now : me (map letter_of_control c.reserve.new.self.items) ≡ old = ap (λ items. me (map letter_of_control items)) c.reserve.ensures.items ∙ c.self.view_is in
    let new = c.pass_waiting.new.self in
    let was : Rank g.row.H.Denot = record (me (map letter_of_control c.reserve.new.self.items)) { waiting = c.of.result } in
    let here = ap (λ (me : Rank _). me.here) c.self.view_is in
    let laid_out = laid_out_as _ _ c.self.view_is c.self.invariant.4.layout_is c.holds.ensures.laid_out in
    let same : IsSameRank old new = same_from _ old new c.of.result now (same_ran was new c.pass_waiting.ensures.rank) in
    let there : IfErr c.from_residual-in_err-pass_waiting.result (StuckIn apply was new c.of.result) = search rules in
    IfErr-weaker c.from_residual-in_err-pass_waiting.result _ _
    (λ fault stuck. batch_cut apply g.H.Handler.start old _ c.args.from _ _ here c.requires.belongs c.requires.may_turn c.take.ensures.keeps c.in-Some.batch c.in-Some.ensures.took laid_out c.in-Some.batch (all_for_handlers c.in-Some.batch _ c.begins_with_control.ensures c.if-begins_with_control.false) new same (none_kept g.H.Handler.apply g.H.Handler.start old _ c.args.from _ _ here c.requires.belongs c.requires.may_turn c.take.ensures.keeps c.in-Some.batch c.in-Some.ensures.took laid_out _
    c.begins_with_control.ensures c.if-begins_with_control.false new (ap (λ (r : Rank _). r.controls) c.pass_waiting.ensures.rank ∙ ap (λ (r : Rank _). r.controls) now)) fault
    (stuck_waiting apply _ old new c.of.result c.in-Some.batch now c.of.ensures fault stuck)) there

pub returns-in_err-pass_waiting-clause-keeps : goal.returns-in_err-pass_waiting-clause-keeps
returns-in_err-pass_waiting-clause-keeps g c =
    let old = c.args.self.now in
    let here = ap (λ (me : Rank _). me.here) c.self.view_is in
    let laid_out = laid_out_as _ _ c.self.view_is c.self.invariant.4.layout_is c.holds.ensures.laid_out in
    batch_keeps g.H.Handler.apply g.H.Handler.start old _ c.args.from _ _ here c.requires.belongs c.requires.may_turn c.take.ensures.keeps c.in-Some.batch c.in-Some.ensures.took laid_out

pub returns-clause-took : goal.returns-clause-took
returns-clause-took g c =
    let old = c.args.self.now in
    let i = c.self.inside in
    let me : List Letter → Rank g.row.H.Denot = λ controls. record { layout = i.layout; scheme = i.scheme; here = i.here; most = i.limits.letters; contents = i.handler; sent_count = i.sent.count; run_count = i.ran; held = i.held.queues; waiting = i.waiting; controls = controls; stopped = i.stopped; heard = g.T.Tap.heard i.tap } in
    let now : me (map letter_of_control c.reserve.new.self.items) ≡ old = ap (λ items. me (map letter_of_control items)) c.reserve.ensures.items ∙ c.self.view_is in
    let new = c.pass_waiting.new.self in
    let here = ap (λ (me : Rank _). me.here) c.self.view_is in
    let laid_out = laid_out_as _ _ c.self.view_is c.self.invariant.4.layout_is c.holds.ensures.laid_out in
    let same : IsSameRank old new = same_from _ old new c.of.result now (same_ran _ new c.pass_waiting.ensures.rank) in
    let passed = c.in_ok-pass_waiting.ensures.passed in
    batch_taken g.H.Handler.apply g.H.Handler.start old _ c.args.from _ _ here c.requires.belongs c.requires.may_turn c.take.ensures.keeps c.in-Some.batch c.in-Some.ensures.took laid_out c.in-Some.batch (all_for_handlers c.in-Some.batch _ c.begins_with_control.ensures c.if-begins_with_control.false) new same (none_kept g.H.Handler.apply g.H.Handler.start old _ c.args.from _ _ here c.requires.belongs c.requires.may_turn c.take.ensures.keeps c.in-Some.batch c.in-Some.ensures.took laid_out _
    c.begins_with_control.ensures c.if-begins_with_control.false new (ap (λ (r : Rank _). r.controls) c.pass_waiting.ensures.rank ∙ ap (λ (r : Rank _). r.controls) now))
    g.met.H.Handler.keeps_start passed.nothing_waits (passed_waiting g.H.Handler.apply _ old new c.of.result c.in-Some.batch now c.of.ensures passed.passed)

pub returns-clause-keeps : goal.returns-clause-keeps
returns-clause-keeps g c =
    let old = c.args.self.now in
    let here = ap (λ (me : Rank _). me.here) c.self.view_is in
    let laid_out = laid_out_as _ _ c.self.view_is c.self.invariant.4.layout_is c.holds.ensures.laid_out in
    batch_keeps g.H.Handler.apply g.H.Handler.start old _ c.args.from _ _ here c.requires.belongs c.requires.may_turn c.take.ensures.keeps c.in-Some.batch c.in-Some.ensures.took laid_out
