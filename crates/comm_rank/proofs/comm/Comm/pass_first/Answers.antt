use Rattle.std.proofs.Common.{◌≡◌, IfErr, ap, arith, refl, rules}
use Rattle.std.proofs.lemmas.Result.{IfErr-weaker}
use Rattle.msg_codec.specs.Letter.{letter_of}
use Rattle.ygm_route.specs.Layout.{Shape}
use Rattle.comm_rank.specs.declared.fault.CommFault.TheVariants.{NoMemory}
use Rattle.comm_rank.proofs.Running.Passed.{held_first}
use Rattle.comm_rank.proofs.Running.Stuck.{first_refused}
use Rattle.comm_rank.proofs.Running.Waiting.{first_few, first_is_taken}
use Rattle.comm_rank.proofs.Store.Added.{data_added, gains_added}
use Rattle.comm_rank.proofs.Store.SameStore.{still_of}
use Rattle.comm_rank.proofs.comm.Comm.pass_first.Goals as goal

pub run_first-requires-clause-few : goal.run_first-requires-clause-few
run_first-requires-clause-few g c =
    first_few _ _ (letter_of c.first-letter.result) c.self.view_is c.first-letter.ensures c.requires.taken c.if-letter-self.true c.requires.few

pub add-requires-clause-destination : goal.add-requires-clause-destination
add-requires-clause-destination g c =
    let taken = first_is_taken _ _ (letter_of c.first-letter.result) c.self.view_is c.first-letter.ensures c.requires.taken in
    omega (arith, taken.destination, ap (λ (layout : Shape). layout.ranks) c.self.invariant.4.layout_is)

pub add-requires-clause-sender : goal.add-requires-clause-sender
add-requires-clause-sender g c =
    let taken = first_is_taken _ _ (letter_of c.first-letter.result) c.self.view_is c.first-letter.ensures c.requires.taken in
    omega (arith, taken.sender, ap (λ (layout : Shape). layout.ranks) c.self.invariant.4.layout_is)

pub returns-in_err-add-clause-stuck : goal.returns-in_err-add-clause-stuck
returns-in_err-add-clause-stuck g c =
    let there : IfErr c.from_residual.result (λ fault. fault ≡ NoMemory) = search rules in
    IfErr-weaker c.from_residual.result _ _ (first_refused g.H.Handler.apply _ _ _ c.self.view_is refl c.in_err-add.ensures.refused refl refl refl refl) there

pub invariant_of-self-2 : goal.invariant_of-self-2
invariant_of-self-2 g c =
    let are = c.self.invariant in
    let l = letter_of c.first-letter.result in
    let taken = first_is_taken _ _ l c.self.view_is c.first-letter.ensures c.requires.taken in
    let kept = data_added c.self.inside.held l _ c.holds.ensures.routed c.holds.ensures.laid_out (search rules) c.in_ok-add.ensures.added taken.tag in
    (are.0, are.1, are.2, are.3, still_of _ _ _ _ _ (record { place = c.add.ensures.place; data_alone = kept }) are.4)

pub returns-clause-passed : goal.returns-clause-passed
returns-clause-passed g c =
    let are = c.self.invariant in
    let l = letter_of c.first-letter.result in
    let taken = first_is_taken _ _ l c.self.view_is c.first-letter.ensures c.requires.taken in
    let kept = data_added c.self.inside.held l _ c.holds.ensures.routed c.holds.ensures.laid_out (search rules) c.in_ok-add.ensures.added taken.tag in
    let gains = gains_added c.self.inside.held l _ c.holds.ensures.routed c.holds.ensures.laid_out (search rules) c.in_ok-add.ensures.added in
    held_first g.H.Handler.apply _ _ _ c.self.view_is l c.first-letter.ensures c.if-letter-self.false (taken.others c.if-letter-self.false) c.drop_first.ensures refl kept gains refl refl refl
