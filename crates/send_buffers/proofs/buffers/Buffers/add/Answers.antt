use Rattle.std.proofs.Common.{◌≡◌, ◌<◌, ap, ◌∙◌, arith}
use Rattle.msg_codec.specs.Letter.{letter_of}
use Rattle.send_buffers.specs.Buffers.{Buffered, hop_to}
use Rattle.send_buffers.proofs.Stored.OneChanged.{after_add, with_one, without}
use Rattle.send_buffers.proofs.buffers.Buffers.add.Goals as goal

pub invariant_of-self : goal.invariant_of-self
invariant_of-self c =
    let within : c.next_hop-next.result < c.args.self.now.layout.ranks = omega (arith, c.next_hop-next.ensures.within, ap (λ (b : Buffered). b.layout.ranks) c.self.view_is) in
    let hop : c.next_hop-next.result ≡ hop_to c.args.self.now c.args.letter.to = c.next_hop-next.ensures.value ∙ ap (λ (b : Buffered). hop_to b c.args.letter.to) c.self.view_is in
    after_add c.self.inside.layout c.self.inside.scheme c.self.inside.here c.self.inside.limit c.self.inside.queues.items c.args.self.now c.self.view_is c.next_hop-next.result within c.self.invariant
    c.index_mut.result.now c.index_mut.ensures.value (letter_of c.args.letter) hop c.add.new.self c.add.result c.add.ensures.ok c.add.ensures.err c.requires.destination c.requires.sender

pub returns-clause-added : goal.returns-clause-added
returns-clause-added c =
    let within : c.next_hop-next.result < c.args.self.now.layout.ranks = omega (arith, c.next_hop-next.ensures.within, ap (λ (b : Buffered). b.layout.ranks) c.self.view_is) in
    let hop : c.next_hop-next.result ≡ hop_to c.args.self.now c.args.letter.to = c.next_hop-next.ensures.value ∙ ap (λ (b : Buffered). hop_to b c.args.letter.to) c.self.view_is in
    with_one c.self.inside.layout c.self.inside.scheme c.self.inside.here c.self.inside.limit c.self.inside.queues.items c.args.self.now c.self.view_is c.next_hop-next.result within c.self.invariant
    c.index_mut.result.now c.index_mut.ensures.value (letter_of c.args.letter) hop c.add.new.self c.add.result c.add.ensures.ok c.add.ensures.err

pub returns-clause-refused : goal.returns-clause-refused
returns-clause-refused c =
    let within : c.next_hop-next.result < c.args.self.now.layout.ranks = omega (arith, c.next_hop-next.ensures.within, ap (λ (b : Buffered). b.layout.ranks) c.self.view_is) in
    let hop : c.next_hop-next.result ≡ hop_to c.args.self.now c.args.letter.to = c.next_hop-next.ensures.value ∙ ap (λ (b : Buffered). hop_to b c.args.letter.to) c.self.view_is in
    without c.self.inside.layout c.self.inside.scheme c.self.inside.here c.self.inside.limit c.self.inside.queues.items c.args.self.now c.self.view_is c.next_hop-next.result within c.self.invariant
    c.index_mut.result.now c.index_mut.ensures.value (letter_of c.args.letter) hop c.add.new.self c.add.result c.add.ensures.ok c.add.ensures.err
