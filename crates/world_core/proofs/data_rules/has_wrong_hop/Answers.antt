use Rattle.std.proofs.Common.{sym}
use Rattle.msg_codec.specs.Letter.{letter_of}
use Rattle.world_core.specs.Rules.{wrong_hop}
use Rattle.world_core.specs.Trial.{local_tried}
use Rattle.world_core.proofs.Deeds.SomeLetter.{letters_none, letters_hit}
use Rattle.world_core.proofs.Deeds.EachLetter.{letter_ranks, letter_data, hop_right, hop_wrong}
use Rattle.world_core.proofs.data_rules.has_wrong_hop.Goals as goal

pub next_hop-requires-clause-to_within : goal.next_hop-requires-clause-to_within
next_hop-requires-clause-to_within c =
    (letter_ranks (local_tried c.args.me.now) c.args.to c.args.letters.now c.loop-k.k (letter_of c.letter_at-l.result) c.letter_at-l.ensures c.requires.ranks).0

pub returns-then-next_hop-to : goal.returns-then-next_hop-to
returns-then-next_hop-to c =
    let x = letter_of c.letter_at-l.result in
    let tagged = letter_data c.args.letters.now c.loop-k.k x c.letter_at-l.ensures c.requires.kind in
    sym (letters_hit wrong_hop c.args.letters.now c.loop-k.k x (local_tried c.args.me.now) c.args.to c.letter_at-l.ensures
    (hop_wrong (local_tried c.args.me.now) c.args.to c.next_hop.result x tagged c.next_hop.ensures.value c.if-next_hop-to.true))

pub loop-k-preserved : goal.loop-k-preserved
loop-k-preserved c =
    let x = letter_of c.letter_at-l.result in
    let tagged = letter_data c.args.letters.now c.loop-k.k x c.letter_at-l.ensures c.requires.kind in
    letters_none wrong_hop c.args.letters.now c.loop-k.k x (local_tried c.args.me.now) c.args.to c.letter_at-l.ensures
    (hop_right (local_tried c.args.me.now) c.args.to c.next_hop.result x tagged c.next_hop.ensures.value c.if-next_hop-to.false) c.loop-k.invariant
