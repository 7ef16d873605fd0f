use Rattle.std.proofs.Common.{take, sym, ◌∙◌}
use Rattle.msg_codec.specs.Letter.{letter_of}
use Rattle.world_core.specs.Local.{having_put}
use Rattle.world_core.specs.Rules.{not_held}
use Rattle.world_core.specs.Trial.{local_tried}
use Rattle.world_core.proofs.Deeds.SomeLetter.{letters_none, letters_hit}
use Rattle.world_core.proofs.Deeds.EachLetter.{letter_data, letter_ranks, unheld, held_own, held_next}
use Rattle.world_core.proofs.data_rules.has_unheld.Goals as goal
use Rattle.world_core.proofs.data_rules.has_unheld.Goals.{else-l-me-via-then-l-me+else-not-is_next, else-l-me-via-else-l-me}

pub is_next-requires-clause-from_within : goal.is_next-requires-clause-from_within
is_next-requires-clause-from_within c =
    (letter_ranks (local_tried c.args.me.now) c.args.to c.args.letters.now c.loop-k.k (letter_of c.letter_at-l.result) c.letter_at-l.ensures c.requires.ranks).1

pub is_next-requires-clause-to_within : goal.is_next-requires-clause-to_within
is_next-requires-clause-to_within c =
    (letter_ranks (local_tried c.args.me.now) c.args.to c.args.letters.now c.loop-k.k (letter_of c.letter_at-l.result) c.letter_at-l.ensures c.requires.ranks).0

pub returns-then-not-is_next : goal.returns-then-not-is_next
returns-then-not-is_next c =
    let me = local_tried c.args.me.now in
    let x = letter_of c.letter_at-l.result in
    let tagged = letter_data c.args.letters.now c.loop-k.k x c.letter_at-l.ensures c.requires.kind in
    sym (letters_hit not_held c.args.letters.now c.loop-k.k x me c.args.to c.letter_at-l.ensures
    (unheld (having_put me c.args.to (take c.loop-k.k c.args.letters.now)) c.args.to x tagged c.if-l-me.true (sym (c.is_next.ensures c.args.to) ∙ c.if-not-is_next.true)))

pub loop-k-preserved : goal.loop-k-preserved
loop-k-preserved c =
    let me = local_tried c.args.me.now in
    let x = letter_of c.letter_at-l.result in
    let tagged = letter_data c.args.letters.now c.loop-k.k x c.letter_at-l.ensures c.requires.kind in
    let later = having_put me c.args.to (take c.loop-k.k c.args.letters.now) in
    letters_none not_held c.args.letters.now c.loop-k.k x me c.args.to c.letter_at-l.ensures
    (elim c.else-l-me.branch [
      | else-l-me-via-then-l-me+else-not-is_next w ↦ held_next later c.args.to x tagged w.if-l-me.true (sym (w.is_next.ensures c.args.to) ∙ w.if-not-is_next.false)
      | else-l-me-via-else-l-me w ↦ held_own later c.args.to x tagged w.if-l-me.false
    ])
    c.loop-k.invariant
