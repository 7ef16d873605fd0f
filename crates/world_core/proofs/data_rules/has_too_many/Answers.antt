use Rattle.std.proofs.Common.{refl, take, sym, ◌∙◌, arith}
use Rattle.msg_codec.specs.Letter.{letter_of}
use Rattle.world_core.specs.Local.{having_put}
use Rattle.world_core.specs.Rules.{too_many_sent}
use Rattle.world_core.specs.Trial.{local_tried}
use Rattle.world_core.proofs.Deeds.SomeLetter.{letters_none, letters_hit}
use Rattle.world_core.proofs.Deeds.EachLetter.{too_many, not_too_many, not_mine}
use Rattle.world_core.proofs.Pairs.Numbers.{sent_number-nil}
use Rattle.world_core.proofs.Pairs.Stepwise.{sent_next}
use Rattle.world_core.proofs.data_rules.has_too_many.Goals as goal
use Rattle.world_core.proofs.data_rules.has_too_many.Goals.{then-is_own+else-sent-from, else-is_own}

pub loop-k-init : goal.loop-k-init
loop-k-init c = record { none = refl; sent = omega (arith, sent_number-nil c.args.me.now.here) }

pub returns-then-sent-from : goal.returns-then-sent-from
returns-then-sent-from c =
    let me = local_tried c.args.me.now in
    let x = letter_of c.letter_at.result in
    sym (letters_hit too_many_sent c.args.letters.now c.loop-k.k x me c.args.to c.letter_at.ensures
    (too_many me c.args.to (take c.loop-k.k c.args.letters.now) x c.loop-k.sent c.loop-k.invariant.sent (sym c.is_own.ensures ∙ c.if-is_own.true) (omega arith)))

pub loop-k-preserved : goal.loop-k-preserved
loop-k-preserved c =
    let me = local_tried c.args.me.now in
    let x = letter_of c.letter_at.result in
    let next = sent_next c.args.me.now.here c.args.letters.now c.loop-k.k x c.is_own.result c.letter_at.ensures (sym c.is_own.ensures) in
    elim c.if-is_own.branch [
      | then-is_own+else-sent-from w ↦
          let more = rw w.if-is_own.true at next in
          record {
            none = letters_none too_many_sent c.args.letters.now c.loop-k.k x me c.args.to c.letter_at.ensures
                (not_too_many me c.args.to (take c.loop-k.k c.args.letters.now) x c.loop-k.sent c.loop-k.invariant.sent (sym c.is_own.ensures ∙ w.if-is_own.true) (omega arith)) c.loop-k.invariant.none;
            sent = omega arith;
          }
      | else-is_own w ↦
          let same = rw w.if-is_own.false at next in
          record {
            none = letters_none too_many_sent c.args.letters.now c.loop-k.k x me c.args.to c.letter_at.ensures
                (not_mine (having_put me c.args.to (take c.loop-k.k c.args.letters.now)) c.args.to x (sym c.is_own.ensures ∙ w.if-is_own.false)) c.loop-k.invariant.none;
            sent = omega arith;
          }
    ]
