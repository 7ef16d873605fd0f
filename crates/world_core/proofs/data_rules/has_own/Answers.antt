use Rattle.std.proofs.Common.{◌&&◌, nat_eq, sym, ◌∙◌}
use Rattle.msg_codec.specs.Letter.{letter_of}
use Rattle.list_facts.proofs.Tests.{any_none}
use Rattle.world_core.specs.Pairs.{is_data}
use Rattle.world_core.proofs.data_rules.has_own.Goals as goal

pub loop-k-preserved : goal.loop-k-preserved
loop-k-preserved c =
    any_none (λ l. is_data l && nat_eq l.from c.args.rank) c.args.letters.now c.loop-k.k (letter_of c.letter_at.result) c.letter_at.ensures
    (sym c.is_own.ensures ∙ c.if-is_own.false) c.loop-k.invariant
