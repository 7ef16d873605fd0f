use Rattle.std.proofs.Common.{◌∙◌, ap, arith, length, string_bytes, subst, sym}
use Rattle.std.proofs.lemmas.List.{length-map}
use Rattle.ygm_route.specs.Layout.{IsLayout}
use Rattle.ygm_run.specs.CommandLine.{command_in}
use Rattle.ygm_run.specs.Words.{Asked}
use Rattle.ygm_run.proofs.CommandLine.Accepted.{accepted, buffer_within}
use Rattle.ygm_run.proofs.words.read_words.Goals as goal

pub returns-in-None-clause-some : goal.returns-in-None-clause-some
returns-in-None-clause-some c =
    let is = accepted (command_in c.of-command.result) (sym c.refusal.ensures ∙ c.in-None.is) in
    omega (arith, is.some, ap (λ (asked : Asked). length asked.names) c.order.ensures.exact, length-map c.order.result.names.now string_bytes)

pub returns-in-None-clause-settings : goal.returns-in-None-clause-settings
returns-in-None-clause-settings c =
    let is = accepted (command_in c.of-command.result) (sym c.refusal.ensures ∙ c.in-None.is) in
    let buffer = buffer_within (command_in c.of-command.result) in
    let buffer_is = ap (λ (asked : Asked). asked.settings.buffer) c.order.ensures.exact in
    record {
      laid_out = subst IsLayout (sym (ap (λ (asked : Asked). asked.settings.layout) c.order.ensures.exact)) is.laid_out;
      few = omega (arith, is.fits, ap (λ (asked : Asked). length asked.names) c.order.ensures.exact, ap (λ (asked : Asked). asked.settings.layout.ranks) c.order.ensures.exact, length-map c.order.result.names.now string_bytes);
      least = omega (arith, buffer.0, buffer_is);
      greatest = omega (arith, buffer.1, buffer_is);
    }
