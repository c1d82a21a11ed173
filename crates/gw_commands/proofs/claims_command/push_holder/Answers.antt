use Rattle.std.proofs.Common.{ap, ◌∙◌, Some, false, string_bytes}
use Rattle.std.specs.Fmt.{digits, digits_output, styled_digits_output}
use Rattle.std.proofs.lemmas.Result.{IfOk-weaker}
use Rattle.gw_commands.proofs.ClaimLines.{name_styled, holder_printed}
use Rattle.gw_commands.proofs.claims_command.push_holder.Goals as goal

pub returns : goal.returns
returns c =
    let digits_of = c.in_radix.ensures ∙ ap (λ n. Some (digits 16 false n)) c.value-value.ensures in
    let styled = ap (styled_digits_output c.in_radix.result) c.laid_out.ensures
    ∙ name_styled (digits_output c.in_radix.result) c.args.name digits_of in
    IfOk-weaker c.write.result _ _
    (λ _ text. holder_printed (string_bytes c.args.text.now) (string_bytes c.write.new.self) c.args.address c.args.name
    (styled_digits_output c.in_radix.result c.laid_out.result) styled text)
    c.write.ensures.bytes
