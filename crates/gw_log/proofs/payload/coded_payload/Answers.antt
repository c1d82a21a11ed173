use Rattle.std.proofs.Common.{Ok, ap, sym, ◌∙◌}
use Rattle.gw_log.proofs.DigitTexts.{plain_payload}
use Rattle.gw_log.proofs.payload.coded_payload.Goals as goal

pub returns-then-is_plain : goal.returns-then-is_plain
returns-then-is_plain c =
    plain_payload c.args.text.now (sym c.is_plain.ensures ∙ c.if-is_plain.true) ∙ ap Ok (sym c.octets.ensures)
