use Rattle.std.proofs.Common.{◌∙◌}
use Rattle.gw_input.proofs.FirstOctet.{found_first}
use Rattle.gw_input.proofs.lines.position_of.Goals as goal

pub returns-clause-place : goal.returns-clause-place
returns-clause-place c =
    c.unwrap_or.ensures ∙ found_first c.args.octet c.args.text.now c.memchr.result c.memchr.ensures
