use Rattle.std.proofs.Common.{rules, ◌≡◌, length, sum_by, ◌∙◌, sym}
use Rattle.gw_table.specs.Emission.{rule_code}
use Rattle.gw_table.proofs.Groups.{length-body}
use Rattle.gw_table.proofs.compiler.body_len.Goals as goal

pub returns : goal.returns
returns c =
    let sum : c.sum.result ≡ sum_by (λ rule. length (rule_code rule)) c.args.group.now = search rules in
    sum ∙ sym (length-body c.args.group.now)
