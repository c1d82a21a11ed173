use Rattle.std.proofs.Common.{rules, string_bytes}
use Rattle.gw_table.specs.TableText.{unknown_in_rule}
use Rattle.gw_table.proofs.Trees.{first_of-told}
use Rattle.gw_table.proofs.faults.unknown_in_rules.Goals as goal

pub returns : goal.returns
returns c =
    first_of-told unknown_in_rule (λ key. string_bytes key.now) c.args.rules.now c.first_of.result c.first_of.ensures
    (λ value why k. search rules)
