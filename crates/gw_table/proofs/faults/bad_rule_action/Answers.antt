use Rattle.std.proofs.Common.{rules}
use Rattle.gw_table.specs.TableText.{action_fault}
use Rattle.gw_table.proofs.Trees.{first_of-found}
use Rattle.gw_table.proofs.faults.bad_rule_action.Goals as goal

pub returns : goal.returns
returns c =
    first_of-found action_fault c.args.rules.now c.first_of.result c.first_of.ensures (λ value why k. search rules)
