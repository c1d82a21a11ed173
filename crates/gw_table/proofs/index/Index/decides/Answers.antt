use Rattle.std.proofs.Common.{rules}
use Rattle.gw_table.specs.Table.{Decides}
use Rattle.gw_table.specs.declared.table.Part.TheVariants as part
use Rattle.gw_table.proofs.NeverDecides.{decided_action}
use Rattle.gw_table.proofs.index.Index.decides.Goals as goal

pub returns-in-Some-first_holding-clause-action : goal.returns-in-Some-first_holding-clause-action
returns-in-Some-first_holding-clause-action c =
    let decider = part.Rule c.in-Some-first_holding.rule in
    let decides : Decides c.args.table.now c.args.frame.now c.args.from decider = search rules in
    decided_action c.args.table.now c.args.frame.now c.args.from decider decides

pub returns-in-None-clause-action : goal.returns-in-None-clause-action
returns-in-None-clause-action c =
    let decides : Decides c.args.table.now c.args.frame.now c.args.from part.Default = search rules in
    decided_action c.args.table.now c.args.frame.now c.args.from part.Default decides
