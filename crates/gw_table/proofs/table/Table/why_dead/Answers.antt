use Rattle.gw_table.proofs.Causes.{told_never}
use Rattle.gw_table.proofs.table.Table.why_dead.Goals as goal

pub returns-clause-never : goal.returns-clause-never
returns-clause-never c =
    told_never c.args.self.now c.args.rule c.why_dead.result (rw c.rules.ensures.rules at c.why_dead.ensures.dead)
