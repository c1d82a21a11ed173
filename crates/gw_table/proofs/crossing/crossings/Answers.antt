use Rattle.std.proofs.Common.{arith}
use Rattle.gw_table.proofs.Crossed.{no_crossings, all_crossings, none_where_all_alike}
use Rattle.gw_table.proofs.crossing.crossings.Goals as goal

pub loop-egress-init : goal.loop-egress-init
loop-egress-init c = rw c.new-found.ensures.items (no_crossings c.args.changes.now)

pub returns-clause-crossings : goal.returns-clause-crossings
returns-clause-crossings c =
    all_crossings c.args.changes.now c.loop-egress.egress c.loop-egress.found.items
    (omega (arith, c.min-ports.ensures, c.loop-egress-test.false))
    c.loop-egress.invariant

pub returns-clause-alike : goal.returns-clause-alike
returns-clause-alike c =
    none_where_all_alike c.args.changes.now c.loop-egress.found.items (returns-clause-crossings c)
