use Rattle.std.proofs.Common.{◌≡◌, ◌-◌, ◌<◌, length, rules, arith}
use Rattle.gw_table.proofs.Searched.{hidden}
use Rattle.gw_table.proofs.universe.Universe.hides.Goals as goal

pub returns-then-eq : goal.returns-then-eq
returns-then-eq c =
    let rules_now = c.args.rules.now in
    let inside : length rules_now - 1 - c.loop-later.later < length rules_now = omega (arith, c.loop-later-test.true) in
    let same : c.within.result ≡ c.args.part.now = search rules in
    hidden c.args.self rules_now (length rules_now - 1 - c.loop-later.later) _ inside c.block_of-block.result c.args.part.now
    c.within.result c.block_of-block.ensures c.within.ensures same
