use Rattle.std.proofs.Common.{arith}
use Rattle.gw_commands.specs.PortDifferences.{IsCrossingLine}
use Rattle.gw_commands.proofs.TextsInOrder.{none_appended, more_appended, all_appended}
use Rattle.gw_commands.proofs.crossing_lines.push_crossings.Goals as goal

pub loop-crossing-init : goal.loop-crossing-init
loop-crossing-init c = none_appended (IsCrossingLine c.args.stated.now) c.args.text.now.items

pub loop-crossing-preserved : goal.loop-crossing-preserved
loop-crossing-preserved c =
    more_appended (IsCrossingLine c.args.stated.now) c.args.found.now c.loop-crossing.crossing-index
    c.crossing-item.result c.args.text.now.items c.loop-crossing.text.items c.push_crossing.new.text.items
    (let below = c.loop-crossing-test.true in omega arith) c.crossing-item.is c.loop-crossing.invariant
    c.in_ok-push_crossing.ensures

pub returns : goal.returns
returns c =
    all_appended (IsCrossingLine c.args.stated.now) c.args.found.now c.loop-crossing.crossing-index
    c.args.text.now.items c.loop-crossing.text.items (let past = c.loop-crossing-test.false in omega arith)
    c.loop-crossing.invariant
