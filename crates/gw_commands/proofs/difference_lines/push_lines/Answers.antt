use Rattle.std.proofs.Common.{arith}
use Rattle.gw_commands.specs.Differences.{IsDifferenceLine}
use Rattle.gw_commands.proofs.TextsInOrder.{none_appended, more_appended, all_appended}
use Rattle.gw_commands.proofs.difference_lines.push_lines.Goals as goal

pub loop-difference-init : goal.loop-difference-init
loop-difference-init c = none_appended (IsDifferenceLine c.args.old.now c.args.new.now) c.args.text.now.items

pub loop-difference-preserved : goal.loop-difference-preserved
loop-difference-preserved c =
    more_appended (IsDifferenceLine c.args.old.now c.args.new.now) c.args.found.now c.loop-difference.difference-index
    c.difference-item.result c.args.text.now.items c.loop-difference.text.items c.push_difference.new.text.items
    (let below = c.loop-difference-test.true in omega arith) c.difference-item.is c.loop-difference.invariant
    c.in_ok-push_difference.ensures

pub returns : goal.returns
returns c =
    all_appended (IsDifferenceLine c.args.old.now c.args.new.now) c.args.found.now c.loop-difference.difference-index
    c.args.text.now.items c.loop-difference.text.items (let past = c.loop-difference-test.false in omega arith)
    c.loop-difference.invariant
