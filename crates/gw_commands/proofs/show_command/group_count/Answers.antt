use Rattle.std.proofs.Common.{◌∙◌, sym, arith}
use Rattle.gw_commands.proofs.ShownTexts.{all_counted, counted, passed_over}
use Rattle.gw_commands.proofs.show_command.group_count.Goals as goal
use Rattle.gw_commands.proofs.show_command.group_count.Goals.{then-is_group, else-is_group}

pub loop-number-preserved : goal.loop-number-preserved
loop-number-preserved c =
    let low = c.args.range.low in
    let number = c.loop-number.number in
    let count = c.loop-number.count in
    let groups = c.loop-number.invariant.groups in
    let least = c.loop-number.invariant.least in
    let few = c.loop-number.invariant.few in
    let last = c.loop-number-test.true in
    let behind = c.from-number-end.ensures in
    elim c.if-is_group.branch [
      | then-is_group w ↦
          let more = w.count-is in
          record {
            groups = more ∙ counted low number count least (sym c.is_group.ensures ∙ w.if-is_group.true) groups;
            least = omega arith;
            most = omega arith;
            few = omega arith;
          }
      | else-is_group w ↦
          let same = w.count-is in
          record {
            groups = same ∙ passed_over low number count least (sym c.is_group.ensures ∙ w.if-is_group.false) groups;
            least = omega arith;
            most = omega arith;
            few = omega arith;
          }
    ]

pub returns : goal.returns
returns c =
    let number = c.loop-number.number in
    let last = c.loop-number-test.false in
    let behind = c.from-number-end.ensures in
    let least = c.loop-number.invariant.least in
    let most = c.loop-number.invariant.most in
    all_counted c.args.range number c.loop-number.count (omega arith) c.loop-number.invariant.groups
