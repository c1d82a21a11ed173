use Rattle.std.proofs.Common.{string_bytes, ap, ◌∙◌, arith}
use Rattle.gw_commands.specs.LogCounts.{group_line, group_text, name_in}
use Rattle.gw_input.proofs.Callers.{line_more}
use Rattle.gw_commands.proofs.LogTexts.{groups_done}
use Rattle.gw_commands.proofs.log_counts.push_groups.Goals as goal

pub loop-group-preserved : goal.loop-group-preserved
loop-group-preserved c =
    let key = c.args.key.now in
    let group = c.loop-group.group in
    let name = c.name_in-name.ensures ∙ ap (λ by. name_in by group) c.grouping.ensures in
    line_more (group_line key c.args.groups.now) group (string_bytes c.args.text.now) (string_bytes c.loop-group.text)
    (group_text key group c.name_in-name.result.now c.verdicts.result) (string_bytes c.push_group.new.text)
    c.loop-group.invariant
    (ap (λ name. group_text key group name c.verdicts.result) name
    ∙ ap (group_text key group (name_in c.args.groups.now.grouping group)) c.verdicts.ensures)
    c.in_ok-push_group.ensures

pub returns : goal.returns
returns c =
    let last = c.loop-group-test.false in
    let end = c.loop-group.auto.group-end in
    groups_done c.args.key.now c.args.groups.now c.args.count c.loop-group.group (string_bytes c.args.text.now)
    (string_bytes c.loop-group.text) (omega arith) c.loop-group.invariant
