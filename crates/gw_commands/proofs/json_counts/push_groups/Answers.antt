use Rattle.std.proofs.Common.{◌++◌, ◌&&◌, arith, string_bytes, ap, ◌∙◌, refl}
use Rattle.gw_commands.specs.JsonCounts.{has_none, next_json, verdicts_in}
use Rattle.gw_commands.proofs.JsonTexts.{groups_done, groups_step}
use Rattle.gw_commands.proofs.json_counts.push_groups.Goals as goal

pub returns : goal.returns
returns c =
    let last = c.loop-group-test.false in
    let end = c.loop-group.auto.group-end in
    groups_done c.args.key.now c.args.groups.now c.loop-group.group c.args.count (string_bytes c.args.text.now)
    (string_bytes c.loop-group.text) (omega arith) c.loop-group.invariant.text

pub loop-group-preserved : goal.loop-group-preserved
loop-group-preserved c =
    groups_step c.args.key.now c.args.groups.now c.loop-group.group (string_bytes c.args.text.now)
    (string_bytes c.loop-group.text) (string_bytes c.push_next.new.text) c.loop-group.is_first c.in_ok-is_first.is_first
    (has_none (verdicts_in c.args.groups.now c.loop-group.group)) refl c.loop-group.invariant
    (c.in_ok-is_first.ensures.next
    ∙ ap (λ v. string_bytes c.loop-group.text ++ next_json c.args.key.now c.loop-group.group v c.loop-group.is_first)
    c.verdicts.ensures)
    (c.in_ok-is_first.ensures.first ∙ ap (λ v. c.loop-group.is_first && has_none v) c.verdicts.ensures)
