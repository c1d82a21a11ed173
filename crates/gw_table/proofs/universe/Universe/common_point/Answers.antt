use Rattle.std.proofs.Common.{List, subst, IfOk, MatchOption}
use Rattle.gw_boxes.specs.declared.boxes.Block.{Block}
use Rattle.gw_boxes.specs.Boxes.{IsFree, HasNoFree}
use Rattle.gw_table.proofs.Searched.{none_there, hidden_in_old, hidden_in_new, searched, are_before}
use Rattle.gw_table.proofs.universe.Universe.common_point.Goals as goal

pub returns-then-is_empty : goal.returns-then-is_empty
returns-then-is_empty c =
    none_there c.args.self c.args.old.now c.args.a c.args.new.now c.args.b c.part_at.result c.part_at-2.result
    c.within-part.result c.part_at.ensures c.part_at-2.ensures c.within-part.ensures c.if-is_empty.ensures

pub returns-then-hides : goal.returns-then-hides
returns-then-hides c =
    hidden_in_old c.args.self c.args.old.now c.args.a c.args.new.now c.args.b c.part_at.result c.part_at-2.result
    c.within-part.result c.part_at.ensures c.part_at-2.ensures c.within-part.ensures c.if-hides.ensures

pub returns-then-hides-2 : goal.returns-then-hides-2
returns-then-hides-2 c =
    hidden_in_new c.args.self c.args.old.now c.args.a c.args.new.now c.args.b c.part_at.result c.part_at-2.result
    c.within-part.result c.part_at.ensures c.part_at-2.ensures c.within-part.ensures c.if-hides-2.ensures

pub returns : goal.returns
returns c =
    let others = c.push_meeting-2.new.others.items in
    let before = are_before c.args.self c.args.old.now c.args.a c.args.new.now c.args.b c.part_at.result c.part_at-2.result
    c.within-part.result c.part_at.ensures c.part_at-2.ensures c.within-part.ensures c.new-others.result.items
    c.push_meeting.new.others.items others c.new-others.ensures.items c.in_ok-push_meeting.ensures
    c.in_ok-push_meeting-2.ensures in
    searched c.args.self c.args.old.now c.args.a c.args.new.now c.args.b c.part_at.result c.part_at-2.result
    c.within-part.result c.part_at.ensures c.part_at-2.ensures c.within-part.ensures others before
    c.requires.a c.requires.b c.free_point.result
    (subst (λ (list : List Block). IfOk c.free_point.result (λ found. MatchOption found
    (HasNoFree c.within-part.result list) (IsFree c.within-part.result list))) c.deref.ensures.value c.free_point.ensures)
