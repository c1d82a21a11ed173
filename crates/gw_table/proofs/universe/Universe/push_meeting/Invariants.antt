use Rattle.std.proofs.Common.{◌≡◌, true, ◌||◌}
use Rattle.std.specs.Prelude.{take}
use Rattle.std.specs.List.{list_any}
use Rattle.gw_boxes.specs.declared.boxes.Point.{Point}
use Rattle.gw_boxes.specs.Boxes.{holds}
use Rattle.gw_table.specs.Universes.{lies_in_rule}
use Rattle.gw_table.proofs.universe.Universe.push_meeting.Given as goal

abbrev pub invariant-loop-rule : goal.invariant-loop-rule
invariant-loop-rule l =
    (p : Point) → holds p l.part ≡ true → list_any (holds p) l.others.items
    ≡ (list_any (holds p) l.fn.others.items || list_any (lies_in_rule l.self p) (take l.rule-index l.rules))
