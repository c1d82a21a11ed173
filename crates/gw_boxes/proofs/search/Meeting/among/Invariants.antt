use Rattle.std.proofs.Common.{◌≡◌, ◌≤◌, true, ◌||◌, length, take}
use Rattle.std.specs.List.{list_any}
use Rattle.gw_boxes.specs.declared.boxes.Point.{Point}
use Rattle.gw_boxes.specs.Boxes.{holds}
use Rattle.gw_boxes.proofs.search.Meeting.among.Given as goal

abbrev pub invariant-loop-other : goal.invariant-loop-other
invariant-loop-other l =
    ((p : Point) → holds p l.part ≡ true → (holds p l.meeting.largest || list_any (holds p) l.meeting.rest.items)
    ≡ (holds p l.fn.first || list_any (holds p) (take l.other-index l.others)))
    × (length l.meeting.rest.items ≤ l.other-index)
