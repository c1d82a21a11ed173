use Rattle.std.proofs.Common.{length, ◌≡◌, true}
use Rattle.std.specs.Prelude.{take}
use Rattle.std.specs.List.{list_any}
use Rattle.gw_boxes.specs.declared.boxes.Point.{Point}
use Rattle.gw_boxes.specs.Boxes.{holds}
use Rattle.gw_boxes.proofs.search.+free_point.Given as goal

abbrev pub decreases-free_point : goal.decreases-free_point
decreases-free_point l = length l.others.now

abbrev pub invariant-loop-piece : goal.invariant-loop-piece
invariant-loop-piece l =
    (p : Point) → list_any (holds p) (take l.piece-index l.piece-items) ≡ true → list_any (holds p) l.meeting.rest.items ≡ true
