use Rattle.std.proofs.Common.{◌∷◌}
use Rattle.gw_boxes.proofs.Pieces.{free_in_piece, one_more, none_left}
use Rattle.gw_boxes.proofs.search.+free_point.Goals as goal

pub returns-in-Some-2 : goal.returns-in-Some-2
returns-in-Some-2 t c =
    let rest = c.in_ok-meeting.meeting.rest.items in
    let found = rw c.in-Some-2.is at c.in_ok-point.ensures in
    let free = rw c.deref.ensures.value at found in
    rw c.in-Some-split_first.ensures.cases.0 (free_in_piece c.args.part c.in_ok-meeting.meeting.largest
    (c.in-Some-split_first.first.now ∷ c.in-Some-split_first.rest.now) rest c.pieces-piece-items.result
    c.pieces-piece-items.ensures c.in_ok-meeting.ensures.same c.loop-piece.piece-index _ c.in-Some-2.point c.loop-piece-test.true
    free)

pub loop-piece-preserved : goal.loop-piece-preserved
loop-piece-preserved t c =
    let rest = c.in_ok-meeting.meeting.rest.items in
    let found = rw c.in_default-2.is at c.in_ok-point.ensures in
    let none = rw c.deref.ensures.value at found in
    one_more c.args.part c.in_ok-meeting.meeting.largest (c.in-Some-split_first.first.now ∷ c.in-Some-split_first.rest.now) rest
    c.pieces-piece-items.result c.pieces-piece-items.ensures c.in_ok-meeting.ensures.same c.loop-piece.piece-index _
    c.loop-piece-test.true c.loop-piece.invariant none

pub returns : goal.returns
returns t c =
    let rest = c.in_ok-meeting.meeting.rest.items in
    rw c.in-Some-split_first.ensures.cases.0 (none_left c.args.part c.in_ok-meeting.meeting.largest
    (c.in-Some-split_first.first.now ∷ c.in-Some-split_first.rest.now) rest c.pieces-piece-items.result
    c.pieces-piece-items.ensures c.in_ok-meeting.ensures.same c.loop-piece.piece-index c.loop-piece-test.false
    c.loop-piece.invariant)
