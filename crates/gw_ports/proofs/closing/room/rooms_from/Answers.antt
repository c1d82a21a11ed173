use Rattle.std.proofs.Common.{◌≡◌, ◌<◌, ◌≤◌, ◌∙◌, List, Option, None, length, slice_set, slice_index_or, arith, ap, sym}
use Rattle.std.proofs.Common.{subst}
use Rattle.std.proofs.lemmas.List.{get_or-map, length-map, set-get_or}
use Rattle.gw_lanes.specs.Ends.{Outlet}
use Rattle.gw_ports.specs.Ends.{Ingress, Egress, lane_at}
use Rattle.gw_ports.specs.Closing.{EachOf, IsRoomOf, column_at, lane_of}
use Rattle.gw_ports.proofs.Rooms.{outs_of_row, pair_at, row_ends, row_more}
use Rattle.gw_ports.proofs.closing.room.rooms_from.Goals as goal

pub room_for-requires : goal.room_for-requires
room_for-requires c =
    let at = c.loop-egress in
    let below : at.egress < length c.args.outs.now =
    let s = at.auto.outs in let t = c.loop-egress-test.true in omega arith in
    rw (at.invariant.0, at.invariant.1)
    (pair_at c.args.ingress at.egress c.args.from.now.lanes c.args.outs.now c.index-outs-egress.result c.requires.lanes
    below)

pub loop-egress-preserved : goal.loop-egress-preserved
loop-egress-preserved c =
    let at = c.loop-egress in
    let ingress = c.args.ingress in
    let row = c.args.from.now.lanes in
    let outs = c.args.outs.now in
    let d = c.index-outs-egress.result in
    let room = c.in_ok-room_for.ensures.room in
    let below : at.egress < length outs = let s = at.auto.outs in let t = c.loop-egress-test.true in omega arith in
    let size = outs_of_row ingress row outs c.requires.lanes in
    let many = length-map outs (λ (e : Egress). lane_at e.lanes ingress) in
    let outlet : lane_at (column_at ingress outs) at.egress ≡ lane_at (slice_index_or outs at.egress d).lanes ingress =
    get_or-map (λ (e : Egress). lane_at e.lanes ingress) outs at.egress d None below in
    let each : EachOf IsRoomOf (lane_of ingress at.egress (lane_at row at.egress)
    (lane_at (column_at ingress outs) at.egress)) room.0 =
    subst (λ (o : Option Outlet). EachOf IsRoomOf (lane_of ingress at.egress (lane_at row at.egress) o) room.0)
    (sym outlet)
    (subst (λ (o : List Egress). EachOf IsRoomOf
    (lane_of ingress at.egress (lane_at row at.egress) (lane_at (slice_index_or o at.egress d).lanes ingress))
    room.0)
    at.invariant.1
    (subst (λ (i : Ingress). EachOf IsRoomOf (lane_of ingress at.egress (lane_at i.lanes at.egress)
    (lane_at (slice_index_or at.outs at.egress d).lanes ingress)) room.0) at.invariant.0 room.2)) in (
      c.room_for.ensures.same.0 ∙ at.invariant.0,
      ap (λ x. slice_set at.outs at.egress x) c.room_for.ensures.same.1 ∙ set-get_or at.outs at.egress d
          ∙ at.invariant.1,
      row_more IsRoomOf ingress at.egress row (column_at ingress outs) c.args.rooms.now.items at.rooms.items room.0
          c.room_for.new.rooms.items at.invariant.2 (omega arith) (omega arith) each room.1,
    )

pub returns-clause-rooms : goal.returns-clause-rooms
returns-clause-rooms c =
    let at = c.loop-egress in
    let size = outs_of_row c.args.ingress c.args.from.now.lanes c.args.outs.now c.requires.lanes in
    let past : length c.args.from.now.lanes ≤ at.egress =
    let s = at.auto.outs in let t = c.loop-egress-test.false in omega arith in
    row_ends IsRoomOf c.args.ingress at.egress c.args.from.now.lanes (column_at c.args.ingress c.args.outs.now)
    c.args.rooms.now.items
    at.rooms.items at.invariant.2 past
