use Rattle.std.proofs.Common.{◌≡◌, ◌<◌, ◌≤◌, ◌∙◌, [], List, Option, length, slice_index_or, slice_set, arith, ap}
use Rattle.std.proofs.Common.{refl, sym, subst}
use Rattle.std.proofs.lemmas.List.{set-get_or}
use Rattle.gw_lanes.specs.Ends.{Outlet}
use Rattle.gw_ports.specs.Closing.{EachOf, IsRoomOf, Match, column_at, columns_of, lanes_of, lanes_to, rows_of}
use Rattle.gw_ports.specs.declared.closing.LaneLeft.{LaneLeft}
use Rattle.gw_ports.proofs.Rooms.{AllDone, all_end, columns_from, columns_from_first, no_rows, rooms_go_on, row_pairs}
use Rattle.gw_ports.proofs.closing.room.rooms.Goals as goal

pub loop-ingress-init : goal.loop-ingress-init
loop-ingress-init c =
    let rows = rows_of c.args.ins.now in
    let outs = c.args.outs.now in
    let first : columns_of outs ≡ columns_from 0 outs = sym (columns_from_first outs) in
    let begun : AllDone IsRoomOf 0 (lanes_of 0 rows (columns_of outs)) rows (columns_of outs) [] =
    record { each = λ more each. each } in (
      refl,
      refl,
      subst (λ (cs : List (List (Option Outlet))). Match rows cs) first c.requires.lanes,
      subst (λ (now : List LaneLeft). AllDone IsRoomOf 0 (lanes_of 0 rows (columns_of outs)) rows (columns_from 0 outs) now)
          (sym c.new-rooms.ensures.items)
          (subst (λ (cs : List (List (Option Outlet))). AllDone IsRoomOf 0 (lanes_of 0 rows (columns_of outs)) rows cs []) first
          begun),
    )

pub rooms_from-requires-clause-lanes : goal.rooms_from-requires-clause-lanes
rooms_from-requires-clause-lanes c =
    let at = c.loop-ingress in
    let inside : at.ingress < length c.args.ins.now = let s = at.auto.ins in let t = c.loop-ingress-test.true in omega arith in
    rw (at.invariant.0, at.invariant.1)
    (row_pairs at.ingress c.args.ins.now c.args.outs.now c.index-ins-ingress.result inside at.invariant.2)

pub loop-ingress-preserved : goal.loop-ingress-preserved
loop-ingress-preserved c =
    let at = c.loop-ingress in
    let ins = c.args.ins.now in
    let outs = c.args.outs.now in
    let d = c.index-ins-ingress.result in
    let inside : at.ingress < length ins = let s = at.auto.ins in let t = c.loop-ingress-test.true in omega arith in
    let all = lanes_of 0 (rows_of ins) (columns_of outs) in
    let rooms = c.in_ok-rooms_from.ensures.rooms in
    let each : EachOf IsRoomOf (lanes_to at.ingress 0 (slice_index_or ins at.ingress d).lanes (column_at at.ingress outs))
    rooms.0 =
    rw (sym at.invariant.0, sym at.invariant.1) rooms.2 in
    let goes =
    rooms_go_on at.ingress ins outs d all at.rooms.items rooms.0 c.rooms_from.new.rooms.items inside at.invariant.2 at.invariant.3
    each rooms.1 in (
      ap (λ x. slice_set at.ins at.ingress x) c.rooms_from.ensures.same.0 ∙ set-get_or at.ins at.ingress d ∙ at.invariant.0,
      c.rooms_from.ensures.same.1 ∙ at.invariant.1,
      goes.0,
      goes.1,
    )

pub returns-clause-rooms : goal.returns-clause-rooms
returns-clause-rooms c =
    let at = c.loop-ingress in
    let ins = c.args.ins.now in
    let outs = c.args.outs.now in
    let past : length ins ≤ at.ingress = let s = at.auto.ins in let t = c.loop-ingress-test.false in omega arith in
    all_end IsRoomOf at.ingress (lanes_of 0 (rows_of ins) (columns_of outs)) (columns_from at.ingress outs) at.rooms.items
    (subst (λ r. AllDone IsRoomOf at.ingress (lanes_of 0 (rows_of ins) (columns_of outs)) r (columns_from at.ingress outs)
    at.rooms.items)
    (no_rows at.ingress ins past) at.invariant.3)
