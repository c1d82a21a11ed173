use Rattle.std.proofs.Common.{◌≡◌, ◌<◌, ◌≤◌, ◌∙◌, ◌+◌, ◌++◌, [], drop, get_or, slice_set, length, map}
use Rattle.std.proofs.Common.{arith, ap, sym}
use Rattle.std.specs.Vec.Iter.{into_iter_items}
use Rattle.std.proofs.lemmas.List.{get_or-map, length-map, map-set}
use Rattle.gw_ports.specs.Ends.{lane_at}
use Rattle.gw_ports.specs.Closing.{heads}
use Rattle.gw_ports.proofs.Rooms.{one_passed, all_passed, row_behind}
use Rattle.gw_ports.proofs.Finishing.{TakesNext, takes_next, columns_of_row, rooms_split, row_goes_on, row_is_done}
use Rattle.gw_ports.proofs.closing.finish.finish_from.Goals as goal

pub finish_one-requires-clause-pair : goal.finish_one-requires-clause-pair
finish_one-requires-clause-pair c =
    let at = c.loop-from in
    let inv = at.invariant in
    let it = c.index-columns-egress.result in
    let below : at.egress < length at.columns =
    let s = at.auto.columns in
    let same = columns_of_row c.args.row.items (map into_iter_items c.args.columns.now) c.requires.pairs in
    let many = length-map c.args.columns.now into_iter_items in
    let next = ap length c.in-Some.ensures.steps.0 in
    let left = inv.2 in
    omega arith in
    let column : into_iter_items (get_or at.columns at.egress it) ≡ get_or (map into_iter_items at.columns) at.egress
    [] =
    sym (get_or-map into_iter_items at.columns at.egress it [] below) in
    (takes_next at.egress c.args.row.items (map into_iter_items c.args.columns.now) (map into_iter_items at.columns)
    (into_iter_items at.from-iterator) (into_iter_items c.next.new.self) c.in-Some.from c.next_lane-to.result
    inv.0 inv.1 inv.2 c.requires.pairs c.in-Some.ensures.steps.0
    (c.next_lane-to.ensures.head ∙ ap (λ l. lane_at l 0) column)).pair

pub finish_one-requires-clause-rooms : goal.finish_one-requires-clause-rooms
finish_one-requires-clause-rooms c =
    let at = c.loop-from in
    let inv = at.invariant in
    let row = c.args.row.items in
    let columns = map into_iter_items c.args.columns.now in
    let it = c.index-columns-egress.result in
    let below : at.egress < length at.columns =
    let s = at.auto.columns in
    let same = columns_of_row c.args.row.items (map into_iter_items c.args.columns.now) c.requires.pairs in
    let many = length-map c.args.columns.now into_iter_items in
    let next = ap length c.in-Some.ensures.steps.0 in
    let left = inv.2 in
    omega arith in
    let column : into_iter_items (get_or at.columns at.egress it) ≡ get_or (map into_iter_items at.columns) at.egress
    [] =
    sym (get_or-map into_iter_items at.columns at.egress it [] below) in
    let takes : TakesNext at.egress row columns c.in-Some.from c.next_lane-to.result (into_iter_items c.next.new.self) =
    takes_next at.egress row columns (map into_iter_items at.columns) (into_iter_items at.from-iterator)
    (into_iter_items c.next.new.self) c.in-Some.from c.next_lane-to.result inv.0 inv.1 inv.2 c.requires.pairs
    c.in-Some.ensures.steps.0 (c.next_lane-to.ensures.head ∙ ap (λ l. lane_at l 0) column) in (
      inv.3.0,
      at.egress,
      row_behind inv.3.0 (at.egress + 1) row (heads columns) ++ inv.3.1,
      rooms_split inv.3.0 at.egress row columns c.in-Some.from c.next_lane-to.result (into_iter_items c.next.new.self)
          inv.3.1
          (into_iter_items at.rooms) takes inv.3.2,
    )

pub loop-from-preserved : goal.loop-from-preserved
loop-from-preserved c =
    let at = c.loop-from in
    let inv = at.invariant in
    let row = c.args.row.items in
    let columns = map into_iter_items c.args.columns.now in
    let now = map into_iter_items at.columns in
    let it = c.index-columns-egress.result in
    let next = c.next_lane-to.new.column in
    let from = c.in-Some.from in
    let to = c.next_lane-to.result in
    let rest = into_iter_items c.next.new.self in
    let rooms = into_iter_items at.rooms in
    let rooms' = into_iter_items c.finish_one.new.rooms in
    let lefts = at.lanes.items in
    let lefts' = c.finish_one.new.lanes.items in
    let below : at.egress < length at.columns =
    let s = at.auto.columns in
    let same = columns_of_row c.args.row.items (map into_iter_items c.args.columns.now) c.requires.pairs in
    let many = length-map c.args.columns.now into_iter_items in
    let next = ap length c.in-Some.ensures.steps.0 in
    let left = inv.2 in
    omega arith in
    let column : into_iter_items (get_or at.columns at.egress it) ≡ get_or now at.egress [] =
    sym (get_or-map into_iter_items at.columns at.egress it [] below) in
    let takes : TakesNext at.egress row columns from to rest =
    takes_next at.egress row columns now (into_iter_items at.from-iterator) rest from to inv.0 inv.1 inv.2 c.requires.pairs
    c.in-Some.ensures.steps.0 (c.next_lane-to.ensures.head ∙ ap (λ l. lane_at l 0) column) in
    let many : length now ≡ length at.columns = length-map at.columns into_iter_items in
    let set : map into_iter_items (slice_set at.columns at.egress next)
    ≡ slice_set now at.egress (drop 1 (get_or now at.egress [])) =
    map-set into_iter_items at.columns at.egress next
    ∙ ap (λ l. slice_set now at.egress l) (c.next_lane-to.ensures.tail ∙ ap (λ l. drop 1 l) column) in
    let are =
    rooms_split inv.3.0 at.egress row columns from to rest inv.3.1 rooms takes inv.3.2 in
    let one = c.finish_one.ensures.left in (
      one_passed at.egress columns now (map into_iter_items (slice_set at.columns at.egress next)) inv.0
          (let s = inv.0.size in omega arith) set,
      takes.rest_is,
      takes.left,
      (
        inv.3.0,
        inv.3.1,
        ((one inv.3.0 at.egress).finished (row_behind inv.3.0 (at.egress + 1) row (heads columns) ++ inv.3.1) are).0,
      ),
      (λ ingress rooms'' lefts'' others.
          inv.4 ingress rooms'' lefts''
          (row_goes_on ingress at.egress row columns from to rest rooms rooms' rooms'' lefts lefts' lefts'' takes
          (one ingress at.egress) others)),
      c.finish_one.ensures.enough,
    )

pub returns-clause-columns : goal.returns-clause-columns
returns-clause-columns c =
    let at = c.loop-from in
    let inv = at.invariant in
    let row = c.args.row.items in
    let columns = map into_iter_items c.args.columns.now in
    let none : length (into_iter_items at.from-iterator) ≡ 0 =
    let e = c.in-None.ensures.steps.0 in let k = at.from-iterator.rest.ok.0 in omega arith in
    let past : length columns ≤ at.egress =
    let same = columns_of_row row columns c.requires.pairs in let left = inv.2 in omega arith in
    all_passed at.egress columns (map into_iter_items at.columns) inv.0 past

pub returns-clause-left : goal.returns-clause-left
returns-clause-left c = λ ingress.
    let at = c.loop-from in
    let inv = at.invariant in
    let none : length (into_iter_items at.from-iterator) ≡ 0 =
    let e = c.in-None.ensures.steps.0 in let k = at.from-iterator.rest.ok.0 in omega arith in
    let past : length c.args.row.items ≤ at.egress = let left = inv.2 in omega arith in
    inv.4 ingress (into_iter_items at.rooms) at.lanes.items
    (row_is_done ingress at.egress c.args.row.items (map into_iter_items c.args.columns.now) (into_iter_items at.rooms)
    at.lanes.items past)
