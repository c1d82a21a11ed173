use Rattle.std.proofs.Common.{◌≡◌, ◌∙◌, ◌++◌, ◌∷◌, [], suc, List, Option, drop, take, length, map, arith, ap, sym, subst}
use Rattle.std.specs.Vec.Iter.{into_iter_items}
use Rattle.std.proofs.lemmas.List.{length-map, nil_from_length, with_items_is}
use Rattle.gw_lanes.specs.Ends.{Inlet, Outlet}
use Rattle.gw_ports.specs.Closing.{AreRooms, Finishes, Match, heads, tails, lanes_of, lanes_to, rows_of}
use Rattle.gw_ports.specs.declared.closing.LaneLeft.{LaneLeft}
use Rattle.gw_ports.proofs.Finishing.{port_goes_on, all_finished, finishes_nothing}
use Rattle.gw_ports.proofs.closing.finish.finish_all.Goals as goal

pub loop-port-preserved : goal.loop-port-preserved
loop-port-preserved c =
    let at = c.loop-port in
    let inv = at.invariant in
    let ingress = inv.0 in
    let row = c.in-Some.port.lanes in
    let rows = rows_of (into_iter_items c.next.new.self) in
    let old = at.columns.items in
    let new = c.finish_from.new.columns in
    let columns = map into_iter_items old in
    let rooms = into_iter_items at.rooms in
    let rooms' = into_iter_items c.finish_from.new.rooms in
    let lefts = at.lanes.items in
    let lefts' = c.finish_from.new.lanes.items in
    let value = c.deref_mut.ensures.value in
    let next : rows_of (into_iter_items at.port-iterator) ≡ row ∷ rows = ap rows_of c.in-Some.ensures.steps.0 in
    let tail : map into_iter_items new ≡ tails columns =
    c.finish_from.ensures.columns ∙ ap (λ l. tails (map into_iter_items l)) value in
    let size : length new ≡ length old =
    sym (length-map new into_iter_items) ∙ ap length tail ∙ length-map columns (λ (l : List (Option Outlet)). drop 1 l)
    ∙ length-map old into_iter_items in
    let items : take at.columns.len (new ++ drop (length new) old) ≡ new =
    with_items_is at.columns new (size ∙ sym at.columns.ok.0) in
    let now : map into_iter_items (take at.columns.len (new ++ drop (length new) old)) ≡ tails columns =
    ap (λ l. map into_iter_items l) items ∙ tail in
    let one : Finishes (lanes_to ingress 0 row (heads columns)) rooms rooms' lefts lefts' =
    subst (λ (r : List (Option Inlet)). Finishes (lanes_to ingress 0 r (heads columns)) rooms rooms' lefts lefts')
    c.into_lanes.ensures
    (subst (λ l. Finishes (lanes_to ingress 0 c.into_lanes.result.items (heads (map into_iter_items l))) rooms rooms' lefts
    lefts')
    value
    (c.finish_from.ensures.left ingress)) in
    let match = subst (λ (r : List (List (Option Inlet))). Match r columns) next inv.1 in
    let are = subst (λ (r : List (List (Option Inlet))). AreRooms (lanes_of ingress r columns) rooms) next inv.2 in
    let goes =
    port_goes_on ingress row rows columns (map into_iter_items (take at.columns.len (new ++ drop (length new) old))) rooms rooms'
    lefts lefts' match are one now in (
      suc ingress,
      goes.0,
      goes.1,
      (λ rooms'' lefts'' others.
          inv.3 rooms'' lefts''
          (subst (λ (r : List (List (Option Inlet))). Finishes (lanes_of ingress r columns) rooms rooms'' lefts lefts'')
          (sym next)
          (goes.2 rooms'' lefts'' others))),
      c.finish_from.ensures.enough,
    )

pub returns : goal.returns
returns c =
    let at = c.loop-port in
    let inv = at.invariant in
    let columns = map into_iter_items at.columns.items in
    let rooms = into_iter_items at.rooms in
    let lefts = at.lanes.items in
    let none : into_iter_items at.port-iterator ≡ [] =
    nil_from_length (into_iter_items at.port-iterator)
    (let e = c.in-None.ensures.steps.0 in let k = at.port-iterator.rest.ok.0 in omega arith) in
    let done =
    inv.3 rooms lefts
    (subst (λ (r : List (List (Option Inlet))). Finishes (lanes_of inv.0 r columns) rooms rooms lefts lefts)
    (sym (ap rows_of none)) (finishes_nothing rooms lefts)) in
    all_finished (lanes_of 0 (rows_of c.args.ins.items) (map into_iter_items c.args.columns.items))
    (into_iter_items c.into_iter-rooms.result)
    rooms c.args.lanes.items lefts done c.requires.empty
    (subst (λ (l : List LaneLeft). AreRooms (lanes_of 0 (rows_of c.args.ins.items) (map into_iter_items c.args.columns.items)) l)
    (sym c.into_iter-rooms.ensures.rest) c.requires.rooms)
