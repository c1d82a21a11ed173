-- Finishing lanes, one behind the other.
use Rattle.std.proofs.Common.{◌≡◌, ◌∙◌, ℕ, suc, ◌+◌, ◌<◌, ◌≤◌, List, [], ◌∷◌, ◌++◌, length, map, drop, get_or, Option, None}
use Rattle.std.proofs.Common.{sym, ap, subst, arith, append_assoc, append-nil}
use Rattle.gw_lanes.specs.Ends.{Inlet, Outlet}
use Rattle.gw_ports.specs.Ends.{lane_at, ring_to, ring_from}
use Rattle.std.proofs.lemmas.List.{drop_more, get_or-map, length-map}
use Rattle.gw_ports.specs.Closing.{Lane, lane_of, lanes_to, lanes_of, heads, tails, Match, AreRooms}
use Rattle.gw_ports.specs.Closing.{IsLeft, AreLeft, Finishes}
use Rattle.gw_ports.specs.declared.closing.LaneLeft.{LaneLeft}
use Rattle.gw_ports.proofs.Rooms.{Passed, each-append, row_behind, row_next, row_end}

-- no lane
pub finishes_nothing : (rooms lefts : List LaneLeft) → Finishes [] rooms rooms lefts lefts
finishes_nothing rooms lefts = record { finished = λ others are. (are, ([], sym (append-nil lefts), tt)) }

-- lanes behind lanes
pub finishes_more : (lanes lanes' : List Lane) (rooms rooms' rooms'' lefts lefts' lefts'' : List LaneLeft)
    → Finishes lanes rooms rooms' lefts lefts' → Finishes lanes' rooms' rooms'' lefts' lefts''
    → Finishes (lanes ++ lanes') rooms rooms'' lefts lefts''
finishes_more lanes lanes' rooms rooms' rooms'' lefts lefts' lefts'' first then = record {
  finished = λ others are.
      let one = first.finished (lanes' ++ others) (subst (λ (l : List Lane). AreRooms l rooms) (append_assoc lanes lanes' others)
      are) in
      let two = then.finished others one.0 in (
        two.0,
        (
          one.1.0 ++ two.1.0,
          two.1.1 ∙ ap (λ l. l ++ two.1.0) one.1.1 ∙ append_assoc lefts one.1.0 two.1.0,
          each-append IsLeft lanes lanes' one.1.0 two.1.0 one.1.2 two.1.2,
        ),
      );
}

-- the lanes from one port

-- the next end of the row and the first of the next column are those of the next egress port
pub record TakesNext (egress : ℕ) (row : List (Option Inlet)) (columns : List (List (Option Outlet))) (from : Option Inlet)
    (to : Option Outlet) (rest : List (Option Inlet)) : Type 0 where
  pub inside : egress < length row
  pub inside' : egress < length (heads columns)
  pub from_is : from ≡ lane_at row egress
  pub to_is : to ≡ lane_at (heads columns) egress
  pub rest_is : rest ≡ drop (egress + 1) row
  pub left : egress + 1 + length rest ≡ length row
  pub pair : ring_to from ≡ ring_from to

pub takes_next : (egress : ℕ) (row : List (Option Inlet)) (columns now : List (List (Option Outlet)))
    (rest rest' : List (Option Inlet)) (from : Option Inlet) (to : Option Outlet) → Passed egress columns now
    → rest ≡ drop egress row → egress + length rest ≡ length row → map ring_to row ≡ map ring_from (heads columns)
    → rest ≡ from ∷ rest' → to ≡ lane_at (get_or now egress []) 0 → TakesNext egress row columns from to rest'
takes_next egress row columns now rest rest' from to so_far is left pairs next head =
    let one : length rest ≡ suc (length rest') = ap length next in
    let inside : egress < length row = omega arith in
    let size : length row ≡ length (heads columns) =
    sym (length-map row ring_to) ∙ ap length pairs ∙ length-map (heads columns) ring_from in
    let many : length (heads columns) ≡ length columns = length-map columns (λ (c : List (Option Outlet)). lane_at c 0) in
    let inside' : egress < length (heads columns) = omega arith in
    let split : from ∷ rest' ≡ lane_at row egress ∷ drop (egress + 1) row =
    sym next ∙ is ∙ drop_more row egress None inside in
    let from_is : from ≡ lane_at row egress = cc split in
    let rest_is : rest' ≡ drop (egress + 1) row = cc split in
    let to_is : to ≡ lane_at (heads columns) egress =
    head ∙ ap (λ c. lane_at c 0) (so_far.waiting egress (omega arith))
    ∙ sym (get_or-map (λ (c : List (Option Outlet)). lane_at c 0) columns egress [] None (omega arith)) in
    let ends : ring_to (lane_at row egress) ≡ ring_from (lane_at (heads columns) egress) =
    sym (get_or-map ring_to row egress None None inside) ∙ ap (λ l. get_or l egress None) pairs
    ∙ get_or-map ring_from (heads columns) egress None None inside' in
    record {
      inside = inside;
      inside' = inside';
      from_is = from_is;
      to_is = to_is;
      rest_is = rest_is;
      left = omega arith;
      pair = ap ring_to from_is ∙ ends ∙ sym (ap ring_from to_is);
    }

-- so the lanes to the other egress ports begin with the lane of these ends
pub row_splits : (ingress egress : ℕ) (row : List (Option Inlet)) (columns : List (List (Option Outlet)))
    (from : Option Inlet)
    (to : Option Outlet) (rest : List (Option Inlet)) → TakesNext egress row columns from to rest
    → row_behind ingress egress row (heads columns)
    ≡ lane_of ingress egress from to ++ row_behind ingress (egress + 1) row (heads columns)
row_splits ingress egress row columns from to rest takes =
    row_next ingress egress row (heads columns) takes.inside takes.inside'
    ∙ ap (λ f. lane_of ingress egress f (lane_at (heads columns) egress)
    ++ row_behind ingress (egress + 1) row (heads columns))
    (sym takes.from_is)
    ∙ ap (λ t. lane_of ingress egress from t ++ row_behind ingress (egress + 1) row (heads columns)) (sym takes.to_is)

-- they have room
pub rooms_split : (ingress egress : ℕ) (row : List (Option Inlet)) (columns : List (List (Option Outlet)))
    (from : Option Inlet)
    (to : Option Outlet) (rest : List (Option Inlet)) (others : List Lane) (rooms : List LaneLeft)
    → TakesNext egress row columns from to rest → AreRooms (row_behind ingress egress row (heads columns) ++ others)
    rooms
    → AreRooms (lane_of ingress egress from to ++ (row_behind ingress (egress + 1) row (heads columns) ++ others)) rooms
rooms_split ingress egress row columns from to rest others rooms takes are =
    subst (λ (l : List Lane). AreRooms l rooms)
    (ap (λ l. l ++ others) (row_splits ingress egress row columns from to rest takes)
    ∙ append_assoc (lane_of ingress egress from to) (row_behind ingress (egress + 1) row (heads columns)) others)
    are

-- once the lane of these ends and then the others are finished, all are
pub row_goes_on : (ingress egress : ℕ) (row : List (Option Inlet)) (columns : List (List (Option Outlet)))
    (from : Option Inlet)
    (to : Option Outlet) (rest : List (Option Inlet)) (rooms rooms' rooms'' lefts lefts' lefts'' : List LaneLeft)
    → TakesNext egress row columns from to rest → Finishes (lane_of ingress egress from to) rooms rooms' lefts lefts'
    → Finishes (row_behind ingress (egress + 1) row (heads columns)) rooms' rooms'' lefts' lefts''
    → Finishes (row_behind ingress egress row (heads columns)) rooms rooms'' lefts lefts''
row_goes_on ingress egress row columns from to rest rooms rooms' rooms'' lefts lefts' lefts'' takes one others =
    subst (λ (l : List Lane). Finishes l rooms rooms'' lefts lefts'')
    (sym (row_splits ingress egress row columns from to rest takes))
    (finishes_more (lane_of ingress egress from to) (row_behind ingress (egress + 1) row (heads columns)) rooms rooms'
    rooms''
    lefts lefts' lefts'' one others)

-- behind the last egress port there is nothing to finish
pub row_is_done : (ingress egress : ℕ) (row : List (Option Inlet)) (columns : List (List (Option Outlet)))
    (rooms lefts : List LaneLeft) → length row ≤ egress
    → Finishes (row_behind ingress egress row (heads columns)) rooms rooms lefts lefts
row_is_done ingress egress row columns rooms lefts past =
    subst (λ (l : List Lane). Finishes l rooms rooms lefts lefts) (sym (row_end ingress egress row (heads columns) past))
    (finishes_nothing rooms lefts)

-- the lanes from all ports

-- one port more
pub port_goes_on : (ingress : ℕ) (row : List (Option Inlet)) (rows : List (List (Option Inlet)))
    (columns columns' : List (List (Option Outlet))) (rooms rooms' lefts lefts' : List LaneLeft)
    → Match (row ∷ rows) columns → AreRooms (lanes_of ingress (row ∷ rows) columns) rooms
    → Finishes (lanes_to ingress 0 row (heads columns)) rooms rooms' lefts lefts' → columns' ≡ tails columns
    → Match rows columns' × AreRooms (lanes_of (suc ingress) rows columns') rooms'
    × ((rooms'' lefts'' : List LaneLeft) → Finishes (lanes_of (suc ingress) rows columns') rooms' rooms'' lefts' lefts''
    → Finishes (lanes_of ingress (row ∷ rows) columns) rooms rooms'' lefts lefts'')
port_goes_on ingress row rows columns columns' rooms rooms' lefts lefts' match are one is =
    subst
    (λ (now : List (List (Option Outlet))). Match rows now × AreRooms (lanes_of (suc ingress) rows now) rooms'
    × ((rooms'' lefts'' : List LaneLeft) → Finishes (lanes_of (suc ingress) rows now) rooms' rooms'' lefts' lefts''
    → Finishes (lanes_of ingress (row ∷ rows) columns) rooms rooms'' lefts lefts''))
    (sym is) (
      match.1,
      (one.finished (lanes_of (suc ingress) rows (tails columns)) are).0,
      λ rooms'' lefts'' others.
          finishes_more (lanes_to ingress 0 row (heads columns)) (lanes_of (suc ingress) rows (tails columns)) rooms rooms'
          rooms'' lefts lefts' lefts'' one others,
    )

-- when all are finished, what stands in the list is what is left of them
pub all_finished : (lanes : List Lane) (rooms rooms' lefts lefts' : List LaneLeft) → Finishes lanes rooms rooms' lefts lefts'
    → lefts ≡ [] → AreRooms lanes rooms → AreLeft lanes lefts'
all_finished lanes rooms rooms' lefts lefts' done empty are =
    let all = done.finished [] (subst (λ (l : List Lane). AreRooms l rooms) (sym (append-nil lanes)) are) in
    subst (λ (l : List LaneLeft). AreLeft lanes l) (sym (all.1.1 ∙ ap (λ l. l ++ all.1.0) empty)) all.1.2

-- as many columns as the row has ends
pub columns_of_row : (row : List (Option Inlet)) (columns : List (List (Option Outlet)))
    → map ring_to row ≡ map ring_from (heads columns) → length columns ≡ length row
columns_of_row row columns pairs =
    sym (length-map columns (λ (c : List (Option Outlet)). lane_at c 0)) ∙ sym (length-map (heads columns) ring_from)
    ∙ sym (ap length pairs) ∙ length-map row ring_to
