-- The parts of one gateway, and that they stay so.
use Rattle.std.proofs.Common.{◌≡◌, ◌∙◌, ℕ, suc, ◌+◌, ◌<◌, ◌≤◌, Bool, true, false, List, [], ◌∷◌, length, map, drop, slice_set}
use Rattle.std.proofs.Common.{get_or, Option, Some, None, option_map, sym, ap, subst, refl, arith}
use Rattle.std.specs.List.{All}
use Rattle.std.proofs.lemmas.List.{get_or-map, get_or-drop, length-map, map-set, same_lists, set-get_or}
use Rattle.gw_board.specs.Ends.{Board, Publishing}
use Rattle.gw_ledger.specs.Ports.{has_port}
use Rattle.gw_ledger.specs.declared.outcome.FrameCopy.{FrameCopy}
use Rattle.gw_lanes.specs.Ends.{Inlet, Outlet, Ring, new_outlet}
use Rattle.gw_ports.specs.Ends.{Ingress, Egress, EndIn, EndOut, end_in, end_out, lane_at, lane_to, ring_to, ring_from}
use Rattle.gw_ports.specs.Making.{AreEnds, AreNewEnds, AreOfOneGateway, IsEndIn, IsEndOut, lanes_from}
use Rattle.gw_ports.specs.Placing.{PlacesCopies}
use Rattle.gw_ports.specs.Sending.{PopsFrom}
use Rattle.gw_ports.specs.Closing.{Match, rows_of, columns_of, heads, tails}
use Rattle.gw_ports.proofs.Placing.{Next}

-- placing and taking copies leave each lane its ring

ring_stays : (placed : Bool) (allowed : List ℕ) (copy : FrameCopy) (port : ℕ) (lane lane' : Option Inlet)
    → Next allowed copy port lane lane' placed → ring_to lane' ≡ ring_to lane
ring_stays true allowed copy port lane lane' next = ap ring_to next.1.is ∙ sym (ap ring_to next.1.was)
ring_stays false allowed copy port lane lane' next = ap ring_to next.0

pub rings_stay : (allowed : List ℕ) (copy : FrameCopy) (placed : List ℕ) (lanes lanes' : List (Option Inlet))
    → PlacesCopies allowed copy placed lanes lanes' → map ring_to lanes' ≡ map ring_to lanes
rings_stay allowed copy placed lanes lanes' done =
    let size = done.size in
    let many = length-map lanes ring_to in
    let many' = length-map lanes' ring_to in
    same_lists (map ring_to lanes') (map ring_to lanes) (many' ∙ size ∙ sym many) (λ k d below.
    get_or-map ring_to lanes' k None d (omega arith)
    ∙ ring_stays (has_port k placed) allowed copy k (lane_at lanes k) (lane_at lanes' k) (done.ports k)
    ∙ sym (get_or-map ring_to lanes k None d (omega arith)))

pub rings_stay_below : (ingress : ℕ) (copy : FrameCopy) (lanes lanes' : List (Option Outlet)) → PopsFrom ingress lanes copy lanes'
    → map ring_from lanes' ≡ map ring_from lanes
rings_stay_below ingress copy lanes lanes' pops =
    let there = pops.there in
    let ring : ring_from (lane_at lanes' ingress) ≡ ring_from (lane_at lanes ingress) = ap ring_from pops.lane.is
    ∙ sym (ap ring_from pops.lane.was) in
    ap (λ l. map ring_from l) pops.others ∙ map-set ring_from lanes ingress (lane_at lanes' ingress)
    ∙ ap (λ r. slice_set (map ring_from lanes) ingress r)
    (ring ∙ sym (get_or-map ring_from lanes ingress None None there))
    ∙ set-get_or (map ring_from lanes) ingress None

abbrev pub end_of : ℕ → Board → List (Option Ring) → EndIn
end_of port board rings = record { port = port; board = board; rings = rings }

pub same_end : (port : ℕ) (board board' : Board) (rings rings' : List (Option Ring)) → board ≡ board' → rings ≡ rings'
    → end_of port board rings ≡ end_of port board' rings'
same_end port board board' rings rings' same same' = rw (same, same') refl

-- the ends of a new gateway are of one gateway

same_ring : (lane : Option Inlet) → ring_to lane ≡ ring_from (option_map new_outlet lane)
same_ring None = refl
same_ring (Some inlet) = refl

module _ (board : Board) (ports frames room : ℕ) (ins : List Ingress) (outs : List Egress) where
  new_ends : (i : Ingress) (o : Egress) → ports ≤ 16 → AreNewEnds ports frames room ins outs
      → All (λ a. a.board ≡ board) ins → AreEnds board ports (map end_in ins) (map end_out outs)
  new_ends i o few new known =
      let many = new.enough_ins in
      let many_outs = new.enough_outs in record {
        few = few;
        enough_ins = length-map ins end_in ∙ many;
        enough_outs = length-map outs end_out ∙ many_outs;
        ingress = λ k d below.
            let made = new.ingress k i (omega arith) in
            subst (λ (e : EndIn). IsEndIn board ports k e) (sym (get_or-map end_in ins k i d (omega arith)))
            (made.number, known k i (omega arith), length-map (get_or ins k i).lanes ring_to ∙ made.lanes.0);
        egress = λ k d below.
            let lanes = ap (λ (e : Egress). e.lanes) (new.egress k o (omega arith)) in
            subst (λ (e : EndOut). IsEndOut ports k e) (sym (get_or-map end_out outs k o d (omega arith))) (
              ap (λ (e : Egress). e.port) (new.egress k o (omega arith)),
              length-map (get_or outs k o).lanes ring_from ∙ ap length lanes
                  ∙ length-map ins (λ a. option_map new_outlet (lane_to k a)) ∙ many,
            );
        lanes = λ from to d e below below'.
            let row = (get_or ins from i).lanes in
            let size = (new.ingress from i (omega arith)).lanes.0 in
            let column = lanes_from to ins in
            let count = length-map ins (λ a. option_map new_outlet (lane_to to a)) in
            ap (λ (x : EndIn). lane_at x.rings to) (get_or-map end_in ins from i d (omega arith))
            ∙ get_or-map ring_to row to None None (omega arith)
            ∙ same_ring (lane_at row to)
            ∙ ap ring_from (sym (get_or-map (λ a. option_map new_outlet (lane_to to a)) ins from i None (omega arith)))
            ∙ sym (get_or-map ring_from column from None None (omega arith))
            ∙ ap (λ (x : Egress). lane_at (map ring_from x.lanes) from) (sym (new.egress to o (omega arith)))
            ∙ ap (λ (x : EndOut). lane_at x.rings from) (sym (get_or-map end_out outs to o e (omega arith)));
      }

pub new_gateway : (board : Board) (ports frames room : ℕ) (ins : List Ingress) (outs : List Egress)
    → AreNewEnds ports frames room ins outs → All (λ a. a.board ≡ board) ins
    → AreEnds board ports (map end_in ins) (map end_out outs)
new_gateway board ports frames room [] outs new known =
    let none = new.enough_ins in
    let many = new.enough_outs in record {
      few = omega arith;
      enough_ins = none;
      enough_outs = length-map outs end_out ∙ many;
      ingress = λ k d below. absurd (omega arith);
      egress = λ k d below. absurd (omega arith);
      lanes = λ from to d e below below'. absurd (omega arith);
    }
new_gateway board ports frames room (i ∷ ins) [] new known =
    let some = new.enough_ins in let none = new.enough_outs in absurd (omega arith)
new_gateway board ports frames room (i ∷ ins) (o ∷ outs) new known =
    let first = (new.ingress 0 i (omega arith)).lanes in
    let most = first.1.most in
    let size = first.0 in
    new_ends board ports frames room (i ∷ ins) (o ∷ outs) i o (omega arith) new known

-- a call of one end leaves them the parts of one gateway

pub ends_in_stay : (ins : List Ingress) (k : ℕ) (d new : Ingress) → k < length ins → end_in new ≡ end_in (get_or ins k d)
    → map end_in (slice_set ins k new) ≡ map end_in ins
ends_in_stay ins k d new inside same = map-set end_in ins k new
    ∙ ap (λ e. slice_set (map end_in ins) k e) (same ∙ sym (get_or-map end_in ins k d (end_in d) inside))
    ∙ set-get_or (map end_in ins) k (end_in d)

pub ends_out_stay : (outs : List Egress) (k : ℕ) (d new : Egress) → k < length outs → end_out new ≡ end_out (get_or outs k d)
    → map end_out (slice_set outs k new) ≡ map end_out outs
ends_out_stay outs k d new inside same = map-set end_out outs k new
    ∙ ap (λ e. slice_set (map end_out outs) k e) (same ∙ sym (get_or-map end_out outs k d (end_out d) inside))
    ∙ set-get_or (map end_out outs) k (end_out d)

-- what a close needs of them

pub of_board : (operator : Publishing) (ins : List Ingress) (outs : List Egress) → AreOfOneGateway operator ins outs
    → (k : ℕ) (d : Ingress) → k < length ins → (get_or ins k d).board ≡ operator.board
of_board operator ins outs are k d below =
    let size = length-map ins end_in in
    let many = are.enough_ins in
    ap (λ (e : EndIn). e.board) (sym (get_or-map end_in ins k d (end_in d) below)) ∙ (are.ingress k (end_in d) (omega arith)).1

pub as_many : (operator : Publishing) (ins : List Ingress) (outs : List Egress) → AreOfOneGateway operator ins outs
    → (length ins ≡ operator.ports) × (length outs ≡ operator.ports)
as_many operator ins outs are =
    (sym (length-map ins end_in) ∙ are.enough_ins, sym (length-map outs end_out) ∙ are.enough_outs)

pub whole_out : (operator : Publishing) (ins : List Ingress) (outs : List Egress) → AreOfOneGateway operator ins outs
    → All (λ (e : Egress). length e.lanes ≡ length ins) outs
whole_out operator ins outs are k d below =
    let size = as_many operator ins outs are in
    sym (length-map (get_or outs k d).lanes ring_from)
    ∙ ap (λ (e : EndOut). length e.rings) (sym (get_or-map end_out outs k d (end_out d) below))
    ∙ (are.egress k (end_out d) (let s = size.1 in omega arith)).1 ∙ sym size.0

pairs_match : (rows : List (List (Option Inlet))) (columns : List (List (Option Outlet)))
    → ((k : ℕ) (d : List (Option Inlet)) → k < length rows → length (get_or rows k d) ≡ length columns)
    → ((from to : ℕ) (d : List (Option Inlet)) (e : List (Option Outlet)) → from < length rows → to < length columns
    → ring_to (lane_at (get_or rows from d) to) ≡ ring_from (lane_at (get_or columns to e) from))
    → Match rows columns
pairs_match [] columns sizes pairs = tt
pairs_match (row ∷ rows) columns sizes pairs =
    let size : length row ≡ length columns = sizes 0 row (omega arith) in
    let many = length-map row ring_to in
    let count = length-map columns (λ column. lane_at column 0) in
    let count' = length-map (heads columns) ring_from in
    let rest = length-map columns (λ column. drop 1 column) in (
      same_lists (map ring_to row) (map ring_from (heads columns)) (many ∙ size ∙ sym count ∙ sym count') (λ k d below.
          get_or-map ring_to row k None d (omega arith)
          ∙ pairs 0 k row [] (omega arith) (omega arith)
          ∙ ap ring_from (sym (get_or-map (λ column. lane_at column 0) columns k [] None (omega arith)))
          ∙ sym (get_or-map ring_from (heads columns) k None d (omega arith))),
      pairs_match rows (tails columns) (λ k d below. sizes (suc k) d (omega arith) ∙ sym rest)
          (λ from to d e below below'.
          let next : suc from ≡ 1 + from = omega arith in
          pairs (suc from) to d [] (omega arith) (omega arith)
          ∙ ap (λ n. ring_from (lane_at (get_or columns to []) n)) next
          ∙ ap ring_from (sym (get_or-drop 1 (get_or columns to []) from None))
          ∙ ap (λ (l : List (Option Outlet)). ring_from (lane_at l from))
          (sym (get_or-map (λ column. drop 1 column) columns to [] e (omega arith)))),
    )

pub lanes_match : (operator : Publishing) (ins : List Ingress) (outs : List Egress) → AreOfOneGateway operator ins outs
    → Match (rows_of ins) (columns_of outs)
lanes_match operator [] outs are = tt
lanes_match operator (i ∷ ins) [] are = let some = are.enough_ins in let none = are.enough_outs in absurd (omega arith)
lanes_match operator (i ∷ ins) (o ∷ outs) are =
    let all = i ∷ ins in
    let outs_all = o ∷ outs in
    let rows = length-map all (λ (x : Ingress). x.lanes) in
    let columns = length-map outs_all (λ (x : Egress). x.lanes) in
    let size = as_many operator all outs_all are in
    let size_ins = size.0 in
    let size_outs = size.1 in
    let row_size : (k : ℕ) → k < length all → length (get_or all k i).lanes ≡ operator.ports =
    λ k below.
    sym (length-map (get_or all k i).lanes ring_to)
    ∙ ap (λ (e : EndIn). length e.rings) (sym (get_or-map end_in all k i (end_in i) below))
    ∙ (are.ingress k (end_in i) (omega arith)).2 in
    let column_size : (k : ℕ) → k < length outs_all → length (get_or outs_all k o).lanes ≡ operator.ports =
    λ k below.
    sym (length-map (get_or outs_all k o).lanes ring_from)
    ∙ ap (λ (e : EndOut). length e.rings) (sym (get_or-map end_out outs_all k o (end_out o) below))
    ∙ (are.egress k (end_out o) (omega arith)).1 in
    pairs_match (rows_of all) (columns_of outs_all)
    (λ k d below.
    ap length (get_or-map (λ (x : Ingress). x.lanes) all k i d (omega arith)) ∙ row_size k (omega arith) ∙ sym size_outs
    ∙ sym columns)
    (λ from to d e below below'.
    let here = row_size from (omega arith) in
    let there = column_size to (omega arith) in
    ap (λ (l : List (Option Inlet)). ring_to (lane_at l to)) (get_or-map (λ (x : Ingress). x.lanes) all from i d (omega arith))
    ∙ sym (get_or-map ring_to (get_or all from i).lanes to None None (omega arith))
    ∙ ap (λ (x : EndIn). lane_at x.rings to) (sym (get_or-map end_in all from i (end_in i) (omega arith)))
    ∙ are.lanes from to (end_in i) (end_out o) (omega arith) (omega arith)
    ∙ ap (λ (x : EndOut). lane_at x.rings from) (get_or-map end_out outs_all to o (end_out o) (omega arith))
    ∙ get_or-map ring_from (get_or outs_all to o).lanes from None None (omega arith)
    ∙ ap (λ (l : List (Option Outlet)). ring_from (lane_at l from))
    (sym (get_or-map (λ (x : Egress). x.lanes) outs_all to o e (omega arith))))
