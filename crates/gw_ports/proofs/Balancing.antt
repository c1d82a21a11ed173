-- What was placed is what was sent and what is left, lane by lane and in sums.
use Rattle.std.proofs.Common.{◌≡◌, ◌∙◌, ℕ, suc, ◌+◌, ◌<◌, ◌≤◌, ◌^◌, List, [], ◌∷◌, length, map, drop}
use Rattle.std.proofs.Common.{get_or, sum, sum_by, Option, Some, None, sym, ap, refl, arith, length-append}
use Rattle.std.specs.List.{All}
use Rattle.std.proofs.Math.Nat.{min-eq_left, zero-add}
use Rattle.std.proofs.lemmas.List.Sums.{sum_by-append, sum_by-cons}
use Rattle.std.proofs.lemmas.List.Elements.{All-head, All-tail, All-append, All-cons, All-map}
use Rattle.std.proofs.lemmas.List.{length-map}
use Rattle.gw_ledger.specs.Ledgers.{AreBalanced}
use Rattle.gw_ledger.specs.declared.ledger.InLedger.{InLedger}
use Rattle.gw_ledger.specs.declared.ledger.OutLedger.{OutLedger}
use Rattle.gw_lanes.specs.Ends.{Inlet, Outlet}
use Rattle.gw_ports.specs.Ends.{Ingress, Egress, lane_at, ring_to, ring_from, placed_on, taken_from, count_of}
use Rattle.gw_ports.specs.Ends.{IsSoundIngress, IsSoundEgress}
use Rattle.gw_ports.specs.Closing.{Lane, lane_of, lanes_to, lanes_of, rows_of, columns_of, heads, tails}
use Rattle.gw_ports.specs.Closing.{Match, AreLeft}
use Rattle.gw_ports.specs.declared.closing.LaneLeft.{LaneLeft}

abbrev pub placed_in : Lane → ℕ
placed_in lane = length lane.inlet.placed

abbrev pub counted_in : Lane → ℕ
counted_in lane = count_of (length lane.outlet.taken)

abbrev pub left_in : LaneLeft → ℕ
left_in left = length left.left.items

abbrev pub counted_from : Option Outlet → ℕ
counted_from lane = count_of (taken_from lane)

-- lanes are the same in number and kind as their ends: of each pair of ends both are there or none is

-- one pair of ends
one_placed : (ingress egress : ℕ) (inlet : Option Inlet) (outlet : Option Outlet) → ring_to inlet ≡ ring_from outlet
    → sum_by placed_in (lane_of ingress egress inlet outlet) ≡ placed_on inlet
one_placed ingress egress None outlet same = refl
one_placed ingress egress (Some inlet) None same = absurd (cc same)
one_placed ingress egress (Some inlet) (Some outlet) same = zero-add (length inlet.placed)

one_counted : (ingress egress : ℕ) (inlet : Option Inlet) (outlet : Option Outlet) → ring_to inlet ≡ ring_from outlet
    → sum_by counted_in (lane_of ingress egress inlet outlet) ≡ counted_from outlet
one_counted ingress egress None None same = refl
one_counted ingress egress None (Some outlet) same = absurd (cc same)
one_counted ingress egress (Some inlet) None same = absurd (cc same)
one_counted ingress egress (Some inlet) (Some outlet) same = zero-add (count_of (length outlet.taken))

-- the ends of all lanes from a port
pub row_placed : (ingress egress : ℕ) (inlets : List (Option Inlet)) (outlets : List (Option Outlet))
    → map ring_to inlets ≡ map ring_from outlets
    → sum_by placed_in (lanes_to ingress egress inlets outlets) ≡ sum_by placed_on inlets
row_placed ingress egress [] outlets same = refl
row_placed ingress egress (inlet ∷ inlets) [] same = absurd (cc same)
row_placed ingress egress (inlet ∷ inlets) (outlet ∷ outlets) same =
    let first : ring_to inlet ≡ ring_from outlet = cc same in
    let rest : map ring_to inlets ≡ map ring_from outlets = cc same in
    sum_by-append placed_in (lane_of ingress egress inlet outlet) (lanes_to ingress (suc egress) inlets outlets)
    ∙ ap (λ n. n + sum_by placed_in (lanes_to ingress (suc egress) inlets outlets))
    (one_placed ingress egress inlet outlet first)
    ∙ ap (λ n. placed_on inlet + n) (row_placed ingress (suc egress) inlets outlets rest)
    ∙ sym (sum_by-cons placed_on inlet inlets)

pub row_counted : (ingress egress : ℕ) (inlets : List (Option Inlet)) (outlets : List (Option Outlet))
    → map ring_to inlets ≡ map ring_from outlets
    → sum_by counted_in (lanes_to ingress egress inlets outlets) ≡ sum_by counted_from outlets
row_counted ingress egress [] [] same = refl
row_counted ingress egress [] (outlet ∷ outlets) same = absurd (cc same)
row_counted ingress egress (inlet ∷ inlets) [] same = absurd (cc same)
row_counted ingress egress (inlet ∷ inlets) (outlet ∷ outlets) same =
    let first : ring_to inlet ≡ ring_from outlet = cc same in
    let rest : map ring_to inlets ≡ map ring_from outlets = cc same in
    sum_by-append counted_in (lane_of ingress egress inlet outlet) (lanes_to ingress (suc egress) inlets outlets)
    ∙ ap (λ n. n + sum_by counted_in (lanes_to ingress (suc egress) inlets outlets))
    (one_counted ingress egress inlet outlet first)
    ∙ ap (λ n. counted_from outlet + n) (row_counted ingress (suc egress) inlets outlets rest)
    ∙ sym (sum_by-cons counted_from outlet outlets)

pub all_placed : (ingress : ℕ) (rows : List (List (Option Inlet))) (columns : List (List (Option Outlet))) → Match rows columns
    → sum_by placed_in (lanes_of ingress rows columns) ≡ sum_by (sum_by placed_on) rows
all_placed ingress [] columns match = refl
all_placed ingress (row ∷ rows) columns match =
    let whole = sum_by-append placed_in (lanes_to ingress 0 row (heads columns)) (lanes_of (suc ingress) rows (tails columns)) in
    let first = row_placed ingress 0 row (heads columns) match.0 in
    let rest = all_placed (suc ingress) rows (tails columns) match.1 in
    let sum = sum_by-cons (sum_by placed_on) row rows in
    omega arith

-- of one column, the first lane and the others
head_and_rest : (column : List (Option Outlet)) → sum_by counted_from column
    ≡ counted_from (lane_at column 0) + sum_by counted_from (drop 1 column)
head_and_rest [] = refl
head_and_rest (lane ∷ lanes) = sum_by-cons counted_from lane lanes

-- of all columns
heads_and_rest : (columns : List (List (Option Outlet))) → sum_by (sum_by counted_from) columns
    ≡ sum_by counted_from (heads columns) + sum_by (sum_by counted_from) (tails columns)
heads_and_rest [] = refl
heads_and_rest (column ∷ columns) =
    let one = head_and_rest column in
    let rest = heads_and_rest columns in
    let whole = sum_by-cons (sum_by counted_from) column columns in
    let first = sum_by-cons counted_from (lane_at column 0) (heads columns) in
    let others = sum_by-cons (sum_by counted_from) (drop 1 column) (tails columns) in
    omega arith

nothing_in : (columns : List (List (Option Outlet))) → All (λ column. length column ≡ 0) columns
    → sum_by (sum_by counted_from) columns ≡ 0
nothing_in [] all = refl
nothing_in ([] ∷ columns) all =
    let rest = nothing_in columns (All-tail (λ (c : List (Option Outlet)). length c ≡ 0) [] columns all) in
    let whole = sum_by-cons (sum_by counted_from) [] columns in
    omega arith
nothing_in ((lane ∷ lanes) ∷ columns) all =
    let none = All-head (λ (c : List (Option Outlet)). length c ≡ 0) (lane ∷ lanes) columns all in absurd (omega arith)

shorter : (n : ℕ) (columns : List (List (Option Outlet))) → All (λ column. length column ≡ suc n) columns
    → All (λ column. length column ≡ n) (tails columns)
shorter n columns all = All-map (λ (c : List (Option Outlet)). length c ≡ n) (λ (c : List (Option Outlet)). drop 1 c) columns
    (λ k d below. let size = all k d below in one (get_or columns k d) size)
  where
    one : (column : List (Option Outlet)) → length column ≡ suc n → length (drop 1 column) ≡ n
    one [] size = absurd (omega arith)
    one (lane ∷ lanes) size = omega arith

-- rows and columns have the same lanes: what was sent is counted one ingress port after another
pub all_counted : (ingress : ℕ) (rows : List (List (Option Inlet))) (columns : List (List (Option Outlet))) → Match rows columns
    → All (λ column. length column ≡ length rows) columns
    → sum_by counted_in (lanes_of ingress rows columns) ≡ sum_by (sum_by counted_from) columns
all_counted ingress [] columns match whole = sym (nothing_in columns whole)
all_counted ingress (row ∷ rows) columns match whole =
    let all = sum_by-append counted_in (lanes_to ingress 0 row (heads columns)) (lanes_of (suc ingress) rows (tails columns)) in
    let first = row_counted ingress 0 row (heads columns) match.0 in
    let rest = all_counted (suc ingress) rows (tails columns) match.1 (shorter (length rows) columns whole) in
    let split = heads_and_rest columns in
    omega arith

-- lane by lane
pub lefts_balance : (lanes : List Lane) (lefts : List LaneLeft) → AreLeft lanes lefts
    → All (λ lane. placed_in lane < 2 ^ 64) lanes
    → sum_by placed_in lanes ≡ sum_by counted_in lanes + sum_by left_in lefts
lefts_balance [] [] are small = refl
lefts_balance [] (left ∷ lefts) are small = absurd are
lefts_balance (lane ∷ lanes) [] are small = absurd are
lefts_balance (lane ∷ lanes) (left ∷ lefts) are small =
    let rest = lefts_balance lanes lefts are.1 (All-tail (λ (l : Lane). placed_in l < 2 ^ 64) lane lanes small) in
    let few : placed_in lane < 2 ^ 64 = All-head (λ (l : Lane). placed_in l < 2 ^ 64) lane lanes small in
    let parts : length lane.outlet.taken + left_in left ≡ placed_in lane =
    sym (length-append lane.outlet.taken left.left.items) ∙ ap length are.0.copies in
    let exact : counted_in lane ≡ length lane.outlet.taken = min-eq_left (omega arith) in
    let placed = sum_by-cons placed_in lane lanes in
    let counted = sum_by-cons counted_in lane lanes in
    let left_over = sum_by-cons left_in left lefts in
    omega arith

-- a lane has no more copies than its port placed
small_row : (most ingress egress : ℕ) (inlets : List (Option Inlet)) (outlets : List (Option Outlet))
    → sum_by placed_on inlets < most → All (λ lane. placed_in lane < most) (lanes_to ingress egress inlets outlets)
small_row most ingress egress [] outlets less = λ k d below. absurd (omega arith)
small_row most ingress egress (inlet ∷ inlets) [] less = λ k d below. absurd (omega arith)
small_row most ingress egress (inlet ∷ inlets) (outlet ∷ outlets) less =
    let sum = sum_by-cons placed_on inlet inlets in
    All-append (λ (l : Lane). placed_in l < most) (lane_of ingress egress inlet outlet)
    (lanes_to ingress (suc egress) inlets outlets) (one inlet outlet (omega arith))
    (small_row most ingress (suc egress) inlets outlets (omega arith))
  where
    one : (i : Option Inlet) (o : Option Outlet) → placed_on i < most
        → All (λ lane. placed_in lane < most) (lane_of ingress egress i o)
    one None o less_one = λ k d below. absurd (omega arith)
    one (Some i) None less_one = λ k d below. absurd (omega arith)
    one (Some i) (Some o) less_one =
        All-cons (λ (l : Lane). placed_in l < most) (record { ingress = ingress; egress = egress; inlet = i; outlet = o })
        []
        less_one (λ k d below. absurd (omega arith))

pub small_lanes : (most ingress : ℕ) (rows : List (List (Option Inlet))) (columns : List (List (Option Outlet)))
    → All (λ row. sum_by placed_on row < most) rows → All (λ lane. placed_in lane < most) (lanes_of ingress rows columns)
small_lanes most ingress [] columns all = λ k d below. absurd (omega arith)
small_lanes most ingress (row ∷ rows) columns all =
    let small = λ (r : List (Option Inlet)). sum_by placed_on r < most in
    All-append (λ (l : Lane). placed_in l < most) (lanes_to ingress 0 row (heads columns))
    (lanes_of (suc ingress) rows (tails columns))
    (small_row most ingress 0 row (heads columns) (All-head small row rows all))
    (small_lanes most (suc ingress) rows (tails columns) (All-tail small row rows all))

-- the counts of the copies sent are those of the lanes, as many as there are
counts_sum : (counts : List ℕ) (lanes : List (Option Outlet)) → length lanes ≤ length counts
    → ((ingress : ℕ) → ingress < length counts → get_or counts ingress 0 ≡ counted_from (lane_at lanes ingress))
    → sum counts ≡ sum_by counted_from lanes
counts_sum [] [] few each = refl
counts_sum [] (lane ∷ lanes) few each = absurd (omega arith)
counts_sum (count ∷ counts) [] few each =
    let first = each 0 (omega arith) in
    let rest = counts_sum counts [] (omega arith) (λ ingress below. each (suc ingress) (omega arith)) in
    let whole : sum (count ∷ counts) ≡ count + sum counts = sum_by-cons (λ (x : ℕ). x) count counts in
    omega arith
counts_sum (count ∷ counts) (lane ∷ lanes) few each =
    let first = each 0 (omega arith) in
    let rest = counts_sum counts lanes (omega arith) (λ ingress below. each (suc ingress) (omega arith)) in
    let whole : sum (count ∷ counts) ≡ count + sum counts = sum_by-cons (λ (x : ℕ). x) count counts in
    let all = sum_by-cons counted_from lane lanes in
    omega arith

-- the counts of all ports

ledgers_placed : (ins : List Ingress) → All IsSoundIngress ins
    → sum_by (λ ledger. ledger.placed) (map (λ (i : Ingress). i.ledger) ins) ≡ sum_by (sum_by placed_on) (rows_of ins)
ledgers_placed [] sound = refl
ledgers_placed (ingress ∷ ins) sound =
    let one : ingress.ledger.placed ≡ sum_by placed_on ingress.lanes = (All-head IsSoundIngress ingress ins sound).placed in
    let rest = ledgers_placed ins (All-tail IsSoundIngress ingress ins sound) in
    let ledgers = sum_by-cons (λ (l : InLedger). l.placed) ingress.ledger (map (λ (i : Ingress). i.ledger) ins) in
    let rows = sum_by-cons (sum_by placed_on) ingress.lanes (rows_of ins) in
    omega arith

ledgers_sent : (outs : List Egress) → All IsSoundEgress outs
    → sum_by (λ ledger. sum ledger.sent) (map (λ (e : Egress). e.ledger) outs) ≡ sum_by (sum_by counted_from) (columns_of outs)
ledgers_sent [] sound = refl
ledgers_sent (egress ∷ outs) sound =
    let here = All-head IsSoundEgress egress outs sound in
    let ports = here.counted.ports in
    let few = here.few in
    let one : sum egress.ledger.sent ≡ sum_by counted_from egress.lanes =
    counts_sum egress.ledger.sent egress.lanes (omega arith) (λ ingress below. here.counted.sent ingress (omega arith)) in
    let rest = ledgers_sent outs (All-tail IsSoundEgress egress outs sound) in
    let ledgers = sum_by-cons (λ (l : OutLedger). sum l.sent) egress.ledger (map (λ (e : Egress). e.ledger) outs) in
    let columns = sum_by-cons (sum_by counted_from) egress.lanes (columns_of outs) in
    omega arith

ledgers_allowed : (ins : List Ingress) → All IsSoundIngress ins
    → All (λ (l : InLedger). l.allowed ≡ l.placed + l.lost) (map (λ (i : Ingress). i.ledger) ins)
ledgers_allowed ins sound =
    All-map (λ (l : InLedger). l.allowed ≡ l.placed + l.lost) (λ (i : Ingress). i.ledger) ins
    (λ k d below. (sound k d below).counted.parts)

-- a port places at most 16 copies of a frame
small_rows : (ins : List Ingress) → All IsSoundIngress ins → All (λ row. sum_by placed_on row < 2 ^ 64) (rows_of ins)
small_rows ins sound =
    All-map (λ (r : List (Option Inlet)). sum_by placed_on r < 2 ^ 64) (λ (i : Ingress). i.lanes) ins
    (λ k d below.
    let here = sound k d below in
    let bounded = here.bounded in
    let placed = here.placed in
    let taken = here.counted.taken in
    let allowed = here.counted.allowed in
    let parts = here.counted.parts in
    omega arith)

-- the ledgers of a gateway's ports balance with all that is left on their lanes
pub balanced : (ins : List Ingress) (outs : List Egress) (lefts : List LaneLeft) → All IsSoundIngress ins → All IsSoundEgress outs
    → Match (rows_of ins) (columns_of outs) → All (λ egress. length egress.lanes ≡ length ins) outs
    → AreLeft (lanes_of 0 (rows_of ins) (columns_of outs)) lefts
    → AreBalanced (map (λ (i : Ingress). i.ledger) ins) (map (λ (e : Egress). e.ledger) outs) (sum_by left_in lefts)
balanced ins outs lefts sound sound_out match whole left =
    let placed = ledgers_placed ins sound in
    let sent = ledgers_sent outs sound_out in
    let rows = all_placed 0 (rows_of ins) (columns_of outs) match in
    let size : length (rows_of ins) ≡ length ins = length-map ins (λ (i : Ingress). i.lanes) in
    let full : All (λ column. length column ≡ length (rows_of ins)) (columns_of outs) =
    All-map (λ (c : List (Option Outlet)). length c ≡ length (rows_of ins)) (λ (e : Egress). e.lanes) outs
    (λ k d below. let one = whole k d below in omega arith) in
    let columns = all_counted 0 (rows_of ins) (columns_of outs) match full in
    let lanes =
    lefts_balance (lanes_of 0 (rows_of ins) (columns_of outs)) lefts left
    (small_lanes (2 ^ 64) 0 (rows_of ins) (columns_of outs) (small_rows ins sound)) in
    record { allowed = ledgers_allowed ins sound; placed = omega arith }
