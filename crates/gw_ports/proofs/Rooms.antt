-- Room for what is left, lane by lane.
use Rattle.std.proofs.Common.{◌≡◌, ◌∙◌, ℕ, zero, suc, ◌+◌, ◌<◌, ◌≤◌, List, [], ◌∷◌, ◌++◌, length, map, drop, get_or, Option}
use Rattle.std.proofs.Common.{None, slice_set, ⊎_elim, sym, ap, subst, refl, arith, append_assoc, append-nil}
use Rattle.std.proofs.lemmas.Bool.{cases_eq}
use Rattle.std.proofs.lemmas.List.{drop_more, ext_get_or, get_or-map, get_or-set_same, get_or-set_other, length-map, length-set}
use Rattle.gw_lanes.specs.Ends.{Inlet, Outlet}
use Rattle.gw_ports.specs.Ends.{Ingress, Egress, lane_at, ring_to, ring_from}
use Rattle.gw_ports.specs.Closing.{Lane, lane_of, lanes_to, lanes_of, column_at, columns_of, rows_of, heads, tails}
use Rattle.gw_ports.specs.Closing.{Match, EachOf, IsRoomOf}
use Rattle.gw_ports.specs.declared.closing.LaneLeft.{LaneLeft}

-- the two lists of one relation, one behind the other
pub each-append : (R : Lane → LaneLeft → Type 0) (lanes lanes' : List Lane) (lefts lefts' : List LaneLeft)
    → EachOf R lanes lefts → EachOf R lanes' lefts' → EachOf R (lanes ++ lanes') (lefts ++ lefts')
each-append R [] lanes' [] lefts' each each' = each'
each-append R [] lanes' (left ∷ lefts) lefts' each each' = absurd each
each-append R (lane ∷ lanes) lanes' [] lefts' each each' = absurd each
each-append R (lane ∷ lanes) lanes' (left ∷ lefts) lefts' each each' =
    (each.0, each-append R lanes lanes' lefts lefts' each.1 each')

-- the lanes from one port to the egress ports from a number on
abbrev pub row_behind : ℕ → ℕ → List (Option Inlet) → List (Option Outlet) → List Lane
row_behind ingress egress row col = lanes_to ingress egress (drop egress row) (drop egress col)

-- the lane to the next egress port, and those behind it
pub row_next : (ingress egress : ℕ) (row : List (Option Inlet)) (col : List (Option Outlet))
    → egress < length row → egress < length col
    → row_behind ingress egress row col
    ≡ lane_of ingress egress (lane_at row egress) (lane_at col egress)
    ++ row_behind ingress (egress + 1) row col
row_next ingress egress row col inside inside' =
    let next : suc egress ≡ egress + 1 = omega arith in
    ap (λ l. lanes_to ingress egress l (drop egress col)) (drop_more row egress None inside)
    ∙ ap (λ l. lanes_to ingress egress (lane_at row egress ∷ drop (egress + 1) row) l)
    (drop_more col egress None inside')
    ∙ ap (λ n. lane_of ingress egress (lane_at row egress) (lane_at col egress)
    ++ lanes_to ingress n (drop (egress + 1) row) (drop (egress + 1) col)) next

-- behind the last egress port there is no lane
pub row_end : (ingress egress : ℕ) (row : List (Option Inlet)) (col : List (Option Outlet)) → length row ≤ egress
    → row_behind ingress egress row col ≡ []
row_end ingress egress row col past =
    ap (λ l. lanes_to ingress egress l (drop egress col)) (drop_past row egress past)
  where
    drop_past : (xs : List (Option Inlet)) (n : ℕ) → length xs ≤ n → drop n xs ≡ []
    drop_past [] zero le = refl
    drop_past [] (suc n) le = refl
    drop_past (x ∷ xs) zero le = absurd (omega arith)
    drop_past (x ∷ xs) (suc n) le = drop_past xs n (omega arith)

-- the lanes from one port to the egress ports below a number have what stands behind `before` in a list
pub record RowDone (R : Lane → LaneLeft → Type 0) (ingress egress : ℕ) (row : List (Option Inlet))
    (col : List (Option Outlet))
    (before now : List LaneLeft) : Type 0 where
  pub new : List LaneLeft
  pub items : now ≡ before ++ new
  pub each : (more : List LaneLeft) → EachOf R (row_behind ingress egress row col) more
      → EachOf R (lanes_to ingress 0 row col) (new ++ more)

-- one egress port more, with what stands for its lane: one element or none
pub row_more : (R : Lane → LaneLeft → Type 0) (ingress egress : ℕ) (row : List (Option Inlet)) (col : List (Option Outlet))
    (before now one now' : List LaneLeft) → RowDone R ingress egress row col before now
    → egress < length row → egress < length col
    → EachOf R (lane_of ingress egress (lane_at row egress) (lane_at col egress)) one → now' ≡ now ++ one
    → RowDone R ingress (egress + 1) row col before now'
row_more R ingress egress row col before now one now' done inside inside' each pushed = record {
  new = done.new ++ one;
  items = pushed ∙ ap (λ l. l ++ one) done.items ∙ append_assoc before done.new one;
  each = λ more rest.
      subst (λ (l : List LaneLeft). EachOf R (lanes_to ingress 0 row col) l) (sym (append_assoc done.new one more))
      (done.each (one ++ more)
      (subst (λ (l : List Lane). EachOf R l (one ++ more)) (sym (row_next ingress egress row col inside inside'))
      (each-append R (lane_of ingress egress (lane_at row egress) (lane_at col egress))
      (row_behind ingress (egress + 1) row col) one more each rest)));
}

pub row_ends : (R : Lane → LaneLeft → Type 0) (ingress egress : ℕ) (row : List (Option Inlet)) (col : List (Option Outlet))
    (before now : List LaneLeft) → RowDone R ingress egress row col before now → length row ≤ egress
    → (new : List LaneLeft) × (now ≡ before ++ new) × EachOf R (lanes_to ingress 0 row col) new
row_ends R ingress egress row col before now done past =
    let none : EachOf R (row_behind ingress egress row col) [] =
    subst (λ (l : List Lane). EachOf R l []) (sym (row_end ingress egress row col past)) tt in (
      done.new,
      done.items,
      subst (λ (l : List LaneLeft). EachOf R (lanes_to ingress 0 row col) l) (append-nil done.new) (done.each [] none),
    )

-- the lanes from the ports below a number have what stands in a list; those from the others are of these rows and columns
pub record AllDone (R : Lane → LaneLeft → Type 0) (ingress : ℕ) (all : List Lane) (rows : List (List (Option Inlet)))
    (columns : List (List (Option Outlet))) (now : List LaneLeft) : Type 0 where
  pub each : (more : List LaneLeft) → EachOf R (lanes_of ingress rows columns) more → EachOf R all (now ++ more)

pub all_more : (R : Lane → LaneLeft → Type 0) (ingress : ℕ) (all : List Lane) (row : List (Option Inlet))
    (rows : List (List (Option Inlet))) (columns : List (List (Option Outlet))) (now new now' : List LaneLeft)
    → AllDone R ingress all (row ∷ rows) columns now → EachOf R (lanes_to ingress 0 row (heads columns)) new → now' ≡ now ++ new
    → AllDone R (suc ingress) all rows (tails columns) now'
all_more R ingress all row rows columns now new now' done each pushed = record {
  each = λ more behind.
      subst (λ (l : List LaneLeft). EachOf R all l) (sym (ap (λ l. l ++ more) pushed ∙ append_assoc now new more))
      (done.each (new ++ more)
      (each-append R (lanes_to ingress 0 row (heads columns)) (lanes_of (suc ingress) rows (tails columns)) new more each
      behind));
}

pub all_end : (R : Lane → LaneLeft → Type 0) (ingress : ℕ) (all : List Lane) (columns : List (List (Option Outlet)))
    (now : List LaneLeft) → AllDone R ingress all [] columns now → EachOf R all now
all_end R ingress all columns now done = subst (λ (l : List LaneLeft). EachOf R all l) (append-nil now) (done.each [] tt)

-- columns of which the first lane was taken

-- the columns below a number gave their first lane, and the others are as they were
pub record Passed (count : ℕ) (old now : List (List (Option Outlet))) : Type 0 where
  pub size : length now ≡ length old
  pub passed : (k : ℕ) → k < count → get_or now k [] ≡ drop 1 (get_or old k [])
  pub waiting : (k : ℕ) → count ≤ k → get_or now k [] ≡ get_or old k []

pub one_passed : (count : ℕ) (old now now' : List (List (Option Outlet))) → Passed count old now → count < length old
    → now' ≡ slice_set now count (drop 1 (get_or now count [])) → Passed (count + 1) old now'
one_passed count old now now' so_far inside set = record {
  size = ap length set ∙ length-set now count column ∙ so_far.size;
  passed = λ k below. ⊎_elim
      (λ (here : k ≡ count).
      subst (λ n. get_or now' n [] ≡ drop 1 (get_or old n [])) (sym here)
      (ap (λ l. get_or l count []) set ∙ get_or-set_same now count column [] (let s = so_far.size in omega arith)
      ∙ ap (λ c. drop 1 c) (so_far.waiting count (omega arith))))
      (λ (other : k ≡ count → ⊥).
      ap (λ l. get_or l k []) set ∙ get_or-set_other now count k column [] other ∙ so_far.passed k (omega arith))
      (cases_eq k count);
  waiting = λ k above.
      ap (λ l. get_or l k []) set ∙ get_or-set_other now count k column [] (λ (e : k ≡ count). omega arith)
      ∙ so_far.waiting k (omega arith);
}
  where
    column : List (Option Outlet)
    column = drop 1 (get_or now count [])

pub all_passed : (count : ℕ) (old now : List (List (Option Outlet))) → Passed count old now → length old ≤ count → now ≡ tails old
all_passed count old now so_far past =
    ext_get_or [] now (tails old) (so_far.size ∙ sym (length-map old (λ (c : List (Option Outlet)). drop 1 c)))
    (λ k below.
    let size = so_far.size in
    so_far.passed k (omega arith) ∙ sym (get_or-map (λ (c : List (Option Outlet)). drop 1 c) old k [] [] (omega arith)))

-- the columns of all ports out, from an ingress port on

abbrev pub columns_from : ℕ → List Egress → List (List (Option Outlet))
columns_from ingress outs = map (λ egress. drop ingress egress.lanes) outs

pub columns_from_first : (outs : List Egress) → columns_from 0 outs ≡ columns_of outs
columns_from_first [] = refl
columns_from_first (egress ∷ outs) = ap (λ l. egress.lanes ∷ l) (columns_from_first outs)

head_from : (ingress : ℕ) (lanes : List (Option Outlet)) → lane_at (drop ingress lanes) 0 ≡ lane_at lanes ingress
head_from zero [] = refl
head_from zero (lane ∷ lanes) = refl
head_from (suc ingress) [] = refl
head_from (suc ingress) (lane ∷ lanes) = head_from ingress lanes

tail_from : (ingress : ℕ) (lanes : List (Option Outlet)) → drop 1 (drop ingress lanes) ≡ drop (suc ingress) lanes
tail_from zero [] = refl
tail_from zero (lane ∷ lanes) = refl
tail_from (suc ingress) [] = refl
tail_from (suc ingress) (lane ∷ lanes) = tail_from ingress lanes

pub heads_from : (ingress : ℕ) (outs : List Egress) → heads (columns_from ingress outs) ≡ column_at ingress outs
heads_from ingress [] = refl
heads_from ingress (egress ∷ outs) =
    ap (λ x. x ∷ heads (columns_from ingress outs)) (head_from ingress egress.lanes)
    ∙ ap (λ l. lane_at egress.lanes ingress ∷ l) (heads_from ingress outs)

pub tails_from : (ingress : ℕ) (outs : List Egress) → tails (columns_from ingress outs) ≡ columns_from (suc ingress) outs
tails_from ingress [] = refl
tails_from ingress (egress ∷ outs) =
    ap (λ x. x ∷ tails (columns_from ingress outs)) (tail_from ingress egress.lanes)
    ∙ ap (λ l. drop (suc ingress) egress.lanes ∷ l) (tails_from ingress outs)

-- the row of the next port, and those behind it
pub rows_next : (ingress : ℕ) (ins : List Ingress) (d : Ingress) → ingress < length ins
    → drop ingress (rows_of ins) ≡ (get_or ins ingress d).lanes ∷ drop (ingress + 1) (rows_of ins)
rows_next ingress ins d inside =
    let size : length (rows_of ins) ≡ length ins = length-map ins (λ (i : Ingress). i.lanes) in
    drop_more (rows_of ins) ingress [] (omega arith)
    ∙ ap (λ l. l ∷ drop (ingress + 1) (rows_of ins)) (get_or-map (λ (i : Ingress). i.lanes) ins ingress d [] inside)

-- the next port's row is that of its column
pub row_pairs : (ingress : ℕ) (ins : List Ingress) (outs : List Egress) (d : Ingress) → ingress < length ins
    → Match (drop ingress (rows_of ins)) (columns_from ingress outs)
    → map ring_to (get_or ins ingress d).lanes ≡ map ring_from (column_at ingress outs)
row_pairs ingress ins outs d inside match =
    let here = subst (λ (r : List (List (Option Inlet))). Match r (columns_from ingress outs)) (rows_next ingress ins d inside)
    match in
    here.0 ∙ ap (λ l. map ring_from l) (heads_from ingress outs)

-- one port more has room
pub rooms_go_on : (ingress : ℕ) (ins : List Ingress) (outs : List Egress) (d : Ingress) (all : List Lane)
    (now new now' : List LaneLeft) → ingress < length ins → Match (drop ingress (rows_of ins)) (columns_from ingress outs)
    → AllDone IsRoomOf ingress all (drop ingress (rows_of ins)) (columns_from ingress outs) now
    → EachOf IsRoomOf (lanes_to ingress 0 (get_or ins ingress d).lanes (column_at ingress outs)) new → now' ≡ now ++ new
    → Match (drop (ingress + 1) (rows_of ins)) (columns_from (ingress + 1) outs)
    × AllDone IsRoomOf (ingress + 1) all (drop (ingress + 1) (rows_of ins)) (columns_from (ingress + 1) outs) now'
rooms_go_on ingress ins outs d all now new now' inside match done each pushed =
    let row = (get_or ins ingress d).lanes in
    let rows = drop (ingress + 1) (rows_of ins) in
    let columns = columns_from ingress outs in
    let next : suc ingress ≡ ingress + 1 = omega arith in
    let split = rows_next ingress ins d inside in
    let here = subst (λ (r : List (List (Option Inlet))). Match r columns) split match in
    let behind : tails columns ≡ columns_from (ingress + 1) outs = tails_from ingress outs ∙ ap (λ n. columns_from n outs) next in
    let begun = subst (λ (r : List (List (Option Inlet))). AllDone IsRoomOf ingress all r columns now) split done in
    let head = subst (λ (h : List (Option Outlet)). EachOf IsRoomOf (lanes_to ingress 0 row h) new)
    (sym (heads_from ingress outs)) each in
    let more = all_more IsRoomOf ingress all row rows columns now new now' begun head pushed in (
      subst (λ (cs : List (List (Option Outlet))). Match rows cs) behind here.1,
      subst (λ (cs : List (List (Option Outlet))). AllDone IsRoomOf (ingress + 1) all rows cs now') behind
          (subst (λ n. AllDone IsRoomOf n all rows (tails columns) now') next more),
    )

-- behind the last port there is no row
pub no_rows : (ingress : ℕ) (ins : List Ingress) → length ins ≤ ingress → drop ingress (rows_of ins) ≡ []
no_rows zero [] past = refl
no_rows zero (one ∷ ins) past = absurd (omega arith)
no_rows (suc ingress) [] past = refl
no_rows (suc ingress) (one ∷ ins) past = no_rows ingress ins (omega arith)

-- as many ports out as the row has ends
pub outs_of_row : (ingress : ℕ) (row : List (Option Inlet)) (outs : List Egress)
    → map ring_to row ≡ map ring_from (column_at ingress outs) → length row ≡ length outs
outs_of_row ingress row outs pairs =
    sym (length-map row ring_to) ∙ ap length pairs ∙ length-map (column_at ingress outs) ring_from
    ∙ length-map outs (λ (e : Egress). lane_at e.lanes ingress)

-- the ends of the lane to one egress port
pub pair_at : (ingress egress : ℕ) (row : List (Option Inlet)) (outs : List Egress) (d : Egress)
    → map ring_to row ≡ map ring_from (column_at ingress outs) → egress < length outs
    → ring_to (lane_at row egress) ≡ ring_from (lane_at (get_or outs egress d).lanes ingress)
pair_at ingress egress row outs d pairs below =
    let size = outs_of_row ingress row outs pairs in
    let many = length-map outs (λ (e : Egress). lane_at e.lanes ingress) in
    sym (get_or-map ring_to row egress None None (omega arith)) ∙ ap (λ l. get_or l egress None) pairs
    ∙ get_or-map ring_from (column_at ingress outs) egress None None (omega arith)
    ∙ ap ring_from (get_or-map (λ (e : Egress). lane_at e.lanes ingress) outs egress d None below)
