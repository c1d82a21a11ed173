-- The lanes of a gateway, each by its ports.
use Rattle.std.proofs.Common.{◌≡◌, ◌∙◌, ◌≢◌, ℕ, zero, suc, ◌+◌, ◌<◌, ◌==◌, Bool, true, false, cond, not, List, [], ◌∷◌, ◌++◌}
use Rattle.std.proofs.Common.{length, map, drop, get_or, option_map, Option, Some, None, IsSome, sym, ap, subst, refl, arith}
use Rattle.std.proofs.Common.{⊎_elim, length-append, eq-eqb, ne_eqb, true≢false}
use Rattle.std.proofs.lemmas.Bool.{cases_eq}
use Rattle.std.proofs.lemmas.List.{get_or-append-add, get_or_append_left, length-map, map-append}
use Rattle.std.proofs.lemmas.List.Elements.{All-append, All-cons, All-head, All-tail}
use Rattle.std.specs.List.{All, filter, flat_map, range_with_len}
use Rattle.gw_ledger.specs.declared.outcome.FrameCopy.{FrameCopy}
use Rattle.gw_lanes.specs.Ends.{Inlet, Outlet, Ring, new_outlet}
use Rattle.gw_ports.specs.Ends.{Ingress, lane_at, lane_to, ring_from, ring_to}
use Rattle.gw_ports.specs.Making.{IsNewLane, lanes_from}
use Rattle.gw_ports.specs.Closing.{AreLeft, IsLeft, Lane, heads, lane_of, lanes_of, lanes_to, tails}
use Rattle.gw_ports.specs.declared.closing.LaneLeft.{LaneLeft}
use Rattle.gw_ports.proofs.Copied.{placed_list, taken_list}

-- the column of an egress port, lane by lane

heads_at : (columns : List (List (Option Outlet))) (q : ℕ) → lane_at (heads columns) q ≡ lane_at (get_or columns q []) 0
heads_at [] q = refl
heads_at (column ∷ columns) zero = refl
heads_at (column ∷ columns) (suc q) = heads_at columns q

rest_at : (column : List (Option Outlet)) (j : ℕ) → lane_at (drop 1 column) j ≡ lane_at column (suc j)
rest_at [] j = refl
rest_at (lane ∷ lanes) j = refl

tails_at : (columns : List (List (Option Outlet))) (q j : ℕ)
    → lane_at (get_or (tails columns) q []) j ≡ lane_at (get_or columns q []) (suc j)
tails_at [] q j = refl
tails_at (column ∷ columns) zero j = rest_at column j
tails_at (column ∷ columns) (suc q) j = tails_at columns q j

-- a lane of the list has the ends that stand at its ports

record IsInRow (ingress egress : ℕ) (inlets : List (Option Inlet)) (outlets : List (Option Outlet)) (lane : Lane)
    : Type 0 where
  pub place : ℕ
  pub from : lane.ingress ≡ ingress
  pub to : lane.egress ≡ egress + place
  pub inlet : lane_at inlets place ≡ Some lane.inlet
  pub outlet : lane_at outlets place ≡ Some lane.outlet

all_in_row : (ingress egress : ℕ) (inlets : List (Option Inlet)) (outlets : List (Option Outlet))
    → All (IsInRow ingress egress inlets outlets) (lanes_to ingress egress inlets outlets)
all_in_row ingress egress [] outlets = λ k d below. absurd (omega arith)
all_in_row ingress egress (x ∷ xs) [] = λ k d below. absurd (omega arith)
all_in_row ingress egress (x ∷ xs) (y ∷ ys) =
    All-append (IsInRow ingress egress (x ∷ xs) (y ∷ ys)) (lane_of ingress egress x y)
    (lanes_to ingress (suc egress) xs ys) (one x y)
    (λ k d below.
    let r = all_in_row ingress (suc egress) xs ys k d below in
    let at = r.to in
    record { place = suc r.place; from = r.from; to = omega arith; inlet = r.inlet; outlet = r.outlet })
  where
    one : (i : Option Inlet) (o : Option Outlet)
        → All (IsInRow ingress egress (i ∷ xs) (o ∷ ys)) (lane_of ingress egress i o)
    one None o = λ k d below. absurd (omega arith)
    one (Some i) None = λ k d below. absurd (omega arith)
    one (Some i) (Some o) =
        All-cons (IsInRow ingress egress (Some i ∷ xs) (Some o ∷ ys))
        (record { ingress = ingress; egress = egress; inlet = i; outlet = o }) []
        record { place = 0; from = refl; to = omega arith; inlet = refl; outlet = refl }
        (λ k d below. absurd (omega arith))

pub record IsAmong (offset : ℕ) (rows : List (List (Option Inlet))) (columns : List (List (Option Outlet))) (lane : Lane)
    : Type 0 where
  pub place : ℕ
  pub from : lane.ingress ≡ offset + place
  pub inlet : lane_at (get_or rows place []) lane.egress ≡ Some lane.inlet
  pub outlet : lane_at (get_or columns lane.egress []) place ≡ Some lane.outlet

pub all_among : (offset : ℕ) (rows : List (List (Option Inlet))) (columns : List (List (Option Outlet)))
    → All (IsAmong offset rows columns) (lanes_of offset rows columns)
all_among offset [] columns = λ k d below. absurd (omega arith)
all_among offset (row ∷ rows) columns =
    All-append (IsAmong offset (row ∷ rows) columns) (lanes_to offset 0 row (heads columns))
    (lanes_of (suc offset) rows (tails columns))
    (λ k d below.
    let r = all_in_row offset 0 row (heads columns) k d below in
    let lane = get_or (lanes_to offset 0 row (heads columns)) k d in
    let at : r.place ≡ lane.egress = let to = r.to in omega arith in
    record {
      place = 0;
      from = let from = r.from in omega arith;
      inlet = ap (λ n. lane_at row n) (sym at) ∙ r.inlet;
      outlet = sym (heads_at columns lane.egress) ∙ ap (λ n. lane_at (heads columns) n) (sym at) ∙ r.outlet;
    })
    (λ k d below.
    let r = all_among (suc offset) rows (tails columns) k d below in
    let lane = get_or (lanes_of (suc offset) rows (tails columns)) k d in
    record {
      place = suc r.place;
      from = let from = r.from in omega arith;
      inlet = r.inlet;
      outlet = sym (tails_at columns lane.egress r.place) ∙ r.outlet;
    })

-- what holds of all lanes holds of the two ends that stand at two ports

all_left : {A : Type 0} (P : A → Type 0) (xs ys : List A) → All P (xs ++ ys) → All P xs
all_left P xs ys all k d below =
    let size = length-append xs ys in
    subst P (get_or_append_left xs ys d k below) (all k d (omega arith))

all_right : {A : Type 0} (P : A → Type 0) (xs ys : List A) → All P (xs ++ ys) → All P ys
all_right P xs ys all k d below =
    let size = length-append xs ys in
    subst P (get_or-append-add xs ys k d) (all (length xs + k) d (omega arith))

abbrev HoldsOf : (Inlet → Outlet → Type 0) → Lane → Type 0
HoldsOf P lane = P lane.inlet lane.outlet

holds_in_row : (P : Inlet → Outlet → Type 0) (ingress egress : ℕ) (inlets : List (Option Inlet))
    (outlets : List (Option Outlet)) → All (HoldsOf P) (lanes_to ingress egress inlets outlets)
    → (i : ℕ) (inlet : Inlet) (outlet : Outlet) → lane_at inlets i ≡ Some inlet → lane_at outlets i ≡ Some outlet
    → P inlet outlet
holds_in_row P ingress egress [] outlets all i inlet outlet is is' = absurd (cc is)
holds_in_row P ingress egress (x ∷ xs) [] all i inlet outlet is is' = absurd (cc is')
holds_in_row P ingress egress (x ∷ xs) (y ∷ ys) all zero inlet outlet is is' =
    let rest : List Lane = lanes_to ingress (suc egress) xs ys in
    let lane : Lane = record { ingress = ingress; egress = egress; inlet = inlet; outlet = outlet } in
    let there : All (HoldsOf P) (lane_of ingress egress (Some inlet) (Some outlet) ++ rest) =
    subst (λ (b : Option Outlet). All (HoldsOf P) (lane_of ingress egress (Some inlet) b ++ rest)) is'
    (subst (λ (a : Option Inlet). All (HoldsOf P) (lane_of ingress egress a y ++ rest)) is all) in
    there 0 lane (omega arith)
holds_in_row P ingress egress (x ∷ xs) (y ∷ ys) all (suc i) inlet outlet is is' =
    holds_in_row P ingress (suc egress) xs ys
    (all_right (HoldsOf P) (lane_of ingress egress x y) (lanes_to ingress (suc egress) xs ys) all) i inlet outlet is is'

pub holds_between : (P : Inlet → Outlet → Type 0) (offset : ℕ) (rows : List (List (Option Inlet)))
    (columns : List (List (Option Outlet))) → All (HoldsOf P) (lanes_of offset rows columns)
    → (j q : ℕ) (inlet : Inlet) (outlet : Outlet) → lane_at (get_or rows j []) q ≡ Some inlet
    → lane_at (get_or columns q []) j ≡ Some outlet → P inlet outlet
holds_between P offset [] columns all j q inlet outlet is is' = absurd (cc is)
holds_between P offset (row ∷ rows) columns all zero q inlet outlet is is' =
    holds_in_row P offset 0 row (heads columns)
    (all_left (HoldsOf P) (lanes_to offset 0 row (heads columns)) (lanes_of (suc offset) rows (tails columns)) all)
    q inlet outlet is (heads_at columns q ∙ is')
holds_between P offset (row ∷ rows) columns all (suc j) q inlet outlet is is' =
    holds_between P (suc offset) rows (tails columns)
    (all_right (HoldsOf P) (lanes_to offset 0 row (heads columns)) (lanes_of (suc offset) rows (tails columns)) all)
    j q inlet outlet is (tails_at columns q j ∙ is')

-- what is left, lane by lane

pub left_at : (P : Lane → Type 0) (lanes : List Lane) (lefts : List LaneLeft) → AreLeft lanes lefts → All P lanes → (k : ℕ)
    (d : LaneLeft) → k < length lefts → (lane : Lane) × IsLeft lane (get_or lefts k d) × P lane
left_at P [] [] are all k d below = absurd (omega arith)
left_at P [] (left ∷ lefts) are all k d below = absurd are
left_at P (lane ∷ lanes) [] are all k d below = absurd are
left_at P (lane ∷ lanes) (left ∷ lefts) are all zero d below = (lane, are.0, All-head P lane lanes all)
left_at P (lane ∷ lanes) (left ∷ lefts) are all (suc k) d below =
    left_at P lanes lefts are.1 (All-tail P lane lanes all) k d (omega arith)

pub left_of_each : (lanes : List Lane) (lefts : List LaneLeft) → AreLeft lanes lefts
    → All (λ lane. (left : LaneLeft) × (lane.outlet.taken ++ left.left.items ≡ lane.inlet.placed)) lanes
left_of_each [] [] are = λ k d below. absurd (omega arith)
left_of_each [] (left ∷ lefts) are = absurd are
left_of_each (lane ∷ lanes) [] are = absurd are
left_of_each (lane ∷ lanes) (left ∷ lefts) are =
    All-cons (λ (l : Lane). (left : LaneLeft) × (l.outlet.taken ++ left.left.items ≡ l.inlet.placed)) lane lanes
    (left, are.0.copies) (left_of_each lanes lefts are.1)

abbrev pub ports_of_lane : Lane → ℕ × ℕ
ports_of_lane lane = (lane.ingress, lane.egress)

pub same_ports : (lanes : List Lane) (lefts : List LaneLeft) → AreLeft lanes lefts
    → map (λ left. (left.from, left.to)) lefts ≡ map ports_of_lane lanes
same_ports [] [] are = refl
same_ports [] (left ∷ lefts) are = absurd are
same_ports (lane ∷ lanes) [] are = absurd are
same_ports (lane ∷ lanes) (left ∷ lefts) are =
    ap (λ (l : List (ℕ × ℕ)). (left.from, left.to) ∷ l) (same_ports lanes lefts are.1)
    ∙ ap (λ n. (n, left.to) ∷ map ports_of_lane lanes) are.0.ingress
    ∙ ap (λ n. (lane.ingress, n) ∷ map ports_of_lane lanes) are.0.egress

-- the ports of all lanes

-- both ends are there, unless the ports are one
pub record IsThere (ingress egress : ℕ) (inlet : Option Inlet) (outlet : Option Outlet) : Type 0 where
  pub none : egress ≡ ingress → inlet ≡ None
  pub inlets : egress ≢ ingress → IsSome inlet
  pub outlets : egress ≢ ingress → IsSome outlet

abbrev pair_of : ℕ → ℕ → ℕ × ℕ
pair_of ingress egress = (ingress, egress)

one_lane : (ingress egress : ℕ) (inlet : Option Inlet) (outlet : Option Outlet) → IsThere ingress egress inlet outlet
    → map ports_of_lane (lane_of ingress egress inlet outlet)
    ≡ map (pair_of ingress) (cond (not (egress == ingress)) (egress ∷ []) [])
one_lane ingress egress inlet outlet there =
    ⊎_elim
    (λ (same : egress ≡ ingress).
    nothing inlet outlet (there.none same)
    ∙ ap (λ b. map (pair_of ingress) (cond (not b) (egress ∷ []) [])) (sym (eq-eqb egress ingress same)))
    (λ (apart : egress ≡ ingress → ⊥).
    something inlet outlet (there.inlets apart) (there.outlets apart)
    ∙ ap (λ b. map (pair_of ingress) (cond (not b) (egress ∷ []) [])) (sym (ne_eqb egress ingress apart)))
    (cases_eq egress ingress)
  where
    nothing : (i : Option Inlet) (o : Option Outlet) → i ≡ None → map ports_of_lane (lane_of ingress egress i o) ≡ []
    nothing None o none = refl
    nothing (Some i) o none = absurd (cc none)

    something : (i : Option Inlet) (o : Option Outlet) → IsSome i → IsSome o
        → map ports_of_lane (lane_of ingress egress i o) ≡ (ingress, egress) ∷ []
    something None o some some' = absurd (true≢false (sym some))
    something (Some i) None some some' = absurd (true≢false (sym some'))
    something (Some i) (Some o) some some' = refl

filter_cons : (ingress egress : ℕ) (rest : List ℕ)
    → map (pair_of ingress) (cond (not (egress == ingress)) (egress ∷ []) [])
    ++ map (pair_of ingress) (filter (λ to. not (to == ingress)) rest)
    ≡ map (pair_of ingress) (filter (λ to. not (to == ingress)) (egress ∷ rest))
filter_cons ingress egress rest = by (not (egress == ingress))
  where
    by : (b : Bool) → map (pair_of ingress) (cond b (egress ∷ []) [])
        ++ map (pair_of ingress) (filter (λ to. not (to == ingress)) rest)
        ≡ map (pair_of ingress) (cond b (egress ∷ filter (λ to. not (to == ingress)) rest)
        (filter (λ to. not (to == ingress)) rest))
    by true = refl
    by false = refl

row_ports : (ingress egress : ℕ) (inlets : List (Option Inlet)) (outlets : List (Option Outlet))
    → length outlets ≡ length inlets
    → ((i : ℕ) → i < length inlets → IsThere ingress (egress + i) (lane_at inlets i) (lane_at outlets i))
    → map ports_of_lane (lanes_to ingress egress inlets outlets)
    ≡ map (pair_of ingress) (filter (λ to. not (to == ingress)) (range_with_len egress (length inlets)))
row_ports ingress egress [] outlets size there = refl
row_ports ingress egress (x ∷ xs) [] size there = absurd (omega arith)
row_ports ingress egress (x ∷ xs) (y ∷ ys) size there =
    let one = there 0 (omega arith) in
    let here : IsThere ingress egress x y = record {
      none = λ same. one.none (omega arith);
      inlets = λ apart. one.inlets (λ e. apart (omega arith));
      outlets = λ apart. one.outlets (λ e. apart (omega arith));
    } in
    let rest = row_ports ingress (suc egress) xs ys (omega arith) (λ i below.
    let next = there (suc i) (omega arith) in
    record {
      none = λ same. next.none (omega arith);
      inlets = λ apart. next.inlets (λ e. apart (omega arith));
      outlets = λ apart. next.outlets (λ e. apart (omega arith));
    }) in
    let on : suc egress ≡ egress + 1 = omega arith in
    map-append ports_of_lane (lane_of ingress egress x y) (lanes_to ingress (suc egress) xs ys)
    ∙ ap (λ (l : List (ℕ × ℕ)). l ++ map ports_of_lane (lanes_to ingress (suc egress) xs ys))
    (one_lane ingress egress x y here)
    ∙ ap (λ (l : List (ℕ × ℕ)). map (pair_of ingress) (cond (not (egress == ingress)) (egress ∷ []) []) ++ l)
    (rest ∙ ap (λ n. map (pair_of ingress) (filter (λ to. not (to == ingress)) (range_with_len n (length xs)))) on)
    ∙ filter_cons ingress egress (range_with_len (egress + 1) (length xs))

abbrev pub lanes_from_port : ℕ → ℕ → List (ℕ × ℕ)
lanes_from_port ports ingress = map (pair_of ingress) (filter (λ to. not (to == ingress)) (range_with_len 0 ports))

pub all_ports : (ports offset : ℕ) (rows : List (List (Option Inlet))) (columns : List (List (Option Outlet)))
    → All (λ row. length row ≡ ports) rows → length columns ≡ ports
    → ((j i : ℕ) → j < length rows → i < ports
    → IsThere (offset + j) i (lane_at (get_or rows j []) i) (lane_at (get_or columns i []) j))
    → map ports_of_lane (lanes_of offset rows columns)
    ≡ flat_map (lanes_from_port ports) (range_with_len offset (length rows))
all_ports ports offset [] columns sizes size there = refl
all_ports ports offset (row ∷ rows) columns sizes size there =
    let width : length row ≡ ports = sizes 0 row (omega arith) in
    let heads_size = length-map columns (λ column. lane_at column 0) in
    let tails_size = length-map columns (λ column. drop 1 column) in
    let first = row_ports offset 0 row (heads columns) (omega arith) (λ i below.
    let here = there 0 i (omega arith) (omega arith) in
    subst (λ (o : Option Outlet). IsThere offset (0 + i) (lane_at row i) o) (sym (heads_at columns i)) record {
      none = λ same. here.none (omega arith);
      inlets = λ apart. here.inlets (λ e. apart (omega arith));
      outlets = λ apart. here.outlets (λ e. apart (omega arith));
    }) in
    let rest = all_ports ports (suc offset) rows (tails columns) (λ k d below. sizes (suc k) d (omega arith)) (omega arith)
    (λ j i below inside.
    let next = there (suc j) i (omega arith) inside in
    let inlet = lane_at (get_or rows j []) i in
    subst (λ (o : Option Outlet). IsThere (suc offset + j) i inlet o) (sym (tails_at columns i j)) record {
      none = λ same. next.none (omega arith);
      inlets = λ apart. next.inlets (λ e. apart (omega arith));
      outlets = λ apart. next.outlets (λ e. apart (omega arith));
    }) in
    let on : suc offset ≡ offset + 1 = omega arith in
    map-append ports_of_lane (lanes_to offset 0 row (heads columns)) (lanes_of (suc offset) rows (tails columns))
    ∙ ap (λ (l : List (ℕ × ℕ)). l ++ map ports_of_lane (lanes_of (suc offset) rows (tails columns)))
    (first ∙ ap (λ n. lanes_from_port n offset) width)
    ∙ ap (λ (l : List (ℕ × ℕ)). lanes_from_port ports offset ++ l)
    (rest ∙ ap (λ n. flat_map (lanes_from_port ports) (range_with_len n (length rows))) on)

-- lanes, by their rings

pub ring_at : {A : Type 0} (ring : Option A → Option Ring) → ring None ≡ None → (lanes : List (Option A)) (q : ℕ)
    → lane_at (map ring lanes) q ≡ ring (lane_at lanes q)
ring_at ring none [] q = sym none
ring_at ring none (lane ∷ lanes) zero = refl
ring_at ring none (lane ∷ lanes) (suc q) = ring_at ring none lanes q

pub no_inlet : (lane : Option Inlet) → ring_to lane ≡ None → lane ≡ None
no_inlet None none = refl
no_inlet (Some inlet) none = absurd (cc none)

pub an_inlet : (lane other : Option Inlet) → ring_to lane ≡ ring_to other → IsSome other → IsSome lane
an_inlet lane None same some = absurd (true≢false (sym some))
an_inlet None (Some other) same some = absurd (cc same)
an_inlet (Some lane) (Some other) same some = refl

pub an_outlet : (lane : Option Outlet) (other : Option Inlet) → ring_from lane ≡ ring_to other → IsSome other → IsSome lane
an_outlet lane None same some = absurd (true≢false (sym some))
an_outlet None (Some other) same some = absurd (cc same)
an_outlet (Some lane) (Some other) same some = refl

-- a place at which there is something is inside
pub inside : {A : Type 0} (rows : List (List (Option A))) (p q : ℕ) (x : A) → lane_at (get_or rows p []) q ≡ Some x
    → p < length rows
inside [] p q x is = absurd (cc is)
inside (row ∷ rows) zero q x is = omega arith
inside (row ∷ rows) (suc p) q x is = let rest = inside rows p q x is in omega arith

-- new lanes have no copies
pub none_taken : (q : ℕ) (ins : List Ingress) (s : ℕ) → taken_list (lane_at (lanes_from q ins) s) ≡ []
none_taken q [] s = refl
none_taken q (i ∷ ins) zero = one (lane_to q i)
  where
    one : (lane : Option Inlet) → taken_list (option_map new_outlet lane) ≡ []
    one None = refl
    one (Some inlet) = refl
none_taken q (i ∷ ins) (suc s) = none_taken q ins s

pub none_placed : (room : ℕ) (lanes : List (Option Inlet)) → All (IsNewLane room) lanes → (q : ℕ)
    → placed_list (lane_at lanes q) ≡ []
none_placed room [] new q = refl
none_placed room (lane ∷ lanes) new zero = one lane (All-head (IsNewLane room) lane lanes new)
  where
    one : (l : Option Inlet) → IsNewLane room l → placed_list l ≡ []
    one None is = refl
    one (Some inlet) is = ap (λ (i : Inlet). i.placed) is
none_placed room (lane ∷ lanes) new (suc q) = none_placed room lanes (All-tail (IsNewLane room) lane lanes new) q

-- what was taken from a lane is a part of what was placed on it, and from the same port
pub own_lane : (s : ℕ) (inlet : Option Inlet) (outlet : Option Outlet) → ring_to inlet ≡ ring_from outlet
    → ((i : Inlet) (o : Outlet) → inlet ≡ Some i → outlet ≡ Some o
    → (left : LaneLeft) × (o.taken ++ left.left.items ≡ i.placed))
    → All (λ copy. copy.from ≡ s) (placed_list inlet) → All (λ copy. copy.from ≡ s) (taken_list outlet)
own_lane s inlet None ring left all = λ k d below. absurd (omega arith)
own_lane s None (Some o) ring left all = absurd (cc ring)
own_lane s (Some i) (Some o) ring left all =
    let rest = left i o refl refl in
    all_left (λ (copy : FrameCopy). copy.from ≡ s) o.taken rest.0.left.items
    (subst (λ (l : List FrameCopy). All (λ (copy : FrameCopy). copy.from ≡ s) l) (sym rest.1) all)
