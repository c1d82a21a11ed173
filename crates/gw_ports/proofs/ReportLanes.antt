-- The lanes of a run's report: which there are, and that the copies that outcomes placed on each were taken out, or are left.
use Rattle.std.proofs.Common.{◌≡◌, ◌∙◌, ℕ, ◌<◌, ◌≤◌, List, [], ◌++◌, length, map, get_or, Option, Some, None}
use Rattle.std.proofs.Common.{sym, ap, subst, refl, arith, option_map, ⊎_elim}
use Rattle.std.proofs.Math.Nat.{zero-add}
use Rattle.std.proofs.lemmas.Bool.{cases_lt}
use Rattle.std.proofs.lemmas.List.{get_or_default, get_or_past, get_or-map, length-map}
use Rattle.std.specs.List.{All, flat_map, range_with_len}
use Rattle.gw_board.specs.Ends.{Publishing}
use Rattle.gw_ledger.specs.Bounds.{Bounds}
use Rattle.gw_ledger.specs.declared.outcome.FrameCopy.{FrameCopy}
use Rattle.gw_ledger.specs.declared.outcome.Outcome.{Outcome}
use Rattle.gw_policy.specs.Batches.{Pair}
use Rattle.gw_lanes.specs.Ends.{Inlet, Outlet, new_outlet}
use Rattle.gw_ports.specs.Closing.{AreLeft, columns_of, lanes_of, rows_of}
use Rattle.gw_ports.specs.Ends.{EndIn, EndOut, Ingress, Egress, end_in, end_out, lane_at, lane_to, ring_from, ring_to}
use Rattle.gw_ports.specs.Making.{lanes_from, new_egress}
use Rattle.gw_ports.specs.Running.{Drained, Fed, HasTaken}
use Rattle.gw_ports.specs.Runs.{IsRun}
use Rattle.gw_ports.specs.Reports.{Ran, copies_of, copies_to, frames_of, from_port, lanes_between, outcomes_of}
use Rattle.gw_ports.specs.declared.closing.LaneLeft.{LaneLeft}
use Rattle.gw_ports.proofs.Copied.{AreOwn, copies_of_more, placed_from, placed_list, placed_to, taken_from_port, taken_list}
use Rattle.gw_ports.proofs.Elementwise.{pairwise_at, there}
use Rattle.gw_ports.proofs.Judged.{as_many_outcomes}
use Rattle.gw_ports.proofs.Lanes.{IsAmong, IsThere, all_among, all_ports, an_inlet, an_outlet, holds_between, inside}
use Rattle.gw_ports.proofs.Lanes.{lanes_from_port}
use Rattle.gw_ports.proofs.Lanes.{left_at, left_of_each, no_inlet, none_placed, none_taken, own_lane, ring_at, same_ports}
use Rattle.gw_ports.proofs.ReportOutcomes.{PortInOf, many_ins}
use Rattle.gw_ports.proofs.Runs.{pairwise_length}

module _ {S : Type 0} {steps : S → Option (List ℕ) → S → Type 0} {limits : Bounds} {first : List Pair} {inputs : List S}
    {batches : List (List Pair)} {rests : List S} {ran : Ran} (run : IsRun steps limits first inputs batches rests ran) where
  -- the ports out

  pub many_outs : (length run.outs ≡ limits.ports) × (length run.drained ≡ limits.ports)
  many_outs =
      let outs = run.opened.ends.enough_outs in
      let drained = pairwise_length HasTaken run.outs run.drained run.took in
      (outs, omega arith)

  -- a port out, before the run and after it: it was new, and nothing was taken from its lanes
  pub record PortOutOf (port : ℕ) : Type 0 where
    pub before : Egress
    pub before_is : (d : Egress) → get_or run.outs port d ≡ before
    pub new : before ≡ new_egress port (lanes_from port run.ins)
    pub after : Drained
    pub after_is : (d : Drained) → get_or run.drained port d ≡ after
    pub took : HasTaken before after
    pub copies_are : copies_of ran port ≡ after.copies

  pub port_out : (port : ℕ) → port < limits.ports → PortOutOf port
  port_out port below =
      let n = many_outs.0 in
      let m = many_outs.1 in
      let t = there run.outs port (omega arith) in
      let w = there run.drained port (omega arith) in
      record {
        before = t.0;
        before_is = t.1;
        new = sym (t.1 t.0) ∙ run.opened.ends.egress port t.0 (omega arith);
        after = w.0;
        after_is = w.1;
        took = pairwise_at HasTaken run.outs run.drained port t.0 w.0 run.took (omega arith) t.1 w.1;
        copies_are =
            ap (λ (l : List (List FrameCopy)). get_or l port []) run.out_is
            ∙ get_or-map (λ (x : Drained). x.copies) run.drained port w.0 [] (omega arith)
            ∙ ap (λ (x : Drained). x.copies) (w.1 w.0);
      }

  nothing_taken : (q : ℕ) (below : q < limits.ports) (s : ℕ)
      → taken_list (lane_at (port_out q below).before.lanes s) ≡ []
  nothing_taken q below s =
      ap (λ (e : Egress). taken_list (lane_at e.lanes s)) (port_out q below).new ∙ none_taken q run.ins s

  -- the lanes, as a row for each port in and as a column for each port out

  rows : List (List (Option Inlet))
  rows = rows_of (map (λ (x : Fed S). x.port) run.done)

  columns : List (List (Option Outlet))
  columns = columns_of (map (λ (x : Drained). x.port) run.drained)

  column_is : (q : ℕ) (below : q < limits.ports) → get_or columns q [] ≡ (port_out q below).after.port.lanes
  unfolding columns
  column_is q below =
      let n = many_outs.1 in
      let ports = length-map run.drained (λ (x : Drained). x.port) in
      let it = port_out q below in
      get_or-map (λ (e : Egress). e.lanes) (map (λ (x : Drained). x.port) run.drained) q it.after.port [] (omega arith)
      ∙ ap (λ (e : Egress). e.lanes) (get_or-map (λ (x : Drained). x.port) run.drained q it.after it.after.port (omega arith)
      ∙ ap (λ (x : Drained). x.port) (it.after_is it.after))

  column_width : (q : ℕ) (below : q < limits.ports) → length (port_out q below).after.port.lanes ≡ limits.ports
  column_width q below =
      let it = port_out q below in
      sym (length-map it.after.port.lanes ring_from)
      ∙ ap (λ (x : EndOut). length x.rings) it.took.same
      ∙ length-map it.before.lanes ring_from
      ∙ ap (λ (e : Egress). length e.lanes) it.new
      ∙ length-map run.ins (λ i. option_map new_outlet (lane_to q i)) ∙ run.opened.ends.enough_ins

  enough_rows : length rows ≡ limits.ports
  unfolding rows
  enough_rows =
      length-map (map (λ (x : Fed S). x.port) run.done) (λ (i : Ingress). i.lanes)
      ∙ length-map run.done (λ (x : Fed S). x.port) ∙ (many_ins run).1

  enough_columns : length columns ≡ limits.ports
  unfolding columns
  enough_columns =
      length-map (map (λ (x : Drained). x.port) run.drained) (λ (e : Egress). e.lanes)
      ∙ length-map run.drained (λ (x : Drained). x.port) ∙ many_outs.1

  lefts_are : AreLeft (lanes_of 0 rows columns) ran.report.lanes.items
  unfolding rows columns
  lefts_are = run.closed.left

  module _ (frames : List (List (List ℕ))) (port_in : (p : ℕ) → p < limits.ports → PortInOf run p (frames_of frames p)) where
    row_is : (p : ℕ) (below : p < limits.ports) → get_or rows p [] ≡ (port_in p below).one.port.lanes
    unfolding rows
    row_is p below =
        let n = (many_ins run).1 in
        let ports = length-map run.done (λ (x : Fed S). x.port) in
        let it = port_in p below in
        get_or-map (λ (i : Ingress). i.lanes) (map (λ (x : Fed S). x.port) run.done) p it.one.port [] (omega arith)
        ∙ ap (λ (i : Ingress). i.lanes) (get_or-map (λ (x : Fed S). x.port) run.done p it.one it.one.port (omega arith)
        ∙ ap (λ (x : Fed S). x.port) (it.one_is it.one))

    row_width : (p : ℕ) (below : p < limits.ports) → length (port_in p below).one.port.lanes ≡ limits.ports
    row_width p below =
        let it = port_in p below in
        sym (length-map it.one.port.lanes ring_to)
        ∙ ap (λ (x : EndIn). length x.rings) it.did.same
        ∙ length-map it.feed.port.lanes ring_to ∙ it.new.lanes.0

    -- what was placed on the lane between two ports
    placed_is : (p : ℕ) (below : p < limits.ports) (q : ℕ) → placed_list (lane_at (port_in p below).one.port.lanes q)
        ≡ copies_to p q (port_in p below).did.frames (port_in p below).one.outcomes
    placed_is p below q =
        let it = port_in p below in
        let given = it.did.frames in
        placed_to q [] it.feed.port given it.one.outcomes it.one.port it.did.done
        ∙ ap (λ (l : List FrameCopy). l ++ copies_to it.feed.port.port q given it.one.outcomes)
        (none_placed limits.lane it.feed.port.lanes it.new.empty q)
        ∙ ap (λ n. copies_to n q given it.one.outcomes) it.new.number

    -- both ends of a lane are of one ring
    rings_match : (p q : ℕ) (below : p < limits.ports) (below' : q < limits.ports)
        → ring_to (lane_at (port_in p below).one.port.lanes q) ≡ ring_from (lane_at (port_out q below').after.port.lanes p)
    rings_match p q below below' =
        let it = port_in p below in
        let to = port_out q below' in
        let i = it.feed.port in
        let e = to.before in
        let ins = run.opened.ends.enough_ins in
        let outs = run.opened.ends.enough_outs in
        let ports : run.operator.ports ≡ limits.ports = ap (λ (x : Publishing). x.ports) run.opened.published in
        sym (ring_at ring_to refl it.one.port.lanes q)
        ∙ ap (λ (x : EndIn). lane_at x.rings q) it.did.same
        ∙ ap (λ (x : EndIn). lane_at x.rings q)
        (sym (get_or-map end_in run.ins p i (end_in i) (omega arith) ∙ ap end_in (it.port_is i)))
        ∙ run.opened.one.lanes p q (end_in i) (end_out e) (omega arith) (omega arith)
        ∙ ap (λ (x : EndOut). lane_at x.rings p)
        (get_or-map end_out run.outs q e (end_out e) (omega arith) ∙ ap end_out (to.before_is e))
        ∙ ap (λ (x : EndOut). lane_at x.rings p) (sym to.took.same)
        ∙ ring_at ring_from refl to.after.port.lanes p

    -- both ends of a lane are there, unless its ports are one
    both_there : (p q : ℕ) (below : p < limits.ports) (below' : q < limits.ports)
        → IsThere p q (lane_at (port_in p below).one.port.lanes q) (lane_at (port_out q below').after.port.lanes p)
    both_there p q below below' =
        let it = port_in p below in
        let has = it.new.lanes in
        let size = has.0 in
        let x = lane_at it.one.port.lanes q in
        let y = lane_at it.feed.port.lanes q in
        let z = lane_at (port_out q below').after.port.lanes p in
        let ring : ring_to x ≡ ring_from z = rings_match p q below below' in
        let kept : ring_to x ≡ ring_to y =
        sym (ring_at ring_to refl it.one.port.lanes q) ∙ ap (λ (e : EndIn). lane_at e.rings q) it.did.same
        ∙ ring_at ring_to refl it.feed.port.lanes q in
        record {
          none = λ same. no_inlet x (kept ∙ ap ring_to (ap (λ n. lane_at it.feed.port.lanes n) same ∙ has.1.none));
          inlets = λ apart. an_inlet x y kept (has.1.others q (omega arith) apart);
          outlets = λ apart. an_outlet z y (sym ring ∙ kept) (has.1.others q (omega arith) apart);
        }

    -- the copies that were taken from a lane are from its port
    pub own : (q : ℕ) (below : q < limits.ports) → AreOwn (port_out q below).after.port.lanes
    own q below s = ⊎_elim
        (λ (inner : s < limits.ports).
        own_lane s (lane_at (port_in s inner).one.port.lanes q) (lane_at (port_out q below).after.port.lanes s)
        (rings_match s q inner below)
        (λ i e is is'.
        holds_between (λ (x : Inlet) (y : Outlet). (left : LaneLeft) × (y.taken ++ left.left.items ≡ x.placed)) 0 rows columns
        (left_of_each (lanes_of 0 rows columns) ran.report.lanes.items lefts_are) s q i e
        (ap (λ (r : List (Option Inlet)). lane_at r q) (row_is s inner) ∙ is)
        (ap (λ (r : List (Option Outlet)). lane_at r s) (column_is q below) ∙ is'))
        (subst (λ (l : List FrameCopy). All (λ (c : FrameCopy). c.from ≡ s) l) (sym (placed_is s inner q))
        (placed_from s q (port_in s inner).did.frames (port_in s inner).one.outcomes)))
        (λ (outer : limits.ports ≤ s).
        subst (λ (x : Option Outlet). All (λ (c : FrameCopy). c.from ≡ s) (taken_list x))
        (sym (get_or_past (port_out q below).after.port.lanes s None (let n = column_width q below in omega arith)))
        (λ k d inside. absurd (omega arith)))
        (cases_lt s limits.ports)

    taken_are : (q : ℕ) (below : q < limits.ports) (s : ℕ)
        → taken_list (lane_at (port_out q below).after.port.lanes s) ≡ from_port s (copies_of ran q)
    taken_are q below s =
        let it = port_out q below in
        taken_from_port it.before it.after.copies it.after.port it.took.takes (own q below) s
        ∙ ap (λ (l : List FrameCopy). l ++ from_port s it.after.copies) (nothing_taken q below s)
        ∙ ap (from_port s) (sym it.copies_are)

    -- on the lane between two ports
    copied_between : (p q : ℕ) (below : p < limits.ports) (below' : q < limits.ports) (inlet : Inlet) (outlet : Outlet)
        (left : List FrameCopy) → lane_at (port_in p below).one.port.lanes q ≡ Some inlet
        → lane_at (port_out q below').after.port.lanes p ≡ Some outlet → outlet.taken ++ left ≡ inlet.placed
        → from_port p (copies_of ran q) ++ left ≡ copies_to p q (frames_of frames p) (outcomes_of ran p)
    copied_between p q below below' inlet outlet left is is' copies =
        let it = port_in p below in
        let given = it.did.frames in
        let many = as_many_outcomes [] it.feed.port given it.one.outcomes it.one.port it.did.done in
        ap (λ (l : List FrameCopy). l ++ left) (sym (sym (ap taken_list is') ∙ taken_are q below' p))
        ∙ copies ∙ sym (ap placed_list is) ∙ placed_is p below q
        ∙ sym (copies_of_more p q given it.did.whole.0.0 it.one.outcomes (omega arith))
        ∙ ap (λ (l : List (List ℕ)). copies_to p q l it.one.outcomes) it.did.whole.0.1
        ∙ ap (λ (l : List Outcome). copies_to p q (frames_of frames p) l) (sym it.outcomes_are)

    -- of each lane, the copies that were taken out and those that are left are those that were placed
    pub copied : All (λ left. from_port left.from (copies_of ran left.to) ++ left.left.items
        ≡ copies_to left.from left.to (frames_of frames left.from) (outcomes_of ran left.from)) ran.report.lanes.items
    copied k d below =
        let left = get_or ran.report.lanes.items k d in
        let at =
        left_at (IsAmong 0 rows columns) (lanes_of 0 rows columns) ran.report.lanes.items lefts_are
        (all_among 0 rows columns) k d below in
        let lane = at.0 in
        let among = at.2 in
        let p = among.place in
        let q = lane.egress in
        let n = enough_rows in
        let m = enough_columns in
        let low = inside rows p q lane.inlet among.inlet in
        let low' = inside columns q p lane.outlet among.outlet in
        let below_p : p < limits.ports = omega arith in
        let below_q : q < limits.ports = omega arith in
        let from : left.from ≡ p = let a = at.1.ingress in let b = among.from in omega arith in
        let all =
        copied_between p q below_p below_q lane.inlet lane.outlet left.left.items
        (ap (λ (r : List (Option Inlet)). lane_at r q) (sym (row_is p below_p)) ∙ among.inlet)
        (ap (λ (r : List (Option Outlet)). lane_at r p) (sym (column_is q below_q)) ∙ among.outlet) at.1.copies in
        subst (λ f. from_port f (copies_of ran left.to) ++ left.left.items
        ≡ copies_to f left.to (frames_of frames f) (outcomes_of ran f)) (sym from)
        (subst (λ to. from_port p (copies_of ran to) ++ left.left.items
        ≡ copies_to p to (frames_of frames p) (outcomes_of ran p)) (sym at.1.egress) all)

    -- there is a lane from each port to each other
    pub lanes_are : map (λ left. (left.from, left.to)) ran.report.lanes.items ≡ lanes_between limits.ports
    lanes_are =
        same_ports (lanes_of 0 rows columns) ran.report.lanes.items lefts_are
        ∙ all_ports limits.ports 0 rows columns
        (λ k d below.
        let n = enough_rows in
        let inner : k < limits.ports = omega arith in
        ap length (get_or_default rows k d [] below ∙ row_is k inner) ∙ row_width k inner)
        enough_columns
        (λ j i below inner.
        let n = enough_rows in
        let inner' : j < limits.ports = omega arith in
        subst (λ n. IsThere n i (lane_at (get_or rows j []) i) (lane_at (get_or columns i []) j)) (sym (zero-add j))
        (subst (λ (r : List (Option Inlet)). IsThere j i (lane_at r i) (lane_at (get_or columns i []) j)) (sym (row_is j inner'))
        (subst (λ (r : List (Option Outlet)). IsThere j i (lane_at (port_in j inner').one.port.lanes i) (lane_at r j))
        (sym (column_is i inner)) (both_there j i inner' inner))))
        ∙ ap (λ n. flat_map (lanes_from_port limits.ports) (range_with_len 0 n)) enough_rows
