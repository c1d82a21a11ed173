use Rattle.std.proofs.Common.{◌≡◌, ◌∙◌, List, Option, length, map, slice_index_or, sum_by, arith, ap}
use Rattle.std.proofs.Common.{refl, sym, subst}
use Rattle.std.specs.List.{All}
use Rattle.std.specs.Vec.Iter.{into_iter_items}
use Rattle.std.proofs.lemmas.List.{with_items_is}
use mathlib.Core.List.{IsPrefix}
use Rattle.gw_ledger.specs.Ledgers.{AreBalanced}
use Rattle.gw_ledger.specs.declared.ledger.InLedger.{InLedger}
use Rattle.gw_ledger.specs.declared.ledger.OutLedger.{OutLedger}
use Rattle.gw_lanes.specs.Ends.{Inlet, Outlet}
use Rattle.gw_policy.specs.Batches.{Pair}
use Rattle.gw_ports.specs.Ends.{Ingress, Egress, IsSoundIngress, IsSoundEgress}
use Rattle.gw_ports.specs.Closing.{AreLeft, AreRooms, KnowsMore, Match, columns_of, lanes_of, rows_of}
use Rattle.gw_ports.specs.declared.closing.LaneLeft.{LaneLeft}
use Rattle.gw_ports.proofs.Balancing.{balanced}
use Rattle.gw_ports.proofs.OneGateway.{lanes_match, of_board, whole_out}
use Rattle.gw_ports.proofs.SettlingAll.{all_settled, as_many_settled, knew_less, kept_out, lent_is, written_is, written_rows}
use Rattle.gw_ports.proofs.closing.close_ends.Goals as goal

pub prepare-requires-clause-lanes : goal.prepare-requires-clause-lanes
prepare-requires-clause-lanes c =
    let ins = c.args.parts.ins.items in
    let outs = c.args.parts.outs.items in
    subst (λ (l : List Ingress). Match (rows_of l) (columns_of c.deref_mut-2.result.now)) (sym c.deref_mut.ensures.value)
    (subst (λ (l : List Egress). Match (rows_of ins) (columns_of l)) (sym c.deref_mut-2.ensures.value)
    (lanes_match c.args.parts.operator ins outs c.requires))

pub settle_all-requires : goal.settle_all-requires
settle_all-requires c = λ k d below.
    let ins = c.args.parts.ins in
    let kept : c.prepare.new.ins ≡ ins.items = c.prepare.ensures.same.0 ∙ c.deref_mut.ensures.value in
    let lent : c.deref_mut-3.result.now ≡ ins.items =
    c.deref_mut-3.ensures.value ∙ with_items_is ins c.prepare.new.ins (ap length kept ∙ sym ins.ok.0) ∙ kept in
    let size = ap length lent in
    ap (λ l. (slice_index_or l k d).board) lent
    ∙ of_board c.args.parts.operator ins.items c.args.parts.outs.items c.requires k d (omega arith)
    ∙ sym (ap (λ t. t.board) c.tell-told.ensures)

-- The ends are as they were, but for what ports in know.
pub returns-in_default-settle_all-clause-back : goal.returns-in_default-settle_all-clause-back
returns-in_default-settle_all-clause-back c =
    let ins = c.args.parts.ins in
    let outs = c.args.parts.outs in
    let now = c.settle_all.new.ins in
    let lent = c.deref_mut-3.result.now in
    let kept : c.prepare.new.ins ≡ ins.items = c.prepare.ensures.same.0 ∙ c.deref_mut.ensures.value in
    let kept_outs : c.prepare.new.outs ≡ outs.items = c.prepare.ensures.same.1 ∙ c.deref_mut-2.ensures.value in
    let same = lent_is ins c.prepare.new.ins lent now kept c.deref_mut-3.ensures.value c.settle_all.ensures.size in
    let size = as_many_settled ins c.prepare.new.ins lent now kept c.deref_mut-3.ensures.value c.settle_all.ensures.size in
    let after = written_is ins c.prepare.new.ins lent now kept c.deref_mut-3.ensures.value c.settle_all.ensures.size in (
      refl,
      kept_out outs c.prepare.new.outs kept_outs,
      ap length after ∙ size,
      (λ k d below.
          subst (λ (l : List Ingress). KnowsMore (slice_index_or ins.items k d) (slice_index_or l k d)) (sym after)
          (subst (λ (l : List Ingress). KnowsMore (slice_index_or l k d) (slice_index_or now k d)) same
          (c.settle_all.ensures.more k d (let n = ap length same in omega arith)))),
    )

-- Settling leaves the lanes as they are, so that rows and columns still match, and the rooms are theirs.

pub finish_all-requires-clause-pairs : goal.finish_all-requires-clause-pairs
finish_all-requires-clause-pairs c =
    let ins = c.args.parts.ins in
    let outs = c.args.parts.outs in
    let now = c.settle_all.new.ins in
    let told = c.tell-told.result.batches in
    let kept : c.prepare.new.ins ≡ ins.items = c.prepare.ensures.same.0 ∙ c.deref_mut.ensures.value in
    let rows =
    written_rows ins c.prepare.new.ins c.deref_mut-3.result.now now kept c.deref_mut-3.ensures.value
    c.settle_all.ensures.size told c.in-Ok-settle_all.ensures.settled in
    let columns : map into_iter_items c.take_columns-columns.result.items ≡ columns_of outs.items =
    c.take_columns-columns.ensures
    ∙ ap columns_of (kept_out outs c.prepare.new.outs (c.prepare.ensures.same.1 ∙ c.deref_mut-2.ensures.value)) in
    subst (λ (r : List (List (Option Inlet))). Match r (map into_iter_items c.take_columns-columns.result.items)) (sym rows)
    (subst (λ (cs : List (List (Option Outlet))). Match (rows_of ins.items) cs) (sym columns)
    (lanes_match c.args.parts.operator ins.items outs.items c.requires))

pub finish_all-requires-clause-rooms : goal.finish_all-requires-clause-rooms
finish_all-requires-clause-rooms c =
    let ins = c.args.parts.ins in
    let outs = c.args.parts.outs in
    let now = c.settle_all.new.ins in
    let told = c.tell-told.result.batches in
    let kept : c.prepare.new.ins ≡ ins.items = c.prepare.ensures.same.0 ∙ c.deref_mut.ensures.value in
    let rows =
    written_rows ins c.prepare.new.ins c.deref_mut-3.result.now now kept c.deref_mut-3.ensures.value
    c.settle_all.ensures.size told c.in-Ok-settle_all.ensures.settled in
    let columns : map into_iter_items c.take_columns-columns.result.items ≡ columns_of outs.items =
    c.take_columns-columns.ensures
    ∙ ap columns_of (kept_out outs c.prepare.new.outs (c.prepare.ensures.same.1 ∙ c.deref_mut-2.ensures.value)) in
    let rooms = c.in-Ok.prepared.rooms.items in
    let made : AreRooms (lanes_of 0 (rows_of ins.items) (columns_of outs.items)) rooms =
    subst (λ (o : List Egress). AreRooms (lanes_of 0 (rows_of ins.items) (columns_of o)) rooms) c.deref_mut-2.ensures.value
    (subst (λ (i : List Ingress). AreRooms (lanes_of 0 (rows_of i) (columns_of c.deref_mut-2.result.now)) rooms)
    c.deref_mut.ensures.value c.in-Ok.ensures.rooms) in
    subst
    (λ (r : List (List (Option Inlet))). AreRooms (lanes_of 0 r (map into_iter_items c.take_columns-columns.result.items)) rooms)
    (sym rows)
    (subst (λ (cs : List (List (Option Outlet))). AreRooms (lanes_of 0 (rows_of ins.items) cs) rooms) (sym columns) made)

pub returns-clause-closed : goal.returns-clause-closed
returns-clause-closed c =
    let ins = c.args.parts.ins in
    let outs = c.args.parts.outs in
    let now = c.settle_all.new.ins in
    let told = c.tell-told.result.batches in
    let kept : c.prepare.new.ins ≡ ins.items = c.prepare.ensures.same.0 ∙ c.deref_mut.ensures.value in
    let rows =
    written_rows ins c.prepare.new.ins c.deref_mut-3.result.now now kept c.deref_mut-3.ensures.value
    c.settle_all.ensures.size told c.in-Ok-settle_all.ensures.settled in
    let columns : map into_iter_items c.take_columns-columns.result.items ≡ columns_of outs.items =
    c.take_columns-columns.ensures
    ∙ ap columns_of (kept_out outs c.prepare.new.outs (c.prepare.ensures.same.1 ∙ c.deref_mut-2.ensures.value)) in
    let settled =
    all_settled ins c.prepare.new.ins c.deref_mut-3.result.now now kept c.deref_mut-3.ensures.value
    c.settle_all.ensures.size told c.in-Ok-settle_all.ensures.settled in
    let lefts = c.finish_all.result.items in
    let published : told ≡ c.args.parts.operator.published = ap (λ t. t.batches) c.tell-told.ensures in
    let taken : c.in-Ok.prepared.ins.items ≡ map (λ (i : Ingress). i.ledger) ins.items =
    c.in-Ok.ensures.ins.0 ∙ ap (λ l. map (λ (i : Ingress). i.ledger) l) c.deref_mut.ensures.value in
    let sent : c.in-Ok.prepared.outs.items ≡ map (λ (e : Egress). e.ledger) outs.items =
    c.in-Ok.ensures.outs.0 ∙ ap (λ l. map (λ (e : Egress). e.ledger) l) c.deref_mut-2.ensures.value in
    let sound : All IsSoundIngress ins.items =
    subst (λ (l : List Ingress). All IsSoundIngress l) c.deref_mut.ensures.value c.in-Ok.ensures.ins.1 in
    let sound_outs : All IsSoundEgress outs.items =
    subst (λ (l : List Egress). All IsSoundEgress l) c.deref_mut-2.ensures.value c.in-Ok.ensures.outs.1 in
    let whole : All (λ (e : Egress). length e.lanes ≡ length ins.items) outs.items =
    whole_out c.args.parts.operator ins.items outs.items c.requires in
    let left : AreLeft (lanes_of 0 (rows_of ins.items) (columns_of outs.items)) lefts =
    subst (λ (cs : List (List (Option Outlet))). AreLeft (lanes_of 0 (rows_of ins.items) cs) lefts) columns
    (subst
    (λ (r : List (List (Option Inlet))). AreLeft (lanes_of 0 r (map into_iter_items c.take_columns-columns.result.items)) lefts)
    rows c.finish_all.ensures) in
    let sum = sum_by (λ (lane : LaneLeft). length lane.left.items) lefts in
    let balances : AreBalanced (map (λ (i : Ingress). i.ledger) ins.items) (map (λ (e : Egress). e.ledger) outs.items) sum =
    balanced ins.items outs.items lefts sound sound_outs
    (lanes_match c.args.parts.operator ins.items outs.items c.requires) whole left in
    record {
      taken = taken;
      sent = sent;
      front_is = c.len.ensures.value ∙ ap length published;
      known =
          subst (λ (l : List (List Pair)). All (λ (i : Ingress). IsPrefix i.known l) ins.items) published
          (knew_less told ins.items now settled);
      left = left;
      balances =
          subst (λ (l : List InLedger). AreBalanced l c.in-Ok.prepared.outs.items sum) (sym taken)
          (subst (λ (l : List OutLedger). AreBalanced (map (λ (i : Ingress). i.ledger) ins.items) l sum) (sym sent) balances);
    }
