use Rattle.std.proofs.Common.{◌≡◌, [], Global, arith, ap, length}
use Rattle.std.specs.Vec.Iter.{into_iter_items, into_iter_len}
use Rattle.std.specs.declared.vec.IntoIter.{IntoIter}
use Rattle.std.proofs.lemmas.List.{nil_from_length}
use Rattle.gw_ports.specs.Ends.{Egress}
use Rattle.gw_ports.specs.declared.running.drain.Drain.{Drain}
use Rattle.gw_ports.proofs.Runs.{list_made, list_push, other_made}
use Rattle.gw_ports.proofs.running.room.drains.Goals as goal

pub loop-port-preserved : goal.loop-port-preserved
loop-port-preserved g c =
    let at = c.loop-port in
    let T = Drain g.row.C.Denot in
    let new : T = record { port = c.in-Some.port; out = c.in-Some-next.out } in
    let old = at.drains.items in
    let now = c.push_reserved.new.self.items in
    let items = c.push_reserved.ensures.items in
    let less = ap length c.in-Some.ensures.steps.0 in
    let more = c.push_reserved.ensures.len in
    let kept = c.push_reserved.ensures.capacity in
    let room = at.invariant.2 in (
      list_push (λ (t : T). t.port) old now new _ _ _ items c.in-Some.ensures.steps.0 at.invariant.0,
      list_push (λ (t : T). t.out) old now new _ _ _ items c.in-Some-next.ensures.items at.invariant.1,
      omega arith,
    )

-- No port is left.
none_left : (iterator : IntoIter Egress Global) → into_iter_len iterator ≡ 0 → into_iter_items iterator ≡ []
none_left iterator ended = nil_from_length (into_iter_items iterator) (let size = iterator.rest.ok.0 in omega arith)

pub returns-clause-ports : goal.returns-clause-ports
returns-clause-ports g c =
    list_made (λ (t : Drain g.row.C.Denot). t.port) c.loop-port.drains.items _ _
    (none_left c.loop-port.port-iterator c.in-None.ensures.steps.0) c.loop-port.invariant.0

pub returns-clause-out : goal.returns-clause-out
returns-clause-out g c =
    let T = Drain g.row.C.Denot in
    let a = c.args.outs.ok.0 in
    let b = c.args.out.ok.0 in
    let same = c.requires in
    other_made (λ (t : T). t.port) (λ (t : T). t.out) c.loop-port.drains.items _ _ _ _
    (none_left c.loop-port.port-iterator c.in-None.ensures.steps.0) c.loop-port.invariant.0 c.loop-port.invariant.1 (omega arith)
