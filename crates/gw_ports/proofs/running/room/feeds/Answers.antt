use Rattle.std.proofs.Common.{◌≡◌, [], Global, arith, ap, length, refl}
use Rattle.std.specs.Vec.Iter.{into_iter_items, into_iter_len}
use Rattle.std.specs.declared.vec.IntoIter.{IntoIter}
use Rattle.std.proofs.lemmas.List.{nil_from_length}
use Rattle.gw_ports.specs.Ends.{Ingress}
use Rattle.gw_ports.specs.declared.running.feed.Feed.{Feed}
use Rattle.gw_ports.proofs.Runs.{all_push, list_made, list_push, other_made}
use Rattle.gw_ports.proofs.running.room.feeds.Goals as goal

pub loop-port-preserved : goal.loop-port-preserved
loop-port-preserved g c =
    let at = c.loop-port in
    let O = Feed g.row.I.Denot g.row.O.Denot in
    let new : O = record {
      port = c.in-Some.port;
      input = c.in-Some-next.input;
      outcomes = c.in-Some-next-2.outcomes;
      waits = c.args.waits;
    } in
    let old = at.feeds.items in
    let now = c.push_reserved.new.self.items in
    let items = c.push_reserved.ensures.items in
    let less = ap length c.in-Some.ensures.steps.0 in
    let more = c.push_reserved.ensures.len in
    let kept = c.push_reserved.ensures.capacity in
    let room = at.invariant.4 in (
      list_push (λ (o : O). o.port) old now new _ _ _ items c.in-Some.ensures.steps.0 at.invariant.0,
      list_push (λ (o : O). o.input) old now new _ _ _ items c.in-Some-next.ensures.items at.invariant.1,
      list_push (λ (o : O). o.outcomes) old now new _ _ _ items c.in-Some-next-2.ensures.items at.invariant.2,
      all_push (λ (o : O). o.waits ≡ c.args.waits) old now new items at.invariant.3 refl,
      omega arith,
    )

-- No port is left.
none_left : (iterator : IntoIter Ingress Global) → into_iter_len iterator ≡ 0 → into_iter_items iterator ≡ []
none_left iterator ended = nil_from_length (into_iter_items iterator) (let size = iterator.rest.ok.0 in omega arith)

pub returns-clause-ports : goal.returns-clause-ports
returns-clause-ports g c =
    list_made (λ (o : Feed g.row.I.Denot g.row.O.Denot). o.port) c.loop-port.feeds.items _ _
    (none_left c.loop-port.port-iterator c.in-None.ensures.steps.0) c.loop-port.invariant.0

pub returns-clause-inputs : goal.returns-clause-inputs
returns-clause-inputs g c =
    let O = Feed g.row.I.Denot g.row.O.Denot in
    let a = c.args.ins.ok.0 in
    let b = c.args.inputs.ok.0 in
    let same = c.requires.0 in
    other_made (λ (o : O). o.port) (λ (o : O). o.input) c.loop-port.feeds.items _ _ _ _
    (none_left c.loop-port.port-iterator c.in-None.ensures.steps.0) c.loop-port.invariant.0 c.loop-port.invariant.1 (omega arith)

pub returns-clause-outcomes : goal.returns-clause-outcomes
returns-clause-outcomes g c =
    let O = Feed g.row.I.Denot g.row.O.Denot in
    let a = c.args.ins.ok.0 in
    let b = c.args.outcomes.ok.0 in
    let same = c.requires.1 in
    other_made (λ (o : O). o.port) (λ (o : O). o.outcomes) c.loop-port.feeds.items _ _ _ _
    (none_left c.loop-port.port-iterator c.in-None.ensures.steps.0) c.loop-port.invariant.0 c.loop-port.invariant.2 (omega arith)
