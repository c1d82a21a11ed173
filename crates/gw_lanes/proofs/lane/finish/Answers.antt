use Rattle.std.proofs.Common.{◌≡◌, ◌≤◌, ◌∷◌, ◌++◌, [], ap, ◌∙◌, append_assoc, append-nil, arith, length, sym}
use Rattle.std.proofs.lemmas.List.{nil_from_length}
use Rattle.rtrb.specs.Ring.{known_items}
use Rattle.gw_lanes.specs.Ends.{Inlet, Outlet, Ring}
use Rattle.gw_lanes.proofs.lane.finish.Goals as goal

-- one more is popped, from the front of what waits
pub loop-preserved : goal.loop-preserved
loop-preserved c =
    let h = c.loop.invariant in
    let next = c.pop_known.ensures.received.1 in (
      c.push_reserved.ensures.capacity ∙ h.0,
      omega (arith, c.push_reserved.ensures.len, h.1),
      omega (arith, ap length next, h.2),
      (
        h.3.0 ++ c.pop_known.result ∷ [],
        c.push_reserved.ensures.items ∙ ap (λ xs. xs ++ c.pop_known.result ∷ []) h.3.1
            ∙ append_assoc c.args.left.now.items h.3.0 (c.pop_known.result ∷ []),
        append_assoc h.3.0 (c.pop_known.result ∷ []) (known_items c.pop_known.new.self)
            ∙ ap (λ xs. h.3.0 ++ xs) (sym next) ∙ h.3.2,
      ),
    )

-- and at the end all that waited
pub returns : goal.returns
returns c =
    let h = c.loop.invariant in
    let looked = c.slots_beside-waiting.ensures in
    let most : length (known_items c.slots_beside-waiting.new.self) ≤ c.args.from.room =
    (let ahead = c.slots_beside-waiting.new.self.counts in
    let same = c.slots_beside-waiting.ensures.looked.0.1 in
    let slots = c.to.inside.consumer.reads.2 in
    let slots' = c.from.inside.producer.writes.2 in
    let room = c.from.invariant.0 in
    let from = ap (λ (i : Inlet). i.room) c.from.view_is in
    let names = ap (λ (i : Inlet). i.ring.names.0) c.from.view_is in
    let names' = ap (λ (o : Outlet). o.ring.names.0) c.to.view_is in
    let one = ap (λ (r : Ring). r.names.0) c.requires.lane in
    omega arith) in
    let none : known_items c.loop.consumer ≡ [] =
    nil_from_length (known_items c.loop.consumer) (omega (arith, h.2, c.loop-test.false)) in (
      known_items c.slots_beside-waiting.new.self,
      cc,
      h.3.1
          ∙ ap (λ xs. c.args.left.now.items ++ xs)
          (sym (append-nil h.3.0) ∙ ap (λ xs. h.3.0 ++ xs) (sym none) ∙ h.3.2),
      most,
    )
