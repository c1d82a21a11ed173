use Rattle.std.proofs.Common.{◌≡◌, ◌∙◌, ◌<◌, arith, get_or, length, map, min}
use Rattle.std.proofs.lemmas.List.{get_or-map, length-map}
use Rattle.gw_ports.proofs.Room.{other_counted, own_left_out}
use Rattle.gw_ports.proofs.running.room.most_copies.Goals as goal
use Rattle.gw_ports.proofs.running.room.most_copies.Goals.{then-port-egress, else-port-egress}

-- The port's own frames are left out of the sum.
pub loop-port-preserved : goal.loop-port-preserved
loop-port-preserved c =
    let at = c.loop-port in
    let sizes = c.args.sizes.now in
    let most = map (λ size. min size c.args.limits.frames) sizes in
    let size = length-map sizes (λ size. min size c.args.limits.frames) in
    let below : at.port < length sizes = omega arith in
    let here = get_or-map (λ size. min size c.args.limits.frames) sizes at.port 0 0 below in
    elim c.if-port-egress.branch [
      | then-port-egress w ↦
          let value = w.most_taken-copies.ensures.value in
          let few = w.most_taken-copies.ensures.few in
          let is : get_or most at.port 0 ≡ w.most_taken-copies.result = omega arith in (
            w.copies-is
                ∙ other_counted most c.args.egress at.port w.most_taken-copies.result at.copies (omega arith) is
                (λ (same : at.port ≡ c.args.egress). omega arith) at.invariant.0,
            (let so_far = at.invariant.1 in let more = w.copies-is in omega arith),
          )
      | else-port-egress w ↦
          let same : at.port ≡ c.args.egress = omega arith in (
            w.copies-is ∙ own_left_out most c.args.egress at.port at.copies (omega arith) same at.invariant.0,
            (let so_far = at.invariant.1 in let more = w.copies-is in omega arith),
          )
    ]
