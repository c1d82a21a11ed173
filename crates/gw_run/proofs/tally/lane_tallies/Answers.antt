use Rattle.std.proofs.Common.{◌≡◌, ◌∙◌, List, ap, arith, get_or, length, subst, sym}
use Rattle.gw_ports.specs.declared.closing.LaneLeft.{LaneLeft}
use Rattle.gw_ports.proofs.Callers.{each_push, there}
use Rattle.gw_run.specs.declared.tally.LaneTally.{LaneTally}
use Rattle.gw_run.specs.Tallies.{IsSaidOf}
use Rattle.gw_run.proofs.Told.{told_tallies}
use Rattle.gw_run.proofs.tally.lane_tallies.Goals as goal

pub loop-lane-preserved : goal.loop-lane-preserved
loop-lane-preserved c =
    let at = c.loop-lane in
    let lanes = c.deref-lane-items.result.now in
    let item = c.lane-item.result in
    let Said : LaneLeft → LaneTally → Type 0 = λ lane tally. IsSaidOf c.args.report.now c.args.losses.now lane tally in
    let inside = c.loop-lane-test.true in
    let stands = there lanes at.lane-index inside in
    let so_many = at.invariant.0 in
    let room = at.invariant.1 in
    let more = c.push_reserved.ensures.len in
    let kept = c.push_reserved.ensures.capacity in
    let size = at.tallies.ok.0 in
    let here : length at.tallies.items ≡ at.lane-index = omega arith in (
      omega arith,
      omega arith,
      λ k d e below.
          each_push (λ j (tally : LaneTally). (f : LaneLeft) → Said (get_or lanes j f) tally) at.tallies.items _
          c.lane_tally.result c.push_reserved.ensures.items (λ j g inside f. at.invariant.2 j g f inside)
          (λ f.
          subst (λ j. Said (get_or lanes j f) c.lane_tally.result) (sym here)
          (subst (λ (lane : LaneLeft). Said lane c.lane_tally.result)
          (c.lane-item.is ∙ stands.1 item ∙ sym (stands.1 f)) c.lane_tally.ensures))
          k d below e,
    )

pub returns : goal.returns
returns c =
    λ limits first ran few same told.
    let made = c.loop-lane.tallies in
    let last = c.loop-lane-test.false in
    let end = c.loop-lane.auto.lane-index-end in
    let many = c.loop-lane.invariant.0 in
    let lanes = c.deref-lane-items.ensures.value in
    let all = ap (λ l. length l) lanes in
    let size = made.ok.0 in
    told_tallies limits first ran c.args.losses.now c.args.report.now made.items few same told (omega arith)
    (λ k d e below.
    subst (λ (l : List LaneLeft). IsSaidOf c.args.report.now c.args.losses.now (get_or l k e) (get_or made.items k d)) lanes
    (c.loop-lane.invariant.2 k d e below))
