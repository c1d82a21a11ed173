use Rattle.std.proofs.Common.{arith, take, ◌≡◌}
use Rattle.std.proofs.lemmas.List.{take_all}
use Rattle.gw_boxes.proofs.Pieces.{one_other, no_other}
use Rattle.gw_boxes.proofs.search.Meeting.among.Goals as goal
use Rattle.gw_boxes.proofs.search.Meeting.among.Goals.{then-not-is_empty+in_ok-add, else-not-is_empty}

pub loop-other-preserved : goal.loop-other-preserved
loop-other-preserved c =
    elim c.if-not-is_empty.branch [
      | then-not-is_empty+in_ok-add w ↦ rw w.meeting-is (
        λ p inside. one_other p c.args.first c.args.others.now c.loop-other.other-index _ c.loop-other-test.true _ _
            (c.loop-other.invariant.0 p inside) (w.in_ok-add.ensures.same p),
        omega (arith, w.in_ok-add.ensures.one, c.loop-other.invariant.1),
      )
      | else-not-is_empty w ↦ rw w.meeting-is (
        λ p inside. no_other p c.args.first c.args.others.now c.loop-other.other-index _ c.loop-other-test.true _
            (c.loop-other.invariant.0 p inside) c.args.part.now c.within-shared.result (c.within-shared.ensures p) inside
            (w.if-not-is_empty.ensures p),
        omega (arith, c.loop-other.invariant.1),
      )
    ]

pub returns-clause-same : goal.returns-clause-same
returns-clause-same c p inside =
    let all : take c.loop-other.other-index c.args.others.now ≡ c.args.others.now =
    take_all c.loop-other.other-index c.args.others.now c.loop-other-test.false in
    rw all at (c.loop-other.invariant.0 p inside)
