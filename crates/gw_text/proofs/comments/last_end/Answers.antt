use Rattle.std.proofs.Common.{rules, arith}
use Rattle.gw_text.proofs.CommentEnds.{last, none_earlier, some_earlier, none_at_end}
use Rattle.gw_text.proofs.comments.last_end.Goals as goal

pub loop-end-init : goal.loop-end-init
loop-end-init c = (omega arith, none_at_end c.args.text.now)

pub loop-end-preserved : goal.loop-end-preserved
loop-end-preserved c = (
  omega arith,
  none_earlier c.args.text.now c.loop-end.end c.ends_at.result c.loop-end-test.true c.loop-end.invariant.0 c.ends_at.ensures
      (search rules) c.loop-end.invariant.1,
)

pub returns-else-not-ends_at : goal.returns-else-not-ends_at
returns-else-not-ends_at c = last c.args.text.now c.loop-end.end c.loop-end.invariant.1
    (λ some. some_earlier c.args.text.now c.loop-end.end c.ends_at.result some c.loop-end.invariant.0 c.ends_at.ensures
    (search rules))

pub returns-after-loop-end : goal.returns-after-loop-end
returns-after-loop-end c = last c.args.text.now c.loop-end.end c.loop-end.invariant.1 (λ some. absurd (omega arith))
