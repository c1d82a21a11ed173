use Rattle.std.proofs.Common.{arith}
use Rattle.gw_run.proofs.LogLines.{line_alone, line_at}
use Rattle.gw_run.proofs.log.first_line.Goals as goal

pub returns-then-end-log-clause-line : goal.returns-then-end-log-clause-line
returns-then-end-log-clause-line c =
    line_at c.args.log.now c.split_at.result.0.now c.split_at.result.1.now c.position_of-end.result
    c.position_of-end.ensures.place c.if-end-log.true c.split_at.ensures.front c.split_at.ensures.back

pub returns-else-end-log-clause-line : goal.returns-else-end-log-clause-line
returns-else-end-log-clause-line c =
    let past = c.if-end-log.false in
    let bound = c.position_of-end.ensures.bound in
    let place = c.position_of-end.ensures.place in
    line_alone c.args.log.now c.requires (omega arith)
