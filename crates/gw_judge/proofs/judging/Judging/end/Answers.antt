use Rattle.std.proofs.lemmas.Result.{err_from_is_err_and}
use Rattle.gw_io.specs.Tries.{inner_of, has_failed}
use Rattle.gw_judge.specs.Fates.{fate_of}
use Rattle.gw_judge.proofs.Streams.{ends_written, ends_unwritten}
use Rattle.gw_judge.proofs.judging.Judging.end.Goals as goal

pub returns-in_err-judge_last-clause-ended : goal.returns-in_err-judge_last-clause-ended
returns-in_err-judge_last-clause-ended g c octets text h =
    let fault = err_from_is_err_and c.from_residual.result c.from_residual.ensures.1 in
    rw (fault.1, fault.2) (c.in_err-judge_last.ensures.closed octets text h)

pub returns-in_err-flush-clause-ended : goal.returns-in_err-flush-clause-ended
returns-in_err-flush-clause-ended g c octets text h =
    let asked = c.args.asked.now in
    let fault = err_from_is_err_and c.from_residual-in_err-flush.result c.from_residual-in_err-flush.ensures.1 in
    rw (fault.1, fault.2) (ends_unwritten c.in_ok-judge_last.field-0 c.flush.result c.in_err-flush.field-0.0
    (fate_of (g.D.Decider.fate_by asked.decider.now asked.from)) (g.P.Report.front_of asked.report.now) asked.strict octets text
    (g.W.Write.contents (inner_of c.args.writer.now)) (g.W.Write.contents (inner_of c.judge_last.new.writer))
    (g.W.Write.contents (inner_of c.flush.new.writer)) (has_failed c.judge_last.new.writer) (has_failed c.flush.new.writer)
    c.judge_last.new.self c.flush.new.self.held.items c.in_err-flush.was (c.in_ok-judge_last.ensures.closed octets text h)
    c.flush.ensures.written)

pub returns-clause-ended : goal.returns-clause-ended
returns-clause-ended g c octets text h =
    let asked = c.args.asked.now in
    ends_written c.in_ok-judge_last.field-0 c.in_ok-flush.field-0
    (fate_of (g.D.Decider.fate_by asked.decider.now asked.from)) (g.P.Report.front_of asked.report.now) asked.strict octets text
    (g.W.Write.contents (inner_of c.args.writer.now)) (g.W.Write.contents (inner_of c.judge_last.new.writer))
    (g.W.Write.contents (inner_of c.flush.new.writer)) (has_failed c.judge_last.new.writer) (has_failed c.flush.new.writer)
    c.judge_last.new.self c.flush.new.self.held.items (c.in_ok-judge_last.ensures.closed octets text h)
    c.in_ok-flush.ensures.written c.in_ok-flush.ensures.empty
