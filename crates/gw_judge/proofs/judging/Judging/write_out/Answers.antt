use Rattle.std.proofs.Common.{refl}
use Rattle.gw_io.specs.Tries.{inner_of, has_failed}
use Rattle.gw_judge.specs.Fates.{fate_of}
use Rattle.gw_judge.proofs.PartByPart.{flushes, stays_judged}
use Rattle.gw_judge.proofs.judging.Judging.write_out.Goals as goal

pub returns-then-used_up-clause-reached : goal.returns-then-used_up-clause-reached
returns-then-used_up-clause-reached g c octets text h =
    let asked = c.args.asked.now in
    flushes c.flush.result (fate_of (g.D.Decider.fate_by asked.decider.now asked.from)) (g.P.Report.front_of asked.report.now)
    asked.strict octets text (g.W.Write.contents (inner_of c.args.writer.now))
    (g.W.Write.contents (inner_of c.flush.new.writer)) (has_failed c.flush.new.writer) c.args.self.now
    (record c.args.self.now { gathered = c.flush.new.self }) h refl refl c.flush.ensures.written

pub returns-else-used_up-clause-reached : goal.returns-else-used_up-clause-reached
returns-else-used_up-clause-reached g c octets text h =
    let asked = c.args.asked.now in
    stays_judged (fate_of (g.D.Decider.fate_by asked.decider.now asked.from)) (g.P.Report.front_of asked.report.now)
    asked.strict octets text (g.W.Write.contents (inner_of c.args.writer.now)) c.args.self.now h
