use Rattle.std.proofs.Common.{◌≡◌, length, sym, ◌∙◌, rules}
use Rattle.gw_io.specs.Tries.{inner_of, has_failed}
use Rattle.gw_judge.specs.Fates.{fate_of}
use Rattle.gw_judge.proofs.PartByPart.{some_octets, closes_without, closes_with}
use Rattle.gw_judge.proofs.judging.Judging.judge_last.Goals as goal

pub returns-then-is_empty-clause-closed : goal.returns-then-is_empty-clause-closed
returns-then-is_empty-clause-closed g c octets text h =
    let asked = c.args.asked.now in
    let empty : length c.args.self.now.kept.items ≡ 0 = search rules in
    closes_without (fate_of (g.D.Decider.fate_by asked.decider.now asked.from)) (g.P.Report.front_of asked.report.now)
    asked.strict octets text (g.W.Write.contents (inner_of c.args.writer.now)) c.args.self.now h empty

pub returns-else-is_empty-clause-closed : goal.returns-else-is_empty-clause-closed
returns-else-is_empty-clause-closed g c octets text h =
    let asked = c.args.asked.now in
    closes_with c.judge_kept.result (g.D.Decider.fate_by asked.decider.now asked.from) (g.P.Report.front_of asked.report.now)
    asked.strict octets text (g.W.Write.contents (inner_of c.args.writer.now))
    (g.W.Write.contents (inner_of c.judge_kept.new.writer)) (has_failed c.judge_kept.new.writer) c.args.self.now
    c.judge_kept.new.self h (some_octets c.args.self.now.kept.items (sym c.is_empty.ensures ∙ c.if-is_empty.false))
    c.judge_kept.ensures.tally c.judge_kept.ensures.judged
