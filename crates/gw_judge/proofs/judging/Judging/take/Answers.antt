use Rattle.std.proofs.Common.{rules, ◌≡◌, ℕ, List, length, sym, ap, ◌∙◌, subst}
use Rattle.gw_io.specs.Tries.{inner_of, has_failed}
use Rattle.gw_judge.specs.Fates.{fate_of}
use Rattle.gw_judge.specs.Counting.{tally_with}
use Rattle.gw_judge.specs.Judged.{line_text}
use Rattle.gw_judge.specs.UnderWay.{Judges}
use Rattle.gw_judge.proofs.PartByPart.{none_kept, whole_part, takes_open, takes_line}
use Rattle.gw_judge.proofs.judging.Judging.take.Goals as goal

pub returns-then-not-is_ended-clause-taken : goal.returns-then-not-is_ended-clause-taken
returns-then-not-is_ended-clause-taken g c octets text h =
    let asked = c.args.asked.now in
    takes_open (fate_of (g.D.Decider.fate_by asked.decider.now asked.from)) (g.P.Report.front_of asked.report.now) asked.strict
    octets c.args.part.now text (g.W.Write.contents (inner_of c.args.writer.now)) c.args.self.now c.keep.new.self h
    c.requires.part (sym c.ends_line-is_ended.ensures ∙ c.if-not-is_ended.true) c.keep.ensures.kept c.keep.ensures.gathered
    c.keep.ensures.tally

pub returns-then-part-le-MAX_KEPT-clause-taken : goal.returns-then-part-le-MAX_KEPT-clause-taken
returns-then-part-le-MAX_KEPT-clause-taken g c octets text h =
    let asked = c.args.asked.now in
    let self = c.args.self.now in
    let part : List ℕ = c.args.part.now in
    let empty : length self.kept.items ≡ 0 = search rules in
    takes_line c.judge_line.result (g.D.Decider.fate_by asked.decider.now asked.from) (g.P.Report.front_of asked.report.now)
    asked.strict octets part text part (g.W.Write.contents (inner_of c.args.writer.now))
    (g.W.Write.contents (inner_of c.judge_line.new.writer)) (has_failed c.judge_line.new.writer) self
    (record { kept = self.kept; gathered = c.judge_line.new.gathered; tally = c.judge_line.new.tally }) h c.requires.part
    (sym c.ends_line-is_ended.ensures ∙ c.if-is_ended.true) (whole_part self.kept.items part empty c.if-part-le-MAX_KEPT.true)
    (none_kept self.kept.items empty) c.judge_line.ensures.tally c.judge_line.ensures.judged

pub returns-clause-taken : goal.returns-clause-taken
returns-clause-taken g c octets text h =
    let asked = c.args.asked.now in
    let by : List ℕ → _ = g.D.Decider.fate_by asked.decider.now asked.from in
    let front = g.P.Report.front_of asked.report.now in
    let old = g.W.Write.contents (inner_of c.args.writer.now) in
    let new = g.W.Write.contents (inner_of c.judge_kept-judged.new.writer) in
    let kept : List ℕ = c.keep.new.self.kept.items in
    let after = c.judge_kept-judged.new.self in
    takes_line c.judge_kept-judged.result by front asked.strict octets c.args.part.now text kept old new
    (has_failed c.judge_kept-judged.new.writer) c.args.self.now
    (record { kept = c.clear.new.self; gathered = after.gathered; tally = after.tally }) h c.requires.part
    (sym c.ends_line-is_ended.ensures ∙ c.if-not-is_ended.false) c.keep.ensures.kept c.clear.ensures
    (c.judge_kept-judged.ensures.tally ∙ ap (tally_with (fate_of by kept)) c.keep.ensures.tally)
    (subst (λ before. Judges (fate_of by kept) (line_text front (fate_of by kept) kept) asked.strict after.tally.lines old new
    (has_failed c.judge_kept-judged.new.writer) before.held.items c.judge_kept-judged.result after.gathered.held.items)
    c.keep.ensures.gathered c.judge_kept-judged.ensures.judged)
