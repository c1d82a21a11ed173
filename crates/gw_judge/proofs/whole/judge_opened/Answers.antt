use Rattle.std.proofs.Common.{◌+◌, ◌-◌, ◌≤◌, ℕ, List, ◌++◌, inl, inr, refl, ap, ◌∙◌, subst, arith}
use Rattle.std.proofs.lemmas.Result.{err_from_is_err_and}
use Rattle.gw_io.specs.Tries.{inner_of, has_failed}
use Rattle.gw_judge.specs.declared.tally.Tally.{Tally}
use Rattle.gw_judge.specs.Fates.{fate_of}
use Rattle.gw_judge.specs.UnderWay.{HasJudged, Reaches}
use Rattle.gw_judge.proofs.Streams.{starts, goes_on, writes_on, stops, stops_writing, stays, ends_whole, ends_partly}
use Rattle.gw_judge.proofs.Streams.{keeps_same, met_part, met_end}
use Rattle.gw_judge.proofs.whole.judge_opened.Goals as goal

pub parts-init : goal.parts-init
parts-init g c =
    let asked = c.args.asked.now in
    record {
      read = c.requires.reader;
      written = c.requires.writer;
      most = omega arith;
      grouping = ap (λ (t : Tally). t.groups.grouping) c.new-judging.ensures.tally;
      way = λ begun opened. starts (fate_of (g.D.Decider.fate_by asked.decider.now asked.from))
          (g.P.Report.front_of asked.report.now) asked.strict begun (g.R.Read.remaining (inner_of c.args.reader.now))
          (g.W.Write.contents (inner_of c.args.writer.now)) c.args.first.now
          c.behind-parts.result.rest c.new-judging.result 0 c.args.groups opened c.requires.groups c.behind-parts.ensures
          c.new-judging.ensures.kept c.new-judging.ensures.gathered c.new-judging.ensures.tally refl;
    }

pub returns-in_err-next-clause-part : goal.returns-in_err-next-clause-part
returns-in_err-next-clause-part g c begun opened =
    let asked = c.args.asked.now in
    let fault = err_from_is_err_and c.from_residual.result c.from_residual.ensures.1 in
    rw (fault.1, fault.2) (stays (fate_of (g.D.Decider.fate_by asked.decider.now asked.from))
    (g.P.Report.front_of asked.report.now) asked.strict
    begun (g.R.Read.remaining (inner_of c.parts.reader))
    (g.R.Read.remaining (inner_of c.next.new.reader)) (g.W.Write.contents (inner_of c.args.writer.now))
    (g.W.Write.contents (inner_of c.parts.writer)) c.parts.parts.rest c.parts.judging (18446744073709551615 - c.parts.left)
    (has_failed c.next.new.reader) (has_failed c.parts.writer) (c.parts.invariant.way begun opened) c.in_err-next.ensures.part.0
    (λ log more. inl c.in_err-next.ensures.fault))

pub returns-then-not-branch-clause-judged : goal.returns-then-not-branch-clause-judged
returns-then-not-branch-clause-judged g c begun opened =
    let asked = c.args.asked.now in
    let before = g.R.Read.remaining (inner_of c.parts.reader) in
    let after = g.R.Read.remaining (inner_of c.next.new.reader) in
    ends_whole c.end.result (fate_of (g.D.Decider.fate_by asked.decider.now asked.from)) (g.P.Report.front_of asked.report.now)
    asked.strict begun before after
    (g.W.Write.contents (inner_of c.args.writer.now)) (g.W.Write.contents (inner_of c.parts.writer))
    (g.W.Write.contents (inner_of c.end.new.writer)) (has_failed c.end.new.writer) c.parts.parts.rest c.parts.judging
    (18446744073709551615 - c.parts.left) (c.parts.invariant.way begun opened)
    (met_end before after c.parts.parts.rest c.next.new.self c.in_ok-next.field-0 c.if-not-branch.true c.in_ok-next.ensures.part)
    c.end.ensures.ended

pub returns-then-not-branch-clause-part : goal.returns-then-not-branch-clause-part
returns-then-not-branch-clause-part g c begun opened =
    let asked = c.args.asked.now in
    let before = g.R.Read.remaining (inner_of c.parts.reader) in
    let after = g.R.Read.remaining (inner_of c.next.new.reader) in
    ends_partly c.end.result (fate_of (g.D.Decider.fate_by asked.decider.now asked.from))
    (g.P.Report.front_of asked.report.now) asked.strict begun before after
    (g.W.Write.contents (inner_of c.args.writer.now)) (g.W.Write.contents (inner_of c.parts.writer))
    (g.W.Write.contents (inner_of c.end.new.writer)) (has_failed c.next.new.reader) (has_failed c.end.new.writer)
    c.parts.parts.rest c.parts.judging (18446744073709551615 - c.parts.left) (c.parts.invariant.way begun opened)
    (met_end before after c.parts.parts.rest c.next.new.self c.in_ok-next.field-0 c.if-not-branch.true c.in_ok-next.ensures.part)
    c.end.ensures.ended

pub parts-preserved : goal.parts-preserved
parts-preserved g c =
    let asked = c.args.asked.now in
    let fate = fate_of (g.D.Decider.fate_by asked.decider.now asked.from) in
    let front = g.P.Report.front_of asked.report.now in
    let before = g.R.Read.remaining (inner_of c.parts.reader) in
    let after = g.R.Read.remaining (inner_of c.next.new.reader) in
    let none = g.W.Write.contents (inner_of c.args.writer.now) in
    let old = g.W.Write.contents (inner_of c.parts.writer) in
    let new = g.W.Write.contents (inner_of c.take.new.writer) in
    let Taken : List ℕ → Type 0 = λ part. (octets text : List ℕ)
    → HasJudged fate front asked.strict octets c.parts.judging text
    → Reaches fate front asked.strict (octets ++ part) text old new (has_failed c.take.new.writer) c.take.result
    c.take.new.self in
    let left = c.parts.left in
    let fewer : 18446744073709551615 - (left - 1) ≤ 18446744073709551615 - left + 1 = omega arith in
    record {
      read = c.in_ok-next.ensures.whole ∙ c.parts.invariant.read;
      written = c.in_ok-write_out.ensures.whole;
      most = let most = c.parts.invariant.most in omega arith;
      grouping = c.in_ok-write_out.ensures.grouping ∙ c.in_ok-take.ensures.grouping ∙ c.parts.invariant.grouping;
      way = λ begun opened.
          let way = goes_on c.take.result fate front asked.strict begun before after none old new (has_failed c.take.new.writer)
          c.parts.parts.rest c.next.new.self c.parts.judging c.take.new.self (18446744073709551615 - left)
          (18446744073709551615 - (left - 1)) c.in_ok-take.field-0 c.in_ok-take.was fewer (c.parts.invariant.way begun opened)
          (met_part before after c.parts.parts.rest c.next.new.self c.in_ok-next.field-0 c.if-not-branch.false
          c.in_ok-next.ensures.part)
          (subst Taken c.part-part.ensures c.take.ensures.taken) in
          writes_on c.write_out.result fate front asked.strict begun after none new
          (g.W.Write.contents (inner_of c.write_out.new.writer)) (has_failed c.write_out.new.writer) c.next.new.self.rest
          c.take.new.self c.write_out.new.self (18446744073709551615 - (left - 1)) c.in_ok-write_out.field-0
          c.in_ok-write_out.was way c.write_out.ensures.reached;
    }

pub returns-in_err-take-clause-part : goal.returns-in_err-take-clause-part
returns-in_err-take-clause-part g c begun opened =
    let asked = c.args.asked.now in
    let fate = fate_of (g.D.Decider.fate_by asked.decider.now asked.from) in
    let front = g.P.Report.front_of asked.report.now in
    let before = g.R.Read.remaining (inner_of c.parts.reader) in
    let after = g.R.Read.remaining (inner_of c.next.new.reader) in
    let old = g.W.Write.contents (inner_of c.parts.writer) in
    let new = g.W.Write.contents (inner_of c.take.new.writer) in
    let Taken : List ℕ → Type 0 = λ part. (octets text : List ℕ)
    → HasJudged fate front asked.strict octets c.parts.judging text
    → Reaches fate front asked.strict (octets ++ part) text old new (has_failed c.take.new.writer) c.take.result
    c.take.new.self in
    let fault = err_from_is_err_and c.from_residual-in_err-take.result c.from_residual-in_err-take.ensures.1 in
    rw (fault.1, fault.2) (stops c.take.result fate front asked.strict
    begun before after (g.W.Write.contents (inner_of c.args.writer.now)) old new
    (has_failed c.next.new.reader) (has_failed c.take.new.writer) c.parts.parts.rest c.next.new.self c.parts.judging
    c.take.new.self (18446744073709551615 - c.parts.left) c.in_err-take.field-0.0 c.in_err-take.was
    (c.parts.invariant.way begun opened)
    (met_part before after c.parts.parts.rest c.next.new.self c.in_ok-next.field-0 c.if-not-branch.false
    c.in_ok-next.ensures.part)
    (subst Taken c.part-part.ensures c.take.ensures.taken))

pub returns-in_err-write_out-clause-part : goal.returns-in_err-write_out-clause-part
returns-in_err-write_out-clause-part g c begun opened =
    let asked = c.args.asked.now in
    let fate = fate_of (g.D.Decider.fate_by asked.decider.now asked.from) in
    let front = g.P.Report.front_of asked.report.now in
    let before = g.R.Read.remaining (inner_of c.parts.reader) in
    let after = g.R.Read.remaining (inner_of c.next.new.reader) in
    let none = g.W.Write.contents (inner_of c.args.writer.now) in
    let old = g.W.Write.contents (inner_of c.parts.writer) in
    let new = g.W.Write.contents (inner_of c.take.new.writer) in
    let Taken : List ℕ → Type 0 = λ part. (octets text : List ℕ)
    → HasJudged fate front asked.strict octets c.parts.judging text
    → Reaches fate front asked.strict (octets ++ part) text old new (has_failed c.take.new.writer) c.take.result
    c.take.new.self in
    let left = c.parts.left in
    let fewer : 18446744073709551615 - (left - 1) ≤ 18446744073709551615 - left + 1 = omega arith in
    let way = goes_on c.take.result fate front asked.strict begun before after none old new (has_failed c.take.new.writer)
    c.parts.parts.rest c.next.new.self c.parts.judging c.take.new.self (18446744073709551615 - left)
    (18446744073709551615 - (left - 1)) c.in_ok-take.field-0 c.in_ok-take.was fewer (c.parts.invariant.way begun opened)
    (met_part before after c.parts.parts.rest c.next.new.self c.in_ok-next.field-0 c.if-not-branch.false
    c.in_ok-next.ensures.part)
    (subst Taken c.part-part.ensures c.take.ensures.taken) in
    let fault = err_from_is_err_and c.from_residual-in_err-write_out.result c.from_residual-in_err-write_out.ensures.1 in
    rw (fault.1, fault.2) (stops_writing c.write_out.result fate front asked.strict begun after none new
    (g.W.Write.contents (inner_of c.write_out.new.writer)) (has_failed c.next.new.reader) (has_failed c.write_out.new.writer)
    c.next.new.self.rest c.take.new.self c.write_out.new.self (18446744073709551615 - (left - 1))
    c.in_err-write_out.field-0.0 c.in_err-write_out.was way c.write_out.ensures.reached)

pub returns-clause-part : goal.returns-clause-part
returns-clause-part g c begun opened =
    let asked = c.args.asked.now in
    let there = g.R.Read.remaining (inner_of c.parts.reader) in
    stays (fate_of (g.D.Decider.fate_by asked.decider.now asked.from)) (g.P.Report.front_of asked.report.now) asked.strict
    begun there there
    (g.W.Write.contents (inner_of c.args.writer.now)) (g.W.Write.contents (inner_of c.parts.writer)) c.parts.parts.rest
    c.parts.judging (18446744073709551615 - c.parts.left) (has_failed c.parts.reader) (has_failed c.parts.writer)
    (c.parts.invariant.way begun opened) (keeps_same there) (λ log more. inr (omega arith))
