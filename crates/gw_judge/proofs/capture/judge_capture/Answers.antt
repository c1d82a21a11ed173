use Rattle.std.proofs.Common.{◌≡◌, ◌-◌, ◌+◌, ◌<◌, ◌≤◌, true, [], ◌++◌, length, take, inl, inr, ap, ◌∙◌, subst, refl, append-nil}
use Rattle.std.proofs.Common.{arith, rules}
use Rattle.std.specs.Io.KnownBytes.{Consumes}
use Rattle.gw_io.proofs.Callers.{consumed_more, consumed_kept}
use Rattle.std.proofs.lemmas.Result.{err_from_is_err_and}
use Rattle.gw_io.specs.Tries.{inner_of, has_failed}
use Rattle.gw_judge.proofs.Captured.{partly_first, way_begins, way_goes_on, way_fails, way_stops, way_ends}
use Rattle.gw_judge.proofs.Captured.{way_ends_refused}
use Rattle.gw_judge.proofs.capture.judge_capture.Goals as goal

pub returns-in_err-take-clause-part : goal.returns-in_err-take-clause-part
returns-in_err-take-clause-part g c =
    let fate = g.D.Decider.fate_by c.args.decider.now c.args.from in
    let fault = err_from_is_err_and c.from_residual.result c.from_residual.ensures.1 in
    rw (fault.1, fault.2) (partly_first c.args.strict c.args.first.now (g.R.Read.remaining (inner_of c.args.reader.now))
    (has_failed c.args.reader.now) c.in_err-take.field-0.0
    (c.in_err-take.ensures.counted [] (c.new-judging.ensures.counted fate c.args.strict)))

pub pieces-init : goal.pieces-init
pieces-init g c =
    let fate = g.D.Decider.fate_by c.args.decider.now c.args.from in
    record {
      read = c.requires.reader;
      most = omega arith;
      grouping = c.in_ok-take.ensures.grouping ∙ c.new-judging.ensures.grouping;
      way = way_begins fate c.args.strict c.args.first.now (g.R.Read.remaining (inner_of c.args.reader.now)) c.take.new.self 0
          (c.in_ok-take.ensures.counted [] (c.new-judging.ensures.counted fate c.args.strict)) refl;
    }

pub pieces-preserved : goal.pieces-preserved
pieces-preserved g c =
    let fate = g.D.Decider.fate_by c.args.decider.now c.args.from in
    let n = c.in-Ok.n in
    let buf = c.read.new.buf in
    let within : n ≤ length buf = search rules in
    let some : 0 < length (take n buf) = search rules in
    let left = c.pieces.left in
    let fewer : 18446744073709551615 - (left - 1) ≤ 18446744073709551615 - left + 1 = omega arith in
    record {
      read = search rules;
      most = let most = c.pieces.invariant.most in omega arith;
      grouping = c.in_ok-take-in-Ok.ensures.grouping ∙ c.pieces.invariant.grouping;
      way = way_goes_on fate c.args.strict c.args.first.now (g.R.Read.remaining (inner_of c.args.reader.now))
          (g.R.Read.remaining (inner_of c.pieces.reader)) (g.R.Read.remaining (inner_of c.read.new.self)) c.pieces.judging
          c.take-in-Ok.new.self (18446744073709551615 - left) (18446744073709551615 - (left - 1)) (take n buf)
          c.pieces.invariant.way c.in-Ok.ensures.bytes.0 some fewer c.in_ok-take-in-Ok.ensures.counted;
    }

pub returns-in_err-take-in-Ok-clause-part : goal.returns-in_err-take-in-Ok-clause-part
returns-in_err-take-in-Ok-clause-part g c =
    let fate = g.D.Decider.fate_by c.args.decider.now c.args.from in
    let fault = err_from_is_err_and c.from_residual-in_err-take-in-Ok.result c.from_residual-in_err-take-in-Ok.ensures.1 in
    rw (fault.1, fault.2) (way_fails fate c.args.strict c.args.first.now (g.R.Read.remaining (inner_of c.args.reader.now))
    (g.R.Read.remaining (inner_of c.pieces.reader)) (g.R.Read.remaining (inner_of c.read.new.self)) c.pieces.judging
    (18446744073709551615 - c.pieces.left) (take c.in-Ok.n c.read.new.buf) (has_failed c.read.new.self)
    c.in_err-take-in-Ok.field-0.0 c.pieces.invariant.way c.in-Ok.ensures.bytes.0 c.in_err-take-in-Ok.ensures.counted)

pub returns-in-Ok-eq0-clause-judged : goal.returns-in-Ok-eq0-clause-judged
returns-in-Ok-eq0-clause-judged g c =
    let fate = g.D.Decider.fate_by c.args.decider.now c.args.from in
    let given = g.R.Read.remaining (inner_of c.args.reader.now) in
    let before = g.R.Read.remaining (inner_of c.pieces.reader) in
    let after = g.R.Read.remaining (inner_of c.read.new.self) in
    let way = c.pieces.invariant.way in
    let none : c.in-Ok-eq0.field-0 ≡ 0 = c.in-Ok-eq0.field-0-test in
    let room : 0 < length c.read.new.buf = search rules in
    way_ends fate c.args.strict c.args.first.now given before after c.pieces.judging (18446744073709551615 - c.pieces.left)
    c.end.result way
    (subst (Consumes given after) (ap (λ n. way.later ++ take n c.read.new.buf) none ∙ append-nil way.later)
    (consumed_more given before after way.later (take c.in-Ok-eq0.field-0 c.read.new.buf) way.consumed
    c.in-Ok-eq0.ensures.bytes.0))
    (c.in-Ok-eq0.ensures.bytes.1 none room)
    (c.end.ensures.closed fate c.args.strict (c.args.first.now ++ way.later) way.counted)

pub returns-in-Ok-eq0-clause-part : goal.returns-in-Ok-eq0-clause-part
returns-in-Ok-eq0-clause-part g c =
    let fate = g.D.Decider.fate_by c.args.decider.now c.args.from in
    let given = g.R.Read.remaining (inner_of c.args.reader.now) in
    let before = g.R.Read.remaining (inner_of c.pieces.reader) in
    let after = g.R.Read.remaining (inner_of c.read.new.self) in
    let way = c.pieces.invariant.way in
    let none : c.in-Ok-eq0.field-0 ≡ 0 = c.in-Ok-eq0.field-0-test in
    let room : 0 < length c.read.new.buf = search rules in
    way_ends_refused fate c.args.strict c.args.first.now given before after c.pieces.judging
    (18446744073709551615 - c.pieces.left) (has_failed c.read.new.self) c.end.result way
    (subst (Consumes given after) (ap (λ n. way.later ++ take n c.read.new.buf) none ∙ append-nil way.later)
    (consumed_more given before after way.later (take c.in-Ok-eq0.field-0 c.read.new.buf) way.consumed
    c.in-Ok-eq0.ensures.bytes.0))
    (c.in-Ok-eq0.ensures.bytes.1 none room)
    (c.end.ensures.closed fate c.args.strict (c.args.first.now ++ way.later) way.counted)

pub returns-in-Err-clause-part : goal.returns-in-Err-clause-part
returns-in-Err-clause-part g c =
    let fate = g.D.Decider.fate_by c.args.decider.now c.args.from in
    let given = g.R.Read.remaining (inner_of c.args.reader.now) in
    let before = g.R.Read.remaining (inner_of c.pieces.reader) in
    let after = g.R.Read.remaining (inner_of c.read.new.self) in
    let way = c.pieces.invariant.way in
    let failed : has_failed c.read.new.self ≡ true = search rules in
    way_stops fate c.args.strict c.args.first.now given before after c.pieces.judging (18446744073709551615 - c.pieces.left)
    (has_failed c.read.new.self) c.fault.result way
    (consumed_kept given before after way.later way.consumed c.in-Err.ensures.bytes) (inl failed) c.fault.ensures.why
    c.fault.ensures.judged

pub returns-clause-part : goal.returns-clause-part
returns-clause-part g c =
    let fate = g.D.Decider.fate_by c.args.decider.now c.args.from in
    let given = g.R.Read.remaining (inner_of c.args.reader.now) in
    let after = g.R.Read.remaining (inner_of c.pieces.reader) in
    let way = c.pieces.invariant.way in
    let all : 18446744073709551615 ≤ 18446744073709551615 - c.pieces.left = omega (arith, c.pieces-test.false) in
    way_stops fate c.args.strict c.args.first.now given after after c.pieces.judging (18446744073709551615 - c.pieces.left)
    (has_failed c.pieces.reader) c.fault-2.result way way.consumed (inr all) c.fault-2.ensures.why c.fault-2.ensures.judged
