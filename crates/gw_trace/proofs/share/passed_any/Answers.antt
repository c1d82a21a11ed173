use Rattle.std.proofs.Common.{◌≡◌, ◌<◌, length, sym, refl, ◌∙◌, arith}
use Rattle.std.proofs.lemmas.Bool.Decides.{nat_tests}
use Rattle.gw_trace.specs.Traces.{contents, captured}
use Rattle.gw_trace.proofs.Shared.{drop_one_more, drop_past}
use Rattle.gw_trace.proofs.Scanned.{empty_frames, first_frames, first_others}
use Rattle.gw_trace.proofs.share.passed_any.Goals as goal

pub passed-preserved : goal.passed-preserved
passed-preserved c =
    let some : 0 < length c.passed.rest.now = grind (arith, nat_tests) in
    record {
      whole = first_others c.args.order c.passed.rest.now c.split_at.result.1.now c.first_len.result c.passed.invariant.whole
          some c.first_len.ensures.len c.split_at.ensures.back;
      frames = drop_one_more c.passed._i (contents c.args.order c.args.records.now).frames
          (contents c.args.order c.passed.rest.now).frames
          (contents c.args.order c.split_at.result.1.now).frames (captured c.first_len.result c.passed.rest.now)
          c.passed.invariant.frames
          (first_frames c.args.order c.passed.rest.now c.split_at.result.1.now (captured c.first_len.result c.passed.rest.now)
          c.first_len.result c.passed.invariant.whole some c.first_len.ensures.len c.split_at.ensures.back refl);
    }

pub returns-then-is_empty-clause-frames : goal.returns-then-is_empty-clause-frames
returns-then-is_empty-clause-frames c =
    let none : length c.passed.rest.now ≡ 0 = grind (arith, nat_tests) in
    let empty = empty_frames c.args.order c.passed.rest.now none in
    empty ∙ drop_past c.passed._i c.args.count (contents c.args.order c.args.records.now).frames
    (sym empty ∙ c.passed.invariant.frames) (omega arith)
