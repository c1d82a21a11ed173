use Rattle.std.proofs.Common.{◌≡◌, ◌<◌, length, refl, arith}
use Rattle.std.proofs.lemmas.Bool.Decides.{nat_tests}
use Rattle.gw_trace.specs.Traces.{contents, captured, captured_length}
use Rattle.gw_trace.proofs.Shared.{drop_one_more}
use Rattle.gw_trace.proofs.Scanned.{first_frames, first_others}
use Rattle.gw_trace.proofs.share.passed.Goals as goal

pub longest-preserved : goal.longest-preserved
longest-preserved c =
    let some : 0 < length c.longest.rest.now = grind (arith, nat_tests) in
    let len : 16 ≡ captured_length c.args.order c.longest.rest.now = grind (arith, nat_tests) in
    record {
      whole = first_others c.args.order c.longest.rest.now c.split_at.result.1.now 16 c.longest.invariant.whole some len
          c.split_at.ensures.back;
      frames = drop_one_more c.longest.i (contents c.args.order c.args.records.now).frames
          (contents c.args.order c.longest.rest.now).frames
          (contents c.args.order c.split_at.result.1.now).frames (captured 16 c.longest.rest.now)
          c.longest.invariant.frames
          (first_frames c.args.order c.longest.rest.now c.split_at.result.1.now (captured 16 c.longest.rest.now) 16
          c.longest.invariant.whole some len c.split_at.ensures.back refl);
    }
