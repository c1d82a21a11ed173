use Rattle.std.proofs.Common.{◌≡◌, ◌∷◌, length, sym, ap, ◌∙◌, arith, rules}
use Rattle.std.proofs.lemmas.Bool.Decides.{nat_tests}
use Rattle.gw_trace.specs.Traces.{contents}
use Rattle.gw_trace.specs.Shares.{every}
use Rattle.gw_trace.proofs.Shared.{none_left, none_at_all, next_is}
use Rattle.gw_trace.proofs.Scanned.{empty_frames}
use Rattle.gw_trace.proofs.share.ShareIterator.next.Goals as goal

pub returns-then-is_empty-clause-steps : goal.returns-then-is_empty-clause-steps
returns-then-is_empty-clause-steps c =
    let none : length c.passed-records.result.now ≡ 0 = grind (arith, nat_tests) in
    let empty = empty_frames c.self.inside.order c.passed-records.result.now none in (
      sym c.self.view_is ∙ none_left c.self.inside.skip c.self.inside.others
          (contents c.self.inside.order c.self.inside.records.now).frames
          (contents c.self.inside.order c.passed-records.result.now).frames c.passed-records.ensures.frames empty,
      ap (every c.self.inside.skip c.self.inside.others) empty ∙ none_at_all c.self.inside.skip c.self.inside.others,
    )

pub returns-clause-steps : goal.returns-clause-steps
returns-clause-steps c =
    sym c.self.view_is
    ∙ next_is c.self.inside.skip c.self.inside.others (contents c.self.inside.order c.self.inside.records.now).frames
    (contents c.self.inside.order c.passed-records.result.now).frames
    (contents c.self.inside.order c.first-frame.result.1.now).frames c.first-frame.result.0 c.passed-records.ensures.frames
    c.first-frame.ensures.frames

pub returns-clause-goes : goal.returns-clause-goes
returns-clause-goes c =
    let step : c.args.self.now ≡ c.first-frame.result.0 ∷ every c.self.inside.others c.self.inside.others
    (contents c.self.inside.order c.first-frame.result.1.now).frames =
    sym c.self.view_is
    ∙ next_is c.self.inside.skip c.self.inside.others (contents c.self.inside.order c.self.inside.records.now).frames
    (contents c.self.inside.order c.passed-records.result.now).frames
    (contents c.self.inside.order c.first-frame.result.1.now).frames c.first-frame.result.0 c.passed-records.ensures.frames
    c.first-frame.ensures.frames in
    let shorter = ap length step in
    search rules
