use Rattle.std.proofs.Common.{◌<◌, Option, sym, subst, ◌∙◌}
use Rattle.std.specs.Prelude.{All}
use Rattle.gw_policy.specs.Filter.{Filter}
use Rattle.gw_policy.specs.Batches.{passes}
use Rattle.gw_core.specs.LaneView.{LaneView}
use Rattle.gw_core.specs.Turns.{IsFound, index_in}
use Rattle.gw_core.specs.Forwarding.{Judges}
use Rattle.gw_core.proofs.Judgings.{judged_more, judged_skip}
use Rattle.gw_core.proofs.judging.Judging.judge_other.Goals as goal

pub returns-then-port-self : goal.returns-then-port-self
returns-then-port-self c = record {
  judged = λ w frame done j. judged_skip c.args.batches.now w c.args.indices.now frame done c.args.port c.args.self.now
      c.args.lanes.now j c.requires.there (c.if-port-self.true ∙ j.source);
}

pub returns : goal.returns
returns c =
    let all = c.args.batches.now in
    let a = c.args.self.now in
    let n = c.args.port in
    let P : LaneView → Type 0 = λ lane. (policy : Option Filter) → IsFound all (index_in c.args.indices.now n) policy
    → All (λ q. q < n) a.allowed → All (λ q. q < n) a.placed
    → Judges (passes policy a.copy.frame a.copy.from) n a lane c.judge.new.self c.judge.new.lane in
    record {
      judged = λ w frame done j. judged_more c.one_answer.ensures.steps all w c.args.indices.now frame done n c.from.result a
          c.judge.new.self c.args.lanes.now c.index-lanes-from.result c.judge.new.lane j c.requires.there
          (λ e. c.if-port-self.false (e ∙ sym j.source)) c.from.ensures c.index-lanes-from.is
          (subst P (sym c.index-lanes-from.is) c.judge.ensures);
    }
