use Rattle.std.proofs.Common.{[], ◌∙◌}
use Rattle.gw_replay.proofs.Sessions.{publish_done}
use Rattle.gw_replay.proofs.session.Session.publish.Goals as goal

pub returns : goal.returns
returns c = λ s state.
    publish_done s c.replace-batch.result c.happen.result c.happen.new.self (c.replace-batch.ensures.value ∙ state.batch)
    (c.happen.ensures (record s { batch = [] })
    (record {
      limits = state.limits;
      core = state.core;
      batch = c.replace-batch.ensures.after ∙ c.new.ensures;
      stands =
          state.stands;
    }))
