use Rattle.gw_replay.proofs.Sessions.{take_done}
use Rattle.gw_replay.proofs.session.Session.take.Goals as goal

pub returns-in-Ok : goal.returns-in-Ok
returns-in-Ok c = λ s state.
    take_done s c.args.port c.args.hex.now c.in-Ok.frame c.happen.result c.happen.new.self c.in-Ok.ensures.named
    (c.happen.ensures s state)
