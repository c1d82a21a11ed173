use Rattle.gw_core.specs.PortHistory.{ingress_of}
use Rattle.gw_core.specs.Events.{accepted, history_of}
use Rattle.gw_core.proofs.Needs.{unfinished_by_need}
use Rattle.gw_core.proofs.laws.frames_need_their_steps.Goals as goal

pub returns : goal.returns
returns c = λ start history p t last. unfinished_by_need (ingress_of start.limits p) (history_of start p
    (accepted start history)) t last
