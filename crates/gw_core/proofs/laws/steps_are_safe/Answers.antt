use Rattle.gw_core.specs.Events.{accepted}
use Rattle.gw_core.proofs.Since.{events_all}
use Rattle.gw_core.proofs.SafeSteps.{safe_step}
use Rattle.gw_core.proofs.laws.steps_are_safe.Goals as goal

pub returns : goal.returns
returns c = λ start history p q n events next.
    safe_step c.one_answer.ensures.returns c.one_answer.ensures.steps c.soundness.ensures.accepted_loads
    c.soundness.ensures.accepted_places
    start (accepted start history) p q n (events_all (accepted start history) events) next
