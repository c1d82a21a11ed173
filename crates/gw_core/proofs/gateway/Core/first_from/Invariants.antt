use Rattle.std.proofs.Common.{List}
use Rattle.gw_core.specs.Start.{Heard, begun}
use Rattle.gw_core.specs.Events.{accepted}
use Rattle.gw_core.specs.Gateway.{Stands}
use Rattle.gw_core.specs.Circle.{NoneWaits}
use Rattle.gw_core.specs.declared.event.Event.{Event}
use Rattle.gw_core.proofs.gateway.Core.first_from.Given as goal

abbrev pub invariant-loop-from : goal.invariant-loop-from
invariant-loop-from l = (known : Heard) (history : List Event) → Stands l.self known history
    → NoneWaits (begun l.self.limits known) (accepted (begun l.self.limits known) history) l.to l.begin l.from
