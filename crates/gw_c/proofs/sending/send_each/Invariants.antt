use Rattle.std.proofs.Common.{◌≡◌, List}
use Rattle.gw_core.specs.Start.{Heard}
use Rattle.gw_core.specs.Gateway.{Stands}
use Rattle.gw_core.specs.declared.event.Event.{Event}
use Rattle.gw_c.specs.Sendings.{SendsManyTold}
use Rattle.gw_c.proofs.sending.send_each.Given as goal

abbrev pub invariant-loop-count : goal.invariant-loop-count
invariant-loop-count l = record {
  limits : l.core.limits ≡ l.fn.core.limits;
  sends : (known : Heard) (history : List Event) → Stands l.fn.core known history
      → SendsManyTold known history l.to l.count l.fn.copies l.copies l.fn.core l.core;
}
