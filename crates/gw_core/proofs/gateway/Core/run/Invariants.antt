use Rattle.std.proofs.Common.{◌≡◌, ◌≤◌, ◌++◌, List, length, vec_len}
use Rattle.std.specs.Vec.{vec_capacity}
use Rattle.std.specs.Vec.Iter.{into_iter_items, into_iter_len}
use Rattle.gw_core.specs.Start.{Heard}
use Rattle.gw_core.specs.declared.event.Event.{Event}
use Rattle.gw_core.specs.Gateway.{Stands}
use Rattle.gw_core.specs.Runs.{RunsTo}
use Rattle.gw_core.proofs.gateway.Core.run.Given as goal

abbrev pub invariant-loop-event : goal.invariant-loop-event
invariant-loop-event l = record {
  handed : l.yielded ++ into_iter_items l.event-iterator ≡ into_iter_items l.initial.event-iterator;
  capacity : length (into_iter_items l.initial.event-iterator) ≤ vec_capacity l.answers;
  rest : into_iter_len l.event-iterator ≡ length (into_iter_items l.event-iterator);
  count : vec_len l.answers ≡ length l.yielded;
  limits : l.self.limits ≡ l.fn.self.limits;
  turns : l.self.turns ≡ l.fn.self.turns;
  runs : (known : Heard) (history : List Event) → Stands l.fn.self known history
      → RunsTo l.fn.self known history l.yielded l.answers.items l.self;
}
