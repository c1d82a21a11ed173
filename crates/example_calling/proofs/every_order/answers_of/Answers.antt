use Rattle.std.proofs.Common.{◌≡◌, [], subst}
use Rattle.j1939_gateway.specs.Bounds.{Bounds}
use Rattle.j1939_gateway.specs.CoreEvents.{replies}
use Rattle.j1939_gateway.specs.CoreStart.{fresh, unheard}
use Rattle.j1939_gateway.specs.CoreRuns.{ForEachAnswer}
use Rattle.j1939_gateway.specs.Headline.{Forwards}
use Rattle.example_calling.proofs.every_order.answers_of.Goals as goal

pub returns-in-Ok-run-clause-headline : goal.returns-in-Ok-run-clause-headline
returns-in-Ok-run-clause-headline c = subst
    (λ (l : Bounds). ForEachAnswer (Forwards (fresh l)) [] c.args.events.items c.in-Ok-run.answers.items) c.in-Ok.ensures.limits
    (c.in-Ok-run.ensures.headline unheard [] c.in-Ok.ensures.stands)
