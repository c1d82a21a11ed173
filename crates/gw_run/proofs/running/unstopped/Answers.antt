use Rattle.std.proofs.Common.{List, subst, sym}
use Rattle.gw_run.specs.declared.losses.Losses.{Losses}
use Rattle.gw_run.specs.Tallies.{IsToldOf}
use Rattle.gw_run.proofs.running.unstopped.Goals as goal

pub returns-clause-lanes : goal.returns-clause-lanes
returns-clause-lanes c =
    λ limits first ran few same told.
    c.in_ok-lanes.ensures limits first ran few same
    (subst (λ (l : List Losses). IsToldOf limits first ran l) (sym c.deref-2.ensures.value) told)
