use Rattle.std.proofs.Common.{◌≡◌, ◌≤◌, [], All, vec_capacity, vec_len}
use Rattle.gw_run.specs.Tallies.{AreLosses}
use Rattle.gw_run.proofs.losses.no_losses.Given as goal

abbrev pub invariant-loop-from : goal.invariant-loop-from
invariant-loop-from l =
    (vec_len l.made ≡ l._from) × (l.ports ≤ vec_capacity l.made) × All (AreLosses l.ports []) l.made.items
