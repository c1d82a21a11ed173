use Rattle.std.proofs.Common.{◌≡◌, ◌≤◌, ◌<◌, ℕ, [], get_or, length, vec_capacity, vec_len}
use Rattle.gw_run.specs.declared.losses.Loss.{Loss}
use Rattle.gw_run.specs.Tallies.{IsLoss}
use Rattle.gw_run.proofs.losses.Losses.new.Given as goal

abbrev pub invariant-loop-to : goal.invariant-loop-to
invariant-loop-to l = (vec_len l.losses ≡ l.to) × (l.ports ≤ vec_capacity l.losses)
    × ((k : ℕ) (d : Loss) → k < length l.losses.items → IsLoss k [] (get_or l.losses.items k d))
