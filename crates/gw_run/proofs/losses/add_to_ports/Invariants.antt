use Rattle.std.proofs.Common.{◌≤◌, ◌<◌, ◌-◌, ◌^◌, ◌++◌, ◌∷◌, [], ℕ, List, length, get_or}
use Rattle.gw_ledger.specs.declared.outcome.Outcome.{Outcome}
use Rattle.gw_run.specs.declared.losses.Loss.{Loss}
use Rattle.gw_run.specs.Tallies.{IsLoss}
use Rattle.gw_run.proofs.losses.add_to_ports.Given as goal

-- those below count the outcome too, and the others not yet
abbrev pub invariant-loop-loss : goal.invariant-loop-loss
invariant-loop-loss l = (outcomes : List Outcome) → length outcomes < 2 ^ 64 - 1
    → ((k : ℕ) (d : Loss) → k < length l.fn.losses → IsLoss k outcomes (get_or l.fn.losses k d))
    → (k : ℕ) (d : Loss) → k < length l.fn.losses
    → (k < l.loss-index → IsLoss k (outcomes ++ l.outcome ∷ []) (get_or l.losses k d))
    × (l.loss-index ≤ k → IsLoss k outcomes (get_or l.losses k d))
