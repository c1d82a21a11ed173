-- When the operator publishes a batch, when it refuses one, and what it leaves.
use Rattle.std.specs.Prelude.{◌≡◌, ℕ, ◌<◌, true, false, List, length, Some, None}
use Rattle.std.specs.List.{All}
use Rattle.gw_policy.specs.Batches.{Pair}
use Rattle.gw_board.specs.Ends.{Publishing}
use Rattle.gw_board.specs.declared.refusals.ReplaceRefusal.{ReplaceRefusal}
use Rattle.gw_board.specs.declared.refusals.ReplaceRefusal.TheVariants.{NoSuchPort, VersionsSpent, Stopped, OutOfMemory}

abbrev pub refusal_number : ReplaceRefusal → ℕ
refusal_number (NoSuchPort back) = 81
refusal_number (VersionsSpent back) = 75
refusal_number (Stopped back) = 84
refusal_number (OutOfMemory back) = 82

abbrev pub PortsBelow : ℕ → List Pair → Type 0
PortsBelow ports batch = All (λ pair. pair.port < ports) batch

-- nothing but want of memory stands against the batch
pub record MayPublish (operator : Publishing) (batch : List Pair) : Type 0 where
  pub ports : PortsBelow operator.ports batch
  pub room : length operator.published < operator.versions
  pub runs : operator.stopped ≡ false

-- the first cause that holds: the batch comes back and the operator is as before. Where none comes back, it is stopped
abbrev pub Refuses : Publishing → List Pair → ReplaceRefusal → Publishing → Type 0
Refuses old batch (NoSuchPort back) new = (new ≡ old) × (back ≡ batch) × (¬ PortsBelow old.ports batch)
Refuses old batch (VersionsSpent back) new =
    (new ≡ old) × (back ≡ batch) × PortsBelow old.ports batch × (length old.published ≡ old.versions)
Refuses old batch (Stopped back) new =
    (new ≡ old) × (back ≡ batch) × PortsBelow old.ports batch × (length old.published < old.versions) × (old.stopped ≡ true)
Refuses old batch (OutOfMemory (Some back)) new = (new ≡ old) × (back ≡ batch) × MayPublish old batch
Refuses old batch (OutOfMemory None) new = (new ≡ record old { stopped = true }) × MayPublish old batch
