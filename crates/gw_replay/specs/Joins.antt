-- Why a policy does not join the open batch.
use Rattle.std.specs.Prelude.{◌≡◌, ℕ, List, Some}
use Rattle.gw_policy.specs.Batches.{Pair}
use Rattle.gw_replay.specs.declared.fault.Fault.{Fault}
use Rattle.gw_replay.specs.declared.fault.Fault.TheVariants.{OutOfMemory}
use Rattle.gw_replay.specs.Replies.{join_fault}

-- of want of memory nothing is said
abbrev pub IsJoinFault : ℕ → List Pair → Fault → Type 0
IsJoinFault port batch OutOfMemory = Unit {0}
IsJoinFault port batch why = join_fault port batch ≡ Some why
