-- Words on lists of batches, oldest first.
use Rattle.std.specs.Prelude.{List, length, reverse, nat_lt, if◌then◌else◌}
use Rattle.gw_policy.specs.Batches.{Pair, PortPolicies, StandsAfter}

-- the longer of two lists, and the first where they are as long
abbrev pub longer : List (List Pair) → List (List Pair) → List (List Pair)
longer one other = if nat_lt (length one) (length other) then other else one

-- these are the policies in force after the batches
abbrev pub InForceAfter : PortPolicies → List (List Pair) → Type 0
InForceAfter set batches = StandsAfter set (reverse batches)
