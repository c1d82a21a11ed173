-- The ports to which a frame may go, by the policies in force at its taking. A list of batches has the newest first.
use Rattle.std.specs.Prelude.{ℕ, Bool, not, ◌==◌, ◌&&◌, if◌then◌else◌, List, []}
use Rattle.gw_ledger.specs.Ports.{ports_below}
use Rattle.gw_policy.specs.Batches.{Pair, in_force, passes}

-- a frame that was taken at one port may leave at another, whose policy in force after these batches passes it
abbrev pub may_leave : List (List Pair) → ℕ → List ℕ → ℕ → Bool
may_leave batches own frame port = not (port == own) && passes (in_force port batches) frame own

-- the ports below a number to which a frame is allowed: none if it is local, else all at which it may leave
abbrev pub allowed_ports : ℕ → Bool → List (List Pair) → ℕ → List ℕ → List ℕ
allowed_ports ports local batches own frame = if local then [] else ports_below ports (may_leave batches own frame)
