-- What contracts see of the ends of a lane.
use Rattle.std.specs.Prelude.{ℕ, List, []}
use denote.RawPtr.{Ptr}
use Rattle.std.specs.declared.alloc.Global.{Global}
use Rattle.rtrb.specs.Shared.{Names}
use Rattle.gw_ledger.specs.declared.outcome.FrameCopy.{FrameCopy}

-- which ring of `rtrb` the lane is, as both its ends know it
pub record Ring : Type 0 where
  pub words : Ptr
  pub slots : Ptr
  pub names : Names
  pub heap : Global

-- the end on which copies are placed: its ring, how many copies the ring has room for, and the copies placed, oldest first
pub record Inlet : Type 0 where
  pub ring : Ring
  pub room : ℕ
  pub placed : List FrameCopy

-- the end from which copies are taken: its ring, and the copies taken, oldest first
pub record Outlet : Type 0 where
  pub ring : Ring
  pub taken : List FrameCopy

-- a new end of a lane, and the lane's other end
abbrev pub new_inlet : Ring → ℕ → Inlet
new_inlet ring room = record { ring = ring; room = room; placed = [] }

abbrev pub new_outlet : Inlet → Outlet
new_outlet inlet = record { ring = inlet.ring; taken = [] }
