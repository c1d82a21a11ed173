-- How a gateway begins: its limits, and what its ports heard before.
use Rattle.std.specs.Prelude.{ℕ, List, []}
use Rattle.gw_ledger.specs.Bounds.{Bounds}

-- for each port the records that it heard before the gateway began, the newest first
abbrev pub Heard : Type 0
Heard = ℕ → List (List ℕ)

-- a start
pub record Start : Type 0 where
  pub limits : Bounds
  pub known : Heard

-- a gateway of these limits begins, whose ports had heard these records
abbrev pub begun : Bounds → Heard → Start
begun limits known = record { limits = limits; known = known }

-- no port had heard any
abbrev pub unheard : Heard
unheard p = []

-- a gateway of these limits begins with no claims
abbrev pub fresh : Bounds → Start
fresh limits = begun limits unheard
