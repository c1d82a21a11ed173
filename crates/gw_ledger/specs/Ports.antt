-- A set of ports, as the ascending list of its ports.
use Rattle.std.specs.Prelude.{◌≡◌, ℕ, zero, suc, Bool, IsTrue, ◌==◌, nat_lt, if◌then◌else◌, List, [], ◌∷◌, ◌++◌}
use Rattle.std.specs.List.{list_any}

-- the port is in the set
abbrev pub has_port : ℕ → List ℕ → Bool
has_port port = list_any (λ other. other == port)

-- the set with a port, which may be there already
abbrev pub with_port : ℕ → List ℕ → List ℕ
with_port port [] = port ∷ []
with_port port (least ∷ rest) =
    if nat_lt port least then port ∷ least ∷ rest
    else if port == least then least ∷ rest
    else least ∷ with_port port rest

-- the ports below a number that pass a test, in ascending order
unfoldable pub ports_below : ℕ → (ℕ → Bool) → List ℕ
ports_below zero test = []
ports_below (suc n) test = ports_below n test ++ (if test n then n ∷ [] else [])

-- the list of a set of ports: those of 0 to 15 that it has, in ascending order
pub record IsPortSet (ports : List ℕ) : Type 0 where
  pub in_order : ports ≡ ports_below 16 (λ port. has_port port ports)

-- each port of the one set is in the other
pub record IsPartOf (part whole : List ℕ) : Type 0 where
  pub ports : (port : ℕ) → IsTrue (has_port port part) → IsTrue (has_port port whole)
