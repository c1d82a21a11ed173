-- What the tables of a gateway's egress ports differ in: a frame that is taken at one port leaves at another where the table of
-- the other passes it at the one.
use Rattle.std.specs.Prelude.{◌≡◌, ◌≢◌, ℕ, ◌<◌, ◌⊎◌, min, List, length, Some, slice_get, All}
use Rattle.std.specs.List.{Any, AllPairs, slice_index_or}
use Rattle.gw_table.specs.declared.difference.Difference.{Difference}
use Rattle.gw_table.specs.declared.crossing.Change.{Change}
use Rattle.gw_table.specs.declared.crossing.Crossing.{Crossing}
use Rattle.gw_table.specs.Table.{table_passes}
use Rattle.gw_table.specs.Difference.{IsCarried, IsUnlike, DecidePair, IsDifference, pair_rank}

-- each change is of one port, of 16 at most
abbrev pub port_count : List Change → ℕ
port_count changes = min (length changes) 16

-- two ports, at which a frame is taken and leaves, and the tables of the second
pub record IsWay (changes : List Change) (ingress egress : ℕ) (change : Change) : Type 0 where
  pub ingress_fits : ingress < port_count changes
  pub egress_fits : egress < port_count changes
  pub apart : ingress ≢ egress
  pub tables : slice_get changes egress ≡ Some change

-- a difference of the tables of an egress port, at another port
pub record IsCrossing (changes : List Change) (found : Crossing) : Type 0 where
  pub change : Change
  pub way : IsWay changes found.difference.port found.egress change
  pub difference : IsDifference change.old.now change.new.now found.difference

-- in the order of egress ports, and then of pairs
abbrev pub IsCrossingBefore : Crossing → Crossing → Type 0
IsCrossingBefore a b =
    (a.egress < b.egress) ⊎ ((a.egress ≡ b.egress) × (pair_rank a.difference < pair_rank b.difference))

-- the pair of the parts that decide a frame is found at an egress port
abbrev pub HasPair : Change → List ℕ → ℕ → ℕ → List Crossing → Type 0
HasPair change octets ingress egress found =
    Any (λ c. (c.egress ≡ egress)
    × DecidePair change.old.now change.new.now octets ingress c.difference.old c.difference.new) found

-- at each egress port each pair of parts that decide some frame unlike there, once, in ascending order
pub record AreCrossings (changes : List Change) (found : List Crossing) : Type 0 where
  pub sound : All (IsCrossing changes) found
  pub complete : (octets : List ℕ) (ingress egress : ℕ) (change : Change) → IsWay changes ingress egress change
      → IsUnlike change.old.now change.new.now octets ingress → HasPair change octets ingress egress found
  pub ascending : AllPairs IsCrossingBefore found

-- the same frames leave at each port
abbrev pub AreAlikeEverywhere : List Change → Type 0
AreAlikeEverywhere changes =
    (octets : List ℕ) (ingress egress : ℕ) (change : Change) → IsCarried octets → IsWay changes ingress egress change
    → table_passes change.old.now octets ingress ≡ table_passes change.new.now octets ingress

-- what only the search speaks of

-- the crossings to the ports below this one
pub record AreCrossingsBelow (changes : List Change) (port : ℕ) (found : List Crossing) : Type 0 where
  pub sound : All (IsCrossing changes) found
  pub complete : (octets : List ℕ) (ingress egress : ℕ) (change : Change) → egress < port → IsWay changes ingress egress change
      → IsUnlike change.old.now change.new.now octets ingress → HasPair change octets ingress egress found
  pub ascending : AllPairs IsCrossingBefore found
  pub earlier : All (λ c. c.egress < port) found

-- a crossing to a port below this one, or of one of the first differences at it
abbrev pub IsSooner : ℕ → List Difference → ℕ → Crossing → Type 0
IsSooner port differences count c =
    (c.egress < port)
    ⊎ ((c.egress ≡ port) × ((k : ℕ) × (k < count) × (c.difference ≡ slice_index_or differences k c.difference)))

-- the crossings to the ports below this one, and the first of the differences at it
pub record AreBegun (changes : List Change) (port : ℕ) (differences : List Difference) (count : ℕ) (found : List Crossing)
    : Type 0 where
  pub sound : All (IsCrossing changes) found
  pub complete : (octets : List ℕ) (ingress egress : ℕ) (change : Change) → egress < port → IsWay changes ingress egress change
      → IsUnlike change.old.now change.new.now octets ingress → HasPair change octets ingress egress found
  pub ascending : AllPairs IsCrossingBefore found
  pub sooner : All (IsSooner port differences count) found
  pub listed : (k : ℕ) (d : Difference) → k < count
      → Any (λ c. (c.egress ≡ port) × (c.difference ≡ slice_index_or differences k d)) found
