-- What two tables differ in: for each pair of parts that decide some frame unlike, one frame and port.
use Rattle.std.specs.Prelude.{◌≡◌, ◌≢◌, ℕ, ◌+◌, ◌*◌, ◌<◌, ◌⊎◌, true, List, All}
use Rattle.std.specs.List.{Any, AllPairs}
use Rattle.gw_ident.specs.Identifier.{is_extended_data}
use Rattle.gw_frame.specs.Record.{word_of, IsRecord}
use Rattle.gw_table.specs.declared.table.Part.{Part}
use Rattle.gw_table.specs.declared.table.Part.TheVariants as part
use Rattle.gw_table.specs.declared.difference.Difference.{Difference}
use Rattle.gw_table.specs.Table.{Meaning, Decides, table_passes}

-- a frame that a bus carries: of 29 bits, or of 11
abbrev pub IsCarried : List ℕ → Type 0
IsCarried octets = IsRecord octets × ((is_extended_data (word_of octets) ≡ true) ⊎ (word_of octets < 2048))

-- a port of a gateway, and a frame that two tables treat unlike when it is taken there
pub record IsUnlike (old new : Meaning) (octets : List ℕ) (port : ℕ) : Type 0 where
  pub carried : IsCarried octets
  pub port_fits : port < 16
  pub unlike : table_passes old octets port ≢ table_passes new octets port

-- the parts that decide a frame in the one table and in the other
abbrev pub DecidePair : Meaning → Meaning → List ℕ → ℕ → Part → Part → Type 0
DecidePair old new octets port by_old by_new = Decides old octets port by_old × Decides new octets port by_new

-- a listed difference: its frame is treated unlike at its port, and its parts decide it
pub record IsDifference (old new : Meaning) (found : Difference) : Type 0 where
  pub unlike : IsUnlike old new found.frame found.port
  pub pair : DecidePair old new found.frame found.port found.old found.new

-- rules in their order, then `default`, then `other`
abbrev pub rank : Part → ℕ
rank (part.Rule number) = number
rank part.Default = 256
rank part.Other = 257

abbrev pub pair_rank : Difference → ℕ
pair_rank found = 258 * rank found.old + rank found.new

-- each pair of parts that decide some frame unlike, once, in ascending order
pub record AreDifferences (old new : Meaning) (found : List Difference) : Type 0 where
  pub sound : All (IsDifference old new) found
  pub complete : (octets : List ℕ) (port : ℕ) → IsUnlike old new octets port
      → Any (λ d. DecidePair old new octets port d.old d.new) found
  pub ascending : AllPairs (λ a b. pair_rank a < pair_rank b) found

-- both tables pass the same frames at every port
abbrev pub AreAlike : Meaning → Meaning → Type 0
AreAlike old new =
    (octets : List ℕ) (port : ℕ) → IsCarried octets → port < 16 → table_passes old octets port ≡ table_passes new octets port
