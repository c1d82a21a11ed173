-- Indices of a table: the numbers of its rules, then that of `default`, then that of `other`.
use Rattle.std.specs.Prelude.{◌≡◌, ℕ, ◌+◌, ◌<◌, ◌⊎◌, ◌==◌, true, nat_lt, if◌then◌else◌, List, length, All}
use Rattle.std.specs.List.{Any, AllPairs, position_or_len}
use Rattle.gw_ident.specs.Identifier.{is_extended_data}
use Rattle.gw_frame.specs.Record.{word_of, IsRecord}
use Rattle.gw_table.specs.declared.table.Rule.{Rule}
use Rattle.gw_table.specs.declared.table.Part.{Part}
use Rattle.gw_table.specs.declared.table.Part.TheVariants as part
use Rattle.gw_table.specs.declared.difference.Difference.{Difference}
use Rattle.gw_table.specs.Table.{Meaning, matches}
use Rattle.gw_table.specs.declared.ingress.Ingress.{Ingress}
use Rattle.gw_table.specs.Difference.{IsCarried, IsUnlike, DecidePair, IsDifference, pair_rank}
use Rattle.gw_table.specs.Ingress.{IsIngress}

abbrev pub part_at : ℕ → ℕ → Part
part_at rules index =
    if nat_lt index rules then part.Rule index else if index == rules then part.Default else part.Other

-- the index of the part that decides a frame
abbrev pub index_of : Meaning → List ℕ → ℕ → ℕ
index_of table octets port =
    if is_extended_data (word_of octets) then position_or_len (matches octets port) table.rules else length table.rules + 1

-- an extended data frame that the rules at these indices decide, or no rule where the index is the number of rules
pub record HoldFirst (old : List Rule) (a : ℕ) (new : List Rule) (b : ℕ) (octets : List ℕ) (port : ℕ) : Type 0 where
  pub carried : IsRecord octets
  pub extended : is_extended_data (word_of octets) ≡ true
  pub port_fits : port < 16
  pub first : position_or_len (matches octets port) old ≡ a
  pub second : position_or_len (matches octets port) new ≡ b

-- a carried frame that the parts at these indices decide
pub record DecideAt (old : Meaning) (a : ℕ) (new : Meaning) (b : ℕ) (octets : List ℕ) (port : ℕ) : Type 0 where
  pub carried : IsCarried octets
  pub port_fits : port < 16
  pub first : index_of old octets port ≡ a
  pub second : index_of new octets port ≡ b

-- pairs of indices are in the order of their first indices, and then of their second
abbrev pub IsBefore : ℕ → ℕ → ℕ → ℕ → Type 0
IsBefore i j a b = (i < a) ⊎ ((i ≡ a) × (j < b))

-- a difference of the parts at two indices
pub record IsOfIndices (old new : Meaning) (a b : ℕ) (found : Difference) : Type 0 where
  pub first : found.old ≡ part_at (length old.rules) a
  pub second : found.new ≡ part_at (length new.rules) b

-- a difference of a pair of indices before this one
pub record IsOfEarlier (old new : Meaning) (a b : ℕ) (found : Difference) : Type 0 where
  pub i : ℕ
  pub j : ℕ
  pub before : IsBefore i j a b
  pub indices : IsOfIndices old new i j found

-- a difference at one of these ports
abbrev pub IsDifferenceAt : Ingress → Meaning → Meaning → Difference → Type 0
IsDifferenceAt ingress old new found = IsDifference old new found × IsIngress ingress found.port

-- the differences of the pairs of indices before this one, in ascending order
pub record AreListed (ingress : Ingress) (old new : Meaning) (a b : ℕ) (found : List Difference) : Type 0 where
  pub sound : All (IsDifferenceAt ingress old new) found
  pub complete : (octets : List ℕ) (port : ℕ) → IsUnlike old new octets port → IsIngress ingress port
      → IsBefore (index_of old octets port) (index_of new octets port) a b
      → Any (λ d. DecidePair old new octets port d.old d.new) found
  pub ascending : AllPairs (λ x y. pair_rank x < pair_rank y) found
  pub earlier : All (IsOfEarlier old new a b) found

-- each pair of parts that decide some frame unlike at one of these ports, once, in ascending order
pub record AreDifferencesAt (ingress : Ingress) (old new : Meaning) (found : List Difference) : Type 0 where
  pub sound : All (IsDifferenceAt ingress old new) found
  pub complete : (octets : List ℕ) (port : ℕ) → IsUnlike old new octets port → IsIngress ingress port
      → Any (λ d. DecidePair old new octets port d.old d.new) found
  pub ascending : AllPairs (λ x y. pair_rank x < pair_rank y) found
