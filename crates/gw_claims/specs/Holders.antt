-- A set of claims as a table: at each address the NAME that holds it.
use Rattle.std.specs.Prelude.{◌≡◌, ◌≢◌, ◌↔◌, ℕ, Bool, true, ◌&&◌, nat_le, nat_lt, if◌then◌else◌, List, length, slice_index_or}
use Rattle.std.specs.Prelude.{slice_set, Option, Some, None, IsTrue}
use Rattle.std.specs.Option.{option_map_or}
use Rattle.gw_claims.specs.Claims.{Claim, claims_after, is_held_by}

-- the NAME that holds an address; none holds one behind the table's end
abbrev pub holder_of : List (Option ℕ) → ℕ → Option ℕ
holder_of table address = slice_index_or table address None

-- the table has just the claims of the set
pub record IsTableOf (table : List (Option ℕ)) (claims : List Claim) : Type 0 where
  pub held : (address name : ℕ) → (holder_of table address ≡ Some name) ↔ IsTrue (is_held_by address name claims)

-- the table has the claims after the records heard
abbrev pub HoldsAfter : List (Option ℕ) → List (List ℕ) → Type 0
HoldsAfter table heard = IsTableOf table (claims_after heard)

-- a table of the addresses 0 to 253, in which a NAME holds at most one address
pub record IsTable (table : List (Option ℕ)) : Type 0 where
  pub addresses : length table ≡ 254
  pub one_each : (one other name : ℕ) → holder_of table one ≡ Some name → holder_of table other ≡ Some name → one ≡ other

-- the NAME holds nothing any more, and all other claims stay
pub record GivesUp (old new : List (Option ℕ)) (name : ℕ) : Type 0 where
  pub others : (address other : ℕ)
      → (holder_of new address ≡ Some other) ↔ ((holder_of old address ≡ Some other) × (other ≢ name))

-- a NAME may take an address that nobody or a greater NAME holds
abbrev pub is_open_to : List (Option ℕ) → ℕ → ℕ → Bool
is_open_to table address name = nat_le address 253 && option_map_or (λ held. nat_lt name held) (holder_of table address) true

-- the table once a NAME that holds nothing claims an address
abbrev pub table_taken : List (Option ℕ) → ℕ → ℕ → List (Option ℕ)
table_taken table address name = if is_open_to table address name then slice_set table address (Some name) else table
