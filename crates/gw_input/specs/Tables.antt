-- What the text of a table gives.
use Rattle.std.specs.Prelude.{◌≡◌, ℕ, List, Some}
use Rattle.std.specs.Str.{IsUtf8}
use Rattle.gw_table.specs.Table.{Meaning}
use Rattle.gw_table.specs.TableText.{IsTableText, IsTableRefusal}
use Rattle.gw_table.specs.Emission.{emission}
use Rattle.gw_policy.specs.Filter.{Filter}
use Rattle.gw_input.specs.declared.tables.TableFault.{TableFault}
use Rattle.gw_input.specs.declared.tables.TableFault.TheVariants.{NotUtf8, Text, OutOfMemory}

-- the octets are UTF-8, and the text of this table
pub record IsTable (octets : List ℕ) (table : Meaning) : Type 0 where
  pub utf8 : IsUtf8 octets
  pub text : IsTableText octets table

-- what refuses a table's octets; memory may be wanting for what is made of a table
abbrev pub IsTableFault : List ℕ → TableFault → Type 0
IsTableFault octets NotUtf8 = IsUtf8 octets → ⊥
IsTableFault octets (Text why) = IsUtf8 octets × IsTableRefusal octets why
IsTableFault octets OutOfMemory = (table : Meaning) × IsTable octets table

-- the policy of a table
pub record IsTablePolicy (octets : List ℕ) (policy : Filter) : Type 0 where
  pub meaning : Meaning
  pub table : IsTable octets meaning
  pub compiled : policy ≡ record { code = emission meaning; table = Some meaning }
