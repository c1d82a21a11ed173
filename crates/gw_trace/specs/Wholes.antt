-- Octets that are whole records from the first to the last.
use Rattle.std.specs.Prelude.{◌≡◌, ℕ, ◌+◌, ◌≤◌, List, [], None}
use Rattle.gw_trace.specs.declared.byte_order.Endian.{Endian}
use Rattle.gw_trace.specs.declared.record.Beginning.{Beginning}
use Rattle.gw_trace.specs.declared.record.Beginning.TheVariants.{Whole}
use Rattle.gw_trace.specs.Traces.{contents}

pub record AreRecords (order : Endian) (octets : List ℕ) : Type 0 where
  pub sound : (contents order octets).fault ≡ None
  pub whole : (contents order octets).rest ≡ []

-- a whole record stands within so many octets
abbrev pub IsWithin : ℕ → Beginning → Type 0
IsWithin there (Whole count) = 16 + count ≤ there
IsWithin there _ = Unit {0}
