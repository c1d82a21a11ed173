-- The first octets of an input: `before` and `after` are what its reader has left.
use Rattle.std.specs.Prelude.{ℕ, ◌<◌, ◌≤◌, nat_le, Bool, ◌&&◌, ◌||◌, List, length, Option}
use Rattle.std.specs.Io.KnownBytes.{Consumes, IsAtEnd}
use Rattle.gw_trace.specs.declared.byte_order.Endian.TheVariants.{Big, Little}
use Rattle.gw_trace.specs.Traces.{field, is_magic}

-- the reader gave them: four, or all where there are fewer
pub record Opens (before after : Option (List ℕ)) (first : List ℕ) : Type 0 where
  pub consumed : Consumes before after first
  pub few : length first ≤ 4
  pub all : length first < 4 → IsAtEnd after

-- they are a magic number of classic pcap, in either byte order
abbrev pub is_capture : List ℕ → Bool
is_capture first = nat_le 4 (length first) && (is_magic (field Big 0 4 first) || is_magic (field Little 0 4 first))
