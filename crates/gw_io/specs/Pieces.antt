-- What a reader gives, piece by piece: `before` and `after` are what it has left.
use Rattle.std.specs.Prelude.{◌<◌, ◌≤◌, ℕ, Bool, true, false, List, length, Option, Result, Ok, Err}
use Rattle.std.specs.Io.KnownBytes.{Consumes, IsAtEnd, Keeps}
use Rattle.gw_io.specs.declared.pieces.ReadFault.{ReadFault}

-- the most reads of one input, 2 to the 24th (docs/DECISIONS.md, R54)
abbrev pub most_reads : ℕ
most_reads = 16777216

-- the piece that was read last, and how many reads are left
pub record Known : Type 0 where
  pub piece : List ℕ
  pub left : ℕ

-- some octets; or none, at the end; or nothing at all
abbrev pub IsNextPiece : Option (List ℕ) → Option (List ℕ) → List ℕ → Result Bool ReadFault → Type 0
IsNextPiece before after piece (Ok true) = Consumes before after piece × (0 < length piece)
IsNextPiece before after piece (Ok false) = Keeps before after × IsAtEnd after
IsNextPiece before after piece (Err fault) = Keeps before after

-- the reader gave so many octets at least
pub record GivesAtLeast (before after : Option (List ℕ)) (least : ℕ) : Type 0 where
  pub octets : List ℕ
  pub consumed : Consumes before after octets
  pub enough : least ≤ length octets
