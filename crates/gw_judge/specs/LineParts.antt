-- Parts of lines, as a reader gives them: `before` and `after` are what it has left.
use Rattle.std.specs.Prelude.{◌≡◌, ◌<◌, ℕ, ◌-◌, ◌==◌, slice_index, Bool, true, false, List, [], ◌++◌, length}
use Rattle.std.specs.Prelude.{take, All, Option, Result, Ok, Err}
use Rattle.std.specs.Io.KnownBytes.{Consumes, IsAtEnd, Keeps}
use Rattle.gw_io.specs.declared.pieces.ReadFault.{ReadFault}
use Rattle.gw_input.specs.Lines.{is_line_feed}

-- the part that was given last, and what was read behind it
pub record Ahead : Type 0 where
  pub part : List ℕ
  pub rest : List ℕ

-- no line feed
abbrev pub IsEndless : List ℕ → Type 0
IsEndless octets = All (λ c. is_line_feed c ≡ false) octets

-- a line feed is its last octet
abbrev pub ends_line : List ℕ → Bool
ends_line part = slice_index part (length part - 1) == 10

-- some octets, of which the last one alone may be a line feed
pub record IsLinePart (part : List ℕ) : Type 0 where
  pub some : 0 < length part
  pub front : IsEndless (take (length part - 1) part)

-- what was left, with what the reader gave, is the part and what is left now
pub record IsNextPart (before after : Option (List ℕ)) (rest : List ℕ) (now : Ahead) : Type 0 where
  pub got : List ℕ
  pub consumed : Consumes before after got
  pub cut : rest ++ got ≡ now.part ++ now.rest
  pub line : IsLinePart now.part

-- some octets are left, of the last piece or of the next; or none, at the end; or nothing was read at all
abbrev pub Fills : Option (List ℕ) → Option (List ℕ) → List ℕ → List ℕ → Result Bool ReadFault → Type 0
Fills before after old new (Ok true) =
    (got : List ℕ) × Consumes before after got × (old ++ got ≡ new) × (0 < length new)
Fills before after old new (Ok false) = Keeps before after × IsAtEnd after × (old ≡ [])
Fills before after old new (Err fault) = Keeps before after × (old ≡ [])

-- a part; or none, at the end; or nothing at all
abbrev pub GivesPart : Option (List ℕ) → Option (List ℕ) → List ℕ → Ahead → Result Bool ReadFault → Type 0
GivesPart before after rest now (Ok true) = IsNextPart before after rest now
GivesPart before after rest now (Ok false) = Keeps before after × IsAtEnd after × (rest ≡ [])
GivesPart before after rest now (Err fault) = Keeps before after × (rest ≡ [])
