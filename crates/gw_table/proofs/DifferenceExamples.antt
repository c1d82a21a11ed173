-- A rule that is moved above another, and the frame that the two tables treat unlike.
use Rattle.std.proofs.Common.{◌≡◌, ℕ, List, [], ◌∷◌, true, false, refl}
use Rattle.gw_table.specs.declared.table.Action.TheVariants.{Pass, Block}
use Rattle.gw_table.specs.declared.table.Rule.{Rule}
use Rattle.gw_table.specs.declared.table.Part.TheVariants as part
use Rattle.gw_table.specs.Table.{Meaning, table_passes}
use Rattle.gw_table.specs.Difference.{DecidePair}

-- requests, 59904, to every address from the tool at 249 are blocked; requests to the engine, address 0, pass
abbrev pub tool : Rule
tool = record {
  action = Block;
  pgn = record { low = 59904; high = 59904 };
  source = record { low = 249; high = 249 };
  destination = record { low = 0; high = 255 };
  from = record { low = 0; high = 255 };
}

abbrev pub engine : Rule
engine = record {
  action = Pass;
  pgn = record { low = 59904; high = 59904 };
  source = record { low = 0; high = 255 };
  destination = record { low = 0; high = 0 };
  from = record { low = 0; high = 255 };
}

abbrev old : Meaning
old = record { otherwise = Block; other = Block; rules = tool ∷ engine ∷ [] }

abbrev new : Meaning
new = record { otherwise = Block; other = Block; rules = engine ∷ tool ∷ [] }

-- 18EA00F9, a request of the tool to the engine, and 18EAFFF9, one to all; the payload is E5FE00
abbrev pub request : List ℕ
request = 0x98 ∷ 0xea ∷ 0x00 ∷ 0xf9 ∷ 3 ∷ 0 ∷ 0 ∷ 0 ∷ 0xe5 ∷ 0xfe ∷ 0 ∷ []

abbrev pub to_all : List ℕ
to_all = 0x98 ∷ 0xea ∷ 0xff ∷ 0xf9 ∷ 3 ∷ 0 ∷ 0 ∷ 0 ∷ 0xe5 ∷ 0xfe ∷ 0 ∷ []

-- an identifier of 11 bits
abbrev pub short : List ℕ
short = 0 ∷ 0 ∷ 1 ∷ 0x23 ∷ 0 ∷ 0 ∷ 0 ∷ 0 ∷ []

request_is_unlike : DecidePair old new request 1 (part.Rule 0) (part.Rule 0)
request_is_unlike = ((refl, refl), (refl, refl))

request_was_blocked : table_passes old request 1 ≡ false
request_was_blocked = refl

request_passes_now : table_passes new request 1 ≡ true
request_passes_now = refl

to_all_is_alike : DecidePair old new to_all 1 (part.Rule 0) (part.Rule 1)
to_all_is_alike = ((refl, refl), (refl, refl))

short_is_other : DecidePair old new short 1 part.Other part.Other
short_is_other = (refl, refl)
