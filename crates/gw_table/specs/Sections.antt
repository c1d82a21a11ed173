-- Which sets an index has, and where they stand.
use Rattle.std.specs.Prelude.{ℕ, ◌+◌, ◌-◌, ◌*◌, ◌/◌, ◌%◌, ◌<◌, ◌==◌, nat_lt, if◌then◌else◌}
use Rattle.gw_table.specs.declared.refusal.Field.TheVariants.{Pgn, Source, Destination, From}
use Rattle.gw_table.specs.declared.rule_set.Property.{Property}
use Rattle.gw_table.specs.declared.rule_set.Property.TheVariants.{Passes, Holds}
use Rattle.gw_table.specs.declared.section.Section.{Section}
use Rattle.gw_table.specs.declared.section.Section.TheVariants as section
use Rattle.gw_table.specs.declared.section.Row.{Row}

-- of each set at the start: one of the rules that pass, one of port 0, the destinations from 255 down, the sources, and the
-- first group of each page
abbrev pub start_property : ℕ → Property
start_property position =
    if nat_lt position 1 then Passes
    else if nat_lt position 2 then Holds From 0
    else if nat_lt position 258 then Holds Destination (255 - (position - 2))
    else if nat_lt position 514 then Holds Source (position - 258)
    else Holds Pgn ((position - 514) * 256)

abbrev pub property_of : Section → ℕ → Property
property_of section.Start number = start_property number
property_of (section.Row field least) number = Holds field (least + number)

abbrev pub length_of : Section → ℕ
length_of section.Start = 1538
length_of (section.Row field least) = 256

-- no field has numbers from 262144 on
abbrev pub IsSection : Section → Type 0
IsSection section.Start = Unit {0}
IsSection (section.Row field least) = least < 262144

-- a page of PDU2, of which each of four data pages has 16
abbrev pub pdu2_page : ℕ → ℕ
pdu2_page number = number / 16 * 256 + 240 + number % 16

-- row 0 is that of the ingress ports, the 64 others are those of the pages of PDU2
abbrev pub row_at : ℕ → Row
row_at number =
    if number == 0 then record { field = From; least = 0; whole = 1 }
    else record { field = Pgn; least = pdu2_page (number - 1) * 256; whole = 514 + pdu2_page (number - 1) }

abbrev pub row_of_page : ℕ → ℕ
row_of_page page = 1 + page / 256 * 16 + (page % 256 - 240)
