-- Where the sets of an index stand, on groups of SAE J1939-71 and at the ends of each field.
use Rattle.std.proofs.Common.{◌≡◌, ◌∷◌, [], refl}
use Rattle.gw_table.specs.declared.refusal.Field.TheVariants.{Pgn, Source, Destination, From}
use Rattle.gw_table.specs.declared.rule_set.Property.TheVariants.{Passes, Holds}
use Rattle.gw_table.specs.Sections.{start_property, row_at, row_of_page}
use Rattle.gw_table.specs.Index.{group_position}

passing_stand_first : start_property 0 ≡ Passes
passing_stand_first = refl

any_port_is_second : start_property 1 ≡ Holds From 0
any_port_is_second = refl

destination_255_is_third : start_property 2 ≡ Holds Destination 255
destination_255_is_third = refl

destination_0 : start_property 257 ≡ Holds Destination 0
destination_0 = refl

source_0 : start_property 258 ≡ Holds Source 0
source_0 = refl

source_255 : start_property 513 ≡ Holds Source 255
source_255 = refl

-- 59904, a request, is the page 234
request : start_property 748 ≡ Holds Pgn 59904
request = refl

-- 61440 is the first group of PDU2, and 262143 the last
first_row_of_groups : row_at 1 ≡ record { field = Pgn; least = 61440; whole = 754 }
first_row_of_groups = refl

last_row_of_groups : row_at 64 ≡ record { field = Pgn; least = 261888; whole = 1537 }
last_row_of_groups = refl

page_of_61444 : row_of_page 240 ≡ 1
page_of_61444 = refl

page_of_262143 : row_of_page 1023 ≡ 64
page_of_262143 = refl

-- 59904 is of PDU1; 61444, engine speed, has the set of its page, and where its row is the second one its own
position_of_59904 : group_position (0 ∷ 2 ∷ []) 59904 ≡ 748
position_of_59904 = refl

position_of_61444_without_a_row : group_position (0 ∷ 0 ∷ []) 61444 ≡ 754
position_of_61444_without_a_row = refl

position_of_61444_in_its_row : group_position (0 ∷ 2 ∷ []) 61444 ≡ 1798
position_of_61444_in_its_row = refl
