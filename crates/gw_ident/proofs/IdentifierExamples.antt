-- Worked examples of 'Identifier'.
use Rattle.std.proofs.Common.{◌≡◌, Some, None, true, false, refl}
use Rattle.gw_ident.specs.Identifier.{priority, extended_data_page, data_page, pdu_format, pdu_specific, is_pdu1, parameter_group}
use Rattle.gw_ident.specs.Identifier.{destination, source_address, is_extended_data}

-- a PDU1 and a PDU2 identifier
pdu1 : (parameter_group 0x98EF1234 ≡ 61184) × (destination 0x98EF1234 ≡ Some 18) × (source_address 0x98EF1234 ≡ 52)
    × (priority 0x98EF1234 ≡ 6)
pdu1 = (refl, refl, refl, refl)

pdu2 : (parameter_group 0x98F01234 ≡ 61458) × (destination 0x98F01234 ≡ Some 255) × (source_address 0x98F01234 ≡ 52)
pdu2 = (refl, refl, refl)

-- the greatest identifier, and a standard one
greatest : (priority 0x9FFFFFFF ≡ 7) × (extended_data_page 0x9FFFFFFF ≡ 1) × (data_page 0x9FFFFFFF ≡ 1)
    × (parameter_group 0x9FFFFFFF ≡ 262143) × (destination 0x9FFFFFFF ≡ Some 255) × (source_address 0x9FFFFFFF ≡ 255)
greatest = (refl, refl, refl, refl, refl, refl)

standard : (is_extended_data 0x1FFFFFFF ≡ false) × (destination 0x1FFFFFFF ≡ None)
standard = (refl, refl)

-- a remote frame and an error frame are no data frames
flags : (is_extended_data 0x80000000 ≡ true) × (is_extended_data 0xC0000000 ≡ false) × (is_extended_data 0xA0000000 ≡ false)
    × (is_extended_data 0xE0000000 ≡ false)
flags = (refl, refl, refl, refl)

-- the last PDU1 and the first PDU2
formats : (is_pdu1 0x80EFFF00 ≡ true) × (destination 0x80EFFF00 ≡ Some 255) × (is_pdu1 0x80F00000 ≡ false)
    × (pdu_format 0x80F00000 ≡ 240) × (pdu_specific 0x80EF0700 ≡ 7)
formats = (refl, refl, refl, refl, refl)
