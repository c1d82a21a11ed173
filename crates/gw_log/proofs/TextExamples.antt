-- Records in candump's form, and what a log says of them.
use Rattle.std.proofs.Common.{◌≡◌, [], ◌∷◌, codes, refl}
use Rattle.hex.specs.Hex.{encode_with}
use Rattle.gw_log.specs.LogFrames.{record_of}
use Rattle.gw_log.specs.LogTexts.{text_of, said_record}

-- extended, of 11 bits, remote, an error frame
written : (text_of (record_of 0x98FEF100 (1 ∷ 2 ∷ 3 ∷ 4 ∷ 5 ∷ 6 ∷ 7 ∷ 8 ∷ [])) ≡ codes "18FEF100#0102030405060708")
    × (text_of (record_of 0x123 (0xDE ∷ 0xAD ∷ 0xBE ∷ 0xEF ∷ [])) ≡ codes "123#DEADBEEF")
    × (text_of (record_of 0x80000123 (0x11 ∷ [])) ≡ codes "00000123#11")
    × (text_of (record_of 0xD8EAFF00 []) ≡ codes "18EAFF00#R")
    × (text_of (record_of 0x40000123 (0 ∷ 0 ∷ 0 ∷ [])) ≡ codes "123#R3")
    × (text_of (record_of 0x20000080 (0 ∷ 0 ∷ [])) ≡ codes "20000080#0000")
unfolding text_of encode_with
written = (refl, refl, refl, refl, refl, refl)

-- what a log cannot say: octets 5 to 7 and padding, octets of a remote frame, more than 11 bits
padded : said_record (0x98 ∷ 0xFE ∷ 0xF1 ∷ 0 ∷ 2 ∷ 1 ∷ 2 ∷ 3 ∷ 1 ∷ 2 ∷ 4 ∷ 5 ∷ []) ≡ record_of 0x98FEF100 (1 ∷ 2 ∷ [])
unfolding said_record
padded = refl

unsaid : (said_record (record_of 0x40000123 (1 ∷ 2 ∷ 3 ∷ [])) ≡ record_of 0x40000123 (0 ∷ 0 ∷ 0 ∷ []))
    × (said_record (record_of 0xF123 []) ≡ record_of 0x123 [])
unfolding said_record
unsaid = (refl, refl)
