-- The definitions computed on texts that candump, canplayer and python-can write or read, and on others.
use Rattle.std.proofs.Common.{◌≡◌, [], ◌∷◌, codes, refl, Ok, Err}
use Rattle.gw_log.specs.declared.refusal.LogRefusal.TheVariants.{CanFd, NoFrame, NoDigit, BadDigits, WideId, OddDigits}
use Rattle.gw_log.specs.declared.refusal.LogRefusal.TheVariants.{BadLength, BadRemote, BadCode}
use Rattle.gw_log.specs.LogFrames.{digit, frame_of, record_of}

-- a record, octet by octet
octets : (frame_of (codes "18FEF100#0102030405060708")
    ≡ Ok (0x98 ∷ 0xFE ∷ 0xF1 ∷ 0 ∷ 8 ∷ 0 ∷ 0 ∷ 0 ∷ 1 ∷ 2 ∷ 3 ∷ 4 ∷ 5 ∷ 6 ∷ 7 ∷ 8 ∷ []))
    × (frame_of (codes "123#DEADBEEF") ≡ Ok (0 ∷ 0 ∷ 1 ∷ 0x23 ∷ 4 ∷ 0 ∷ 0 ∷ 0 ∷ 0xDE ∷ 0xAD ∷ 0xBE ∷ 0xEF ∷ []))
    × (frame_of (codes "18EAFF00#R3") ≡ Ok (0xD8 ∷ 0xEA ∷ 0xFF ∷ 0 ∷ 3 ∷ 0 ∷ 0 ∷ 0 ∷ 0 ∷ 0 ∷ 0 ∷ []))
    × (frame_of (codes "20000004#0004000000000000") ≡ Ok (0x20 ∷ 0 ∷ 0 ∷ 4 ∷ 8 ∷ 0 ∷ 0 ∷ 0 ∷ 0 ∷ 4 ∷ 0 ∷ 0 ∷ 0 ∷ 0 ∷ 0 ∷ 0 ∷ []))
unfolding frame_of digit
octets = (refl, refl, refl, refl)

-- eight digits: extended, below 0x800 too
extended : (frame_of (codes "18FEF100#01") ≡ Ok (record_of 0x98FEF100 (1 ∷ [])))
    × (frame_of (codes "18FEF100#") ≡ Ok (record_of 0x98FEF100 []))
    × (frame_of (codes "00000123#11") ≡ Ok (record_of 0x80000123 (0x11 ∷ [])))
    × (frame_of (codes "1FFFFFFF#FF") ≡ Ok (record_of 0x9FFFFFFF (0xFF ∷ [])))
    × (frame_of (codes "00000005#09") ≡ Ok (record_of 0x80000005 (9 ∷ [])))
unfolding frame_of digit
extended = (refl, refl, refl, refl, refl)

-- three digits: 11 bits
of_11_bits : (frame_of (codes "7FF#") ≡ Ok (record_of 0x7FF []))
    × (frame_of (codes "000#00") ≡ Ok (record_of 0 (0 ∷ [])))
    × (frame_of (codes "7FF#DEAD") ≡ Ok (record_of 0x7FF (0xDE ∷ 0xAD ∷ [])))
    × (frame_of (codes "123#") ≡ Ok (record_of 0x123 []))
unfolding frame_of digit
of_11_bits = (refl, refl, refl, refl)

-- remote frames: zeros for octets
remote : (frame_of (codes "123#R") ≡ Ok (record_of 0x40000123 []))
    × (frame_of (codes "123#R2") ≡ Ok (record_of 0x40000123 (0 ∷ 0 ∷ [])))
    × (frame_of (codes "18EAFF00#R") ≡ Ok (record_of 0xD8EAFF00 []))
    × (frame_of (codes "18EAFF00#R8") ≡ Ok (record_of 0xD8EAFF00 (0 ∷ 0 ∷ 0 ∷ 0 ∷ 0 ∷ 0 ∷ 0 ∷ 0 ∷ [])))
    × (frame_of (codes "18FEF100#R0") ≡ Ok (record_of 0xD8FEF100 []))
    × (frame_of (codes "18FEF100#r4") ≡ Ok (record_of 0xD8FEF100 (0 ∷ 0 ∷ 0 ∷ 0 ∷ [])))
    × (frame_of (codes "123#R8_E") ≡ Ok (record_of 0x40000123 (0 ∷ 0 ∷ 0 ∷ 0 ∷ 0 ∷ 0 ∷ 0 ∷ 0 ∷ [])))
unfolding frame_of digit
remote = (refl, refl, refl, refl, refl, refl, refl)

-- error frames, whose word is their digits
error_frames : (frame_of (codes "20000080#0000000000000000") ≡ Ok (record_of 0x20000080 (0 ∷ 0 ∷ 0 ∷ 0 ∷ 0 ∷ 0 ∷ 0 ∷ 0 ∷ [])))
    × (frame_of (codes "3FFFFFFF#00") ≡ Ok (record_of 0x3FFFFFFF (0 ∷ [])))
    × (frame_of (codes "20000080#") ≡ Ok (record_of 0x20000080 []))
unfolding frame_of digit
error_frames = (refl, refl, refl)

-- lower case, dots between octets, a raw length code
other_spellings : (frame_of (codes "18fef100#deadbeef") ≡ Ok (record_of 0x98FEF100 (0xDE ∷ 0xAD ∷ 0xBE ∷ 0xEF ∷ [])))
    × (frame_of (codes "18FEF100#01.02.03") ≡ Ok (record_of 0x98FEF100 (1 ∷ 2 ∷ 3 ∷ [])))
    × (frame_of (codes "18FEF100#01.0203.04") ≡ Ok (record_of 0x98FEF100 (1 ∷ 2 ∷ 3 ∷ 4 ∷ [])))
    × (frame_of (codes "123#1122334455667788_B")
    ≡ Ok (record_of 0x123 (0x11 ∷ 0x22 ∷ 0x33 ∷ 0x44 ∷ 0x55 ∷ 0x66 ∷ 0x77 ∷ 0x88 ∷ [])))
unfolding frame_of digit
other_spellings = (refl, refl, refl, refl)

-- 101, CAN FD
fd : (frame_of (codes "123##1112233") ≡ Err CanFd)
    × (frame_of (codes "18FEF100##0") ≡ Err CanFd)
unfolding frame_of digit
fd = (refl, refl)

-- 103, no `#`: an identifier alone, a record
no_frame : (frame_of (codes "18FEF100") ≡ Err NoFrame)
    × (frame_of (codes "98FEF100080000000102030405060708") ≡ Err NoFrame)
unfolding frame_of digit
no_frame = (refl, refl)

-- 106, something else than a digit
no_digit : (frame_of (codes "18FEF100#01G2") ≡ Err NoDigit)
    × (frame_of (codes "1G8#01") ≡ Err NoDigit)
unfolding frame_of digit
no_digit = (refl, refl)

-- 107, another number of digits: 7, 2, 4, 9, none, and CAN XL
bad_digits : (frame_of (codes "8FEF100#01") ≡ Err BadDigits)
    × (frame_of (codes "12#01") ≡ Err BadDigits)
    × (frame_of (codes "0123#01") ≡ Err BadDigits)
    × (frame_of (codes "018FEF100#01") ≡ Err BadDigits)
    × (frame_of (codes "#01") ≡ Err BadDigits)
    × (frame_of (codes "45123#81:00:12345678#11223344.556677") ≡ Err BadDigits)
unfolding frame_of digit
bad_digits = (refl, refl, refl, refl, refl, refl)

-- 108, above 7FF, above 3FFFFFFF: the word of a record too
wide : (frame_of (codes "800#01") ≡ Err WideId)
    × (frame_of (codes "FFF#01") ≡ Err WideId)
    × (frame_of (codes "40000000#01") ≡ Err WideId)
    × (frame_of (codes "98FEF100#01") ≡ Err WideId)
    × (frame_of (codes "FFFFFFFF#01") ≡ Err WideId)
unfolding frame_of digit
wide = (refl, refl, refl, refl, refl)

-- 109, half an octet, also before the ninth is judged; dots in front, at the end, side by side, within an octet
odd : (frame_of (codes "18FEF100#0") ≡ Err OddDigits)
    × (frame_of (codes "18FEF100#010") ≡ Err OddDigits)
    × (frame_of (codes "18FEF100#01020304050607080") ≡ Err OddDigits)
    × (frame_of (codes "18FEF100#.01") ≡ Err OddDigits)
    × (frame_of (codes "18FEF100#01.") ≡ Err OddDigits)
    × (frame_of (codes "18FEF100#01..02") ≡ Err OddDigits)
    × (frame_of (codes "18FEF100#0.1") ≡ Err OddDigits)
unfolding frame_of digit
odd = (refl, refl, refl, refl, refl, refl, refl)

-- 110, nine octets
nine : frame_of (codes "18FEF100#010203040506070809") ≡ Err BadLength
unfolding frame_of digit
nine = refl

-- 111, lengths 9, 33 and `3X`; a remote error frame
bad_remote : (frame_of (codes "18FEF100#R9") ≡ Err BadRemote)
    × (frame_of (codes "18FEF100#R33") ≡ Err BadRemote)
    × (frame_of (codes "18FEF100#R3X") ≡ Err BadRemote)
    × (frame_of (codes "20000080#R") ≡ Err BadRemote)
unfolding frame_of digit
bad_remote = (refl, refl, refl, refl)

-- 112, a code behind one octet, and one below 9
bad_code : (frame_of (codes "123#11_B") ≡ Err BadCode)
    × (frame_of (codes "123#1122334455667788_8") ≡ Err BadCode)
unfolding frame_of digit
bad_code = (refl, refl)
