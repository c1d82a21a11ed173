-- The definition of a line computed on lines that candump, python-can and asc2log write, and on others.
use Rattle.std.proofs.Common.{◌≡◌, ℕ, List, [], ◌∷◌, ◌++◌, codes, replicate, refl, Some, None, Ok, Err}
use Rattle.gw_log.specs.declared.refusal.LogRefusal.TheVariants.{CanFd, OpenTime, NoFrame, WordsBefore, DigitsBehind, NoDigit}
use Rattle.gw_log.specs.declared.refusal.LogRefusal.TheVariants.{BadDigits, WideId, OddDigits, BadLength, BadRemote, BadCode}
use Rattle.gw_log.specs.declared.refusal.LogRefusal.TheVariants.{LongLine}
use Rattle.gw_log.specs.LogFrames.{digit, frame_of, record_of}
use Rattle.gw_log.specs.LogLines.{Reading, is_blank, words_of, is_marked, line_of}

abbrev says : List ℕ → List ℕ → ℕ → List ℕ → Reading
says time interface word payload =
    Ok (Some (record { time = time; interface = interface; octets = record_of word payload }))

abbrev logged_by_can0 : ℕ → List ℕ → Reading
logged_by_can0 word payload = says (codes "(1763800000.249713)") (codes "can0") word payload

abbrev shown_by_can0 : ℕ → List ℕ → Reading
shown_by_can0 word payload = says [] (codes "can0") word payload

-- as candump -l and -L write lines
of_logged_1 : (line_of (codes "(1763800000.249713) can0 18FEF100#0102030405060708\n")
    ≡ logged_by_can0 0x98FEF100 (1 ∷ 2 ∷ 3 ∷ 4 ∷ 5 ∷ 6 ∷ 7 ∷ 8 ∷ []))
    × (line_of (codes "(1763800000.249713)  can0 18FEF100#0102030405060708\n")
    ≡ logged_by_can0 0x98FEF100 (1 ∷ 2 ∷ 3 ∷ 4 ∷ 5 ∷ 6 ∷ 7 ∷ 8 ∷ []))
    × (line_of (codes "(0000000000.000000) can0 18FEF100#01\n")
    ≡ says (codes "(0000000000.000000)") (codes "can0") 0x98FEF100 (1 ∷ []))
    × (line_of (codes "(1763800000.249713) can0 18FEF100#\n") ≡ logged_by_can0 0x98FEF100 [])
    × (line_of (codes "(1763800000.249713) can0 123#DEADBEEF\n") ≡ logged_by_can0 0x123 (0xDE ∷ 0xAD ∷ 0xBE ∷ 0xEF ∷ []))
    × (line_of (codes "(1763800000.249713) can0 7FF#\n") ≡ logged_by_can0 0x7FF [])
    × (line_of (codes "(1763800000.249713) can0 000#00\n") ≡ logged_by_can0 0x0 (0 ∷ []))
    × (line_of (codes "(1763800000.249713) can0 00000123#11\n") ≡ logged_by_can0 0x80000123 (0x11 ∷ []))
    × (line_of (codes "(1763800000.249713) can0 1FFFFFFF#FF\n") ≡ logged_by_can0 0x9FFFFFFF (0xFF ∷ []))
    × (line_of (codes "(1763800000.249713) can0 123#R\n") ≡ logged_by_can0 0x40000123 [])
unfolding line_of words_of is_blank is_marked frame_of digit
of_logged_1 = (refl, refl, refl, refl, refl, refl, refl, refl, refl, refl)

of_logged_2 : (line_of (codes "(1763800000.249713) can0 123#R3\n") ≡ logged_by_can0 0x40000123 (0 ∷ 0 ∷ 0 ∷ []))
    × (line_of (codes "(1763800000.249713) can0 18EAFF00#R\n") ≡ logged_by_can0 0xD8EAFF00 [])
    × (line_of (codes "(1763800000.249713) can0 18EAFF00#R8\n")
    ≡ logged_by_can0 0xD8EAFF00 (0 ∷ 0 ∷ 0 ∷ 0 ∷ 0 ∷ 0 ∷ 0 ∷ 0 ∷ []))
    × (line_of (codes "(1763800000.249713) can0 20000080#0000000000000000\n")
    ≡ logged_by_can0 0x20000080 (0 ∷ 0 ∷ 0 ∷ 0 ∷ 0 ∷ 0 ∷ 0 ∷ 0 ∷ []))
    × (line_of (codes "(1763800000.249713) can0 20000004#0004000000000000\n")
    ≡ logged_by_can0 0x20000004 (0 ∷ 4 ∷ 0 ∷ 0 ∷ 0 ∷ 0 ∷ 0 ∷ 0 ∷ []))
    × (line_of (codes "(1763800000.249713) can0 3FFFFFFF#00\n") ≡ logged_by_can0 0x3FFFFFFF (0 ∷ []))
unfolding line_of words_of is_blank is_marked frame_of digit
of_logged_2 = (refl, refl, refl, refl, refl, refl)

-- with what candump -x and python-can write behind a frame, and as asc2log writes lines
of_flagged_1 : (line_of (codes "(1763800000.249713) can0 18FEF100#0102 R\n") ≡ logged_by_can0 0x98FEF100 (1 ∷ 2 ∷ []))
    × (line_of (codes "(1763800000.249713) can0 18FEF100#0102 T\n") ≡ logged_by_can0 0x98FEF100 (1 ∷ 2 ∷ []))
    × (line_of (codes "(1763800000.249713) can0 123#R2 T\n") ≡ logged_by_can0 0x40000123 (0 ∷ 0 ∷ []))
    × (line_of (codes "(1763800000.249713) can0 20000080#0000000000000000 R\n")
    ≡ logged_by_can0 0x20000080 (0 ∷ 0 ∷ 0 ∷ 0 ∷ 0 ∷ 0 ∷ 0 ∷ 0 ∷ []))
    × (line_of (codes "(1763800000.249713) can0 18FEF100#0102030405060708 R\n")
    ≡ logged_by_can0 0x98FEF100 (1 ∷ 2 ∷ 3 ∷ 4 ∷ 5 ∷ 6 ∷ 7 ∷ 8 ∷ []))
    × (line_of (codes "(1763800000.249713) can0 18FEF100# T\n") ≡ logged_by_can0 0x98FEF100 [])
    × (line_of (codes "(1763800000.249713) can1 7FF#DEAD R\n")
    ≡ says (codes "(1763800000.249713)") (codes "can1") 0x7FF (0xDE ∷ 0xAD ∷ []))
    × (line_of (codes "(1763800000.249713) vcan0 123#R R\n") ≡ says (codes "(1763800000.249713)") (codes "vcan0") 0x40000123 [])
    × (line_of (codes "(1763800000.249713) can0 18EAFF00#R T\n") ≡ logged_by_can0 0xD8EAFF00 [])
    × (line_of (codes "(1763800000.249713) can0 20000080#\n") ≡ logged_by_can0 0x20000080 [])
unfolding line_of words_of is_blank is_marked frame_of digit
of_flagged_1 = (refl, refl, refl, refl, refl, refl, refl, refl, refl, refl)

of_flagged_2 : (line_of (codes "(1763800000.249713) vcan0 00000005#09 R\n")
    ≡ says (codes "(1763800000.249713)") (codes "vcan0") 0x80000005 (9 ∷ []))
    × (line_of (codes "(0.000000) can0 18FEF100#01 R\n") ≡ says (codes "(0.000000)") (codes "can0") 0x98FEF100 (1 ∷ []))
    × (line_of (codes "(0.000287) can0 18FEF100#01\n") ≡ says (codes "(0.000287)") (codes "can0") 0x98FEF100 (1 ∷ []))
    × (line_of (codes "(0.000287) canX 18FEF100#01\n") ≡ says (codes "(0.000287)") (codes "canX") 0x98FEF100 (1 ∷ []))
unfolding line_of words_of is_blank is_marked frame_of digit
of_flagged_2 = (refl, refl, refl, refl)

-- the display form
of_displayed_1 : (line_of (codes "  can0  18FEF100   [8]  01 02 03 04 05 06 07 08\n")
    ≡ shown_by_can0 0x98FEF100 (1 ∷ 2 ∷ 3 ∷ 4 ∷ 5 ∷ 6 ∷ 7 ∷ 8 ∷ []))
    × (line_of (codes "  can0  123   [2]  DE AD\n") ≡ shown_by_can0 0x123 (0xDE ∷ 0xAD ∷ []))
    × (line_of (codes "  can0       123   [2]  DE AD\n") ≡ shown_by_can0 0x123 (0xDE ∷ 0xAD ∷ []))
    × (line_of (codes "  can0  18FEF100   [0] \n") ≡ shown_by_can0 0x98FEF100 [])
    × (line_of (codes "  can0  123   [3]  remote request\n") ≡ shown_by_can0 0x40000123 (0 ∷ 0 ∷ 0 ∷ []))
    × (line_of (codes "  can0  123   [0]  remote request\n") ≡ shown_by_can0 0x40000123 [])
    × (line_of (codes " (1763800000.249713)  can0  18FEF100   [8]  01 02 03 04 05 06 07 08\n")
    ≡ logged_by_can0 0x98FEF100 (1 ∷ 2 ∷ 3 ∷ 4 ∷ 5 ∷ 6 ∷ 7 ∷ 8 ∷ []))
    × (line_of (codes " (2015-07-10 06:17:32.249713)  can0  18FEF100   [2]  01 02\n")
    ≡ says (codes "(2015-07-10 06:17:32.249713)") (codes "can0") 0x98FEF100 (1 ∷ 2 ∷ []))
    × (line_of (codes " (000.000000)  can0  18FEF100   [2]  01 02\n")
    ≡ says (codes "(000.000000)") (codes "can0") 0x98FEF100 (1 ∷ 2 ∷ []))
    × (line_of (codes "  can0  RX - -  18FEF100   [2]  01 02\n") ≡ shown_by_can0 0x98FEF100 (1 ∷ 2 ∷ []))
unfolding line_of words_of is_blank is_marked frame_of digit
of_displayed_1 = (refl, refl, refl, refl, refl, refl, refl, refl, refl, refl)

of_displayed_2 : (line_of (codes "  can0  18FEF100   [2]  01 02                     '..'\n")
    ≡ shown_by_can0 0x98FEF100 (1 ∷ 2 ∷ []))
    × (line_of (codes "  can0  18FEF100   [2]  23 5B                     '#['\n") ≡ shown_by_can0 0x98FEF100 (0x23 ∷ 0x5B ∷ []))
    × (line_of (codes "  can0  20000080   [8]  00 00 00 00 00 00 00 00   ERRORFRAME\n")
    ≡ shown_by_can0 0x20000080 (0 ∷ 0 ∷ 0 ∷ 0 ∷ 0 ∷ 0 ∷ 0 ∷ 0 ∷ []))
    × (line_of (codes " 18FEF100   [2]  01 02\n") ≡ says [] [] 0x98FEF100 (1 ∷ 2 ∷ []))
unfolding line_of words_of is_blank is_marked frame_of digit
of_displayed_2 = (refl, refl, refl, refl)

-- a frame alone
of_bare : (line_of (codes "18FEF100#0102030405060708\n") ≡ says [] [] 0x98FEF100 (1 ∷ 2 ∷ 3 ∷ 4 ∷ 5 ∷ 6 ∷ 7 ∷ 8 ∷ []))
    × (line_of (codes "123#R3\n") ≡ says [] [] 0x40000123 (0 ∷ 0 ∷ 0 ∷ []))
    × (line_of (codes "123#\n") ≡ says [] [] 0x123 [])
unfolding line_of words_of is_blank is_marked frame_of digit
of_bare = (refl, refl, refl)

-- other times, blanks, ends, digits and spellings
of_others_1 : (line_of (codes "(1763800000.249713) 18FEF100#01\n") ≡ says (codes "(1763800000.249713)") [] 0x98FEF100 (1 ∷ []))
    × (line_of (codes "can0 18FEF100#01\n") ≡ shown_by_can0 0x98FEF100 (1 ∷ []))
    × (line_of (codes "(1763800000.249713) can0 18fef100#deadbeef\n")
    ≡ logged_by_can0 0x98FEF100 (0xDE ∷ 0xAD ∷ 0xBE ∷ 0xEF ∷ []))
    × (line_of (codes "(1763800000.249713) can0 18FEF100#r4\n") ≡ logged_by_can0 0xD8FEF100 (0 ∷ 0 ∷ 0 ∷ 0 ∷ []))
    × (line_of (codes "(1763800000.249713) can0 18FEF100#01.02.03\n") ≡ logged_by_can0 0x98FEF100 (1 ∷ 2 ∷ 3 ∷ []))
    × (line_of (codes "(1763800000.249713) can0 18FEF100#01.0203.04\n") ≡ logged_by_can0 0x98FEF100 (1 ∷ 2 ∷ 3 ∷ 4 ∷ []))
    × (line_of (codes "(1763800000.249713) can0 18FEF100#R0\n") ≡ logged_by_can0 0xD8FEF100 [])
    × (line_of (codes "(1763800000.249713) can0 123#1122334455667788_B\n")
    ≡ logged_by_can0 0x123 (0x11 ∷ 0x22 ∷ 0x33 ∷ 0x44 ∷ 0x55 ∷ 0x66 ∷ 0x77 ∷ 0x88 ∷ []))
    × (line_of (codes "(1763800000.249713) can0 123#R8_E\n") ≡ logged_by_can0 0x40000123 (0 ∷ 0 ∷ 0 ∷ 0 ∷ 0 ∷ 0 ∷ 0 ∷ 0 ∷ []))
    × (line_of (codes "(1763800000.249713) can0 18FEF100#01\r\n") ≡ logged_by_can0 0x98FEF100 (1 ∷ []))
unfolding line_of words_of is_blank is_marked frame_of digit
of_others_1 = (refl, refl, refl, refl, refl, refl, refl, refl, refl, refl)

of_others_2 : (line_of (codes "(1763800000.249713) can0 18FEF100#01") ≡ logged_by_can0 0x98FEF100 (1 ∷ []))
    × (line_of (codes "(1763800000.249713) can0 18FEF100#01\r") ≡ logged_by_can0 0x98FEF100 (1 ∷ []))
    × (line_of (codes "(1763800000.249713) \tcan0\t18FEF100#01\tR\n") ≡ logged_by_can0 0x98FEF100 (1 ∷ []))
    × (line_of (codes "  (1763800000.249713) can0 18FEF100#01\n") ≡ logged_by_can0 0x98FEF100 (1 ∷ []))
    × (line_of (codes "(1763800000.249713) can0 18FEF100#01   \n") ≡ logged_by_can0 0x98FEF100 (1 ∷ []))
    × (line_of (codes "(1763800000) can0 18FEF100#01\n") ≡ says (codes "(1763800000)") (codes "can0") 0x98FEF100 (1 ∷ []))
    × (line_of (codes "(1763800000.249) can0 18FEF100#01\n")
    ≡ says (codes "(1763800000.249)") (codes "can0") 0x98FEF100 (1 ∷ []))
    × (line_of (codes "(1763800000.249713123) can0 18FEF100#01\n")
    ≡ says (codes "(1763800000.249713123)") (codes "can0") 0x98FEF100 (1 ∷ []))
    × (line_of (codes "(-1.5) can0 18FEF100#01\n") ≡ says (codes "(-1.5)") (codes "can0") 0x98FEF100 (1 ∷ []))
    × (line_of (codes "() can0 18FEF100#01\n") ≡ says (codes "()") (codes "can0") 0x98FEF100 (1 ∷ []))
unfolding line_of words_of is_blank is_marked frame_of digit
of_others_2 = (refl, refl, refl, refl, refl, refl, refl, refl, refl, refl)

of_others_3 : (line_of (codes "(1763800000.249713)can0 18FEF100#01\n") ≡ logged_by_can0 0x98FEF100 (1 ∷ []))
    × (line_of (codes "(1763800000.249713) averyveryverylonginterfacename 18FEF100#01\n")
    ≡ says (codes "(1763800000.249713)") (codes "averyveryverylonginterfacename") 0x98FEF100 (1 ∷ []))
    × (line_of (codes "(1763800000.249713) 0 18FEF100#01\n")
    ≡ says (codes "(1763800000.249713)") (codes "0") 0x98FEF100 (1 ∷ []))
    × (line_of (codes "(1763800000.249713) can" ++ 233 ∷ codes " 18FEF100#01\n")
    ≡ says (codes "(1763800000.249713)") (codes "can" ++ 233 ∷ []) 0x98FEF100 (1 ∷ []))
unfolding line_of words_of is_blank is_marked frame_of digit
of_others_3 = (refl, refl, refl, refl)

-- what stands behind a frame
of_read_over : (line_of (codes "(1763800000.249713) can0 18FEF100#01 ; brake\n") ≡ logged_by_can0 0x98FEF100 (1 ∷ []))
    × (line_of (codes "(1763800000.249713) can0 18FEF100#01 # brake\n") ≡ logged_by_can0 0x98FEF100 (1 ∷ []))
    × (line_of (codes "(1763800000.249713) can0 18FEF100#01 A<18FEF100>\n") ≡ logged_by_can0 0x98FEF100 (1 ∷ []))
unfolding line_of words_of is_blank is_marked frame_of digit
of_read_over = (refl, refl, refl)

-- nothing
of_silent : (line_of (codes "\n") ≡ Ok None)
    × (line_of (codes "   \n") ≡ Ok None)
    × (line_of (codes "# comment\n") ≡ Ok None)
unfolding line_of words_of is_blank is_marked frame_of digit
of_silent = (refl, refl, refl)

-- 101
of_can_fd : (line_of (codes "(1763800000.249713) can0 123##1112233\n") ≡ Err CanFd)
    × (line_of (codes "(1763800000.249713) can0 18FEF100##0\n") ≡ Err CanFd)
    × (line_of (codes "(1763800000.249713) can0 18FEF100##1010101010101010101010101 R\n") ≡ Err CanFd)
    × (line_of (codes "  can0  TX B E  18FEF100  [02]  01 02\n") ≡ Err CanFd)
    × (line_of (codes "  can0  123  [12]  00 01 02 03 04 05 06 07 08 09 0A 0B\n") ≡ Err CanFd)
unfolding line_of words_of is_blank is_marked frame_of digit
of_can_fd = (refl, refl, refl, refl, refl)

-- 102
of_open_time : line_of (codes "(1763800000.249713 can0 18FEF100#01\n") ≡ Err OpenTime
unfolding line_of words_of is_blank is_marked frame_of digit
of_open_time = refl

-- 103
of_no_frame_1 : (line_of (codes "\tcontroller-problem{}\n") ≡ Err NoFrame)
    × (line_of (codes "(1763800000.249713) can0 18FEF100\n") ≡ Err NoFrame)
    × (line_of (codes "(1763800000.249713) can0\n") ≡ Err NoFrame)
    × (line_of (codes "(1763800000.249713) \n") ≡ Err NoFrame)
    × (line_of (codes "// comment\n") ≡ Err NoFrame)
    × (line_of (codes "; comment\n") ≡ Err NoFrame)
    × (line_of (codes "date Fri Jul 10 06:17:32.249 AM 2015\n") ≡ Err NoFrame)
    × (line_of (codes "   0.000000 1  18FEF100x       Rx   d 1 01\n") ≡ Err NoFrame)
    × (line_of (codes " 0.000000 1  18FEF100x       Rx   d 8 01 02 03 04 05 06 07 08 \n") ≡ Err NoFrame)
    × (line_of (codes "1763800000.249713,0x18fef100,1,0,0,8,AQIDBAUGBwg=\n") ≡ Err NoFrame)
unfolding line_of words_of is_blank is_marked frame_of digit
of_no_frame_1 = (refl, refl, refl, refl, refl, refl, refl, refl, refl, refl)

of_no_frame_2 : (line_of (codes "      0         0.000 DT  1 18FEF100 Rx -  8    01 02 03 04 05 06 07 08 \n") ≡ Err NoFrame)
    × (line_of (codes "t18FEF1001 01\n") ≡ Err NoFrame)
unfolding line_of words_of is_blank is_marked frame_of digit
of_no_frame_2 = (refl, refl)

-- 104
of_words_before : (line_of (codes "(1763800000.249713) can0 18FEF100 #01\n") ≡ Err WordsBefore)
    × (line_of (codes "(1763800000.249713) a b 18FEF100#01\n") ≡ Err WordsBefore)
    × (line_of (codes "1763800000.249713 can0 18FEF100#01\n") ≡ Err WordsBefore)
unfolding line_of words_of is_blank is_marked frame_of digit
of_words_before = (refl, refl, refl)

-- 105
of_digits_behind : (line_of (codes "  can0  18FEF100   [2]  01 02 03\n") ≡ Err DigitsBehind)
    × (line_of (codes "(1763800000.249713) can0 18FEF100#01 02 03\n") ≡ Err DigitsBehind)
    × (line_of (codes "(1763800000.249713) can0 18FEF100# 01\n") ≡ Err DigitsBehind)
unfolding line_of words_of is_blank is_marked frame_of digit
of_digits_behind = (refl, refl, refl)

-- 106
of_no_digit : (line_of (codes "  can0   [1]  01\n") ≡ Err NoDigit)
    × (line_of (codes "(1763800000.249713) can0 18FEF100#01G2\n") ≡ Err NoDigit)
    × (line_of (codes "(1763800000.249713) can0 1G8#01\n") ≡ Err NoDigit)
    × (line_of (codes "(1763800000.249713) can0 18FEF100#0102" ++ 0 ∷ codes "\n") ≡ Err NoDigit)
unfolding line_of words_of is_blank is_marked frame_of digit
of_no_digit = (refl, refl, refl, refl)

-- 107
of_bad_digits : (line_of (codes "  can0  8FEF100   [1]  01\n") ≡ Err BadDigits)
    × (line_of (codes "(1763800000.249713) can0 8FEF100#01\n") ≡ Err BadDigits)
    × (line_of (codes "(1763800000.249713) can0 12#01\n") ≡ Err BadDigits)
    × (line_of (codes "(1763800000.249713) can0 0123#01\n") ≡ Err BadDigits)
    × (line_of (codes "(1763800000.249713) can0 018FEF100#01\n") ≡ Err BadDigits)
    × (line_of (codes "(1763800000.249713) can0 #01\n") ≡ Err BadDigits)
    × (line_of (codes "(1763800000.249713) can0 45123#81:00:12345678#11223344.556677\n") ≡ Err BadDigits)
unfolding line_of words_of is_blank is_marked frame_of digit
of_bad_digits = (refl, refl, refl, refl, refl, refl, refl)

-- 108
of_wide_id : (line_of (codes "(1763800000.249713) can0 800#01\n") ≡ Err WideId)
    × (line_of (codes "(1763800000.249713) can0 FFF#01\n") ≡ Err WideId)
    × (line_of (codes "(1763800000.249713) can0 40000000#01\n") ≡ Err WideId)
    × (line_of (codes "(1763800000.249713) can0 98FEF100#01\n") ≡ Err WideId)
    × (line_of (codes "(1763800000.249713) can0 FFFFFFFF#01\n") ≡ Err WideId)
unfolding line_of words_of is_blank is_marked frame_of digit
of_wide_id = (refl, refl, refl, refl, refl)

-- 109
of_odd_digits : (line_of (codes "(1763800000.249713) can0 18FEF100#0\n") ≡ Err OddDigits)
    × (line_of (codes "(1763800000.249713) can0 18FEF100#010\n") ≡ Err OddDigits)
    × (line_of (codes "(1763800000.249713) can0 18FEF100#01020304050607080\n") ≡ Err OddDigits)
    × (line_of (codes "(1763800000.249713) can0 18FEF100#.01\n") ≡ Err OddDigits)
    × (line_of (codes "(1763800000.249713) can0 18FEF100#01.\n") ≡ Err OddDigits)
    × (line_of (codes "(1763800000.249713) can0 18FEF100#01..02\n") ≡ Err OddDigits)
    × (line_of (codes "(1763800000.249713) can0 18FEF100#0.1\n") ≡ Err OddDigits)
unfolding line_of words_of is_blank is_marked frame_of digit
of_odd_digits = (refl, refl, refl, refl, refl, refl, refl)

-- 110
of_bad_length : (line_of (codes "  can0  18FEF100   [2]  00000001 00000010\n") ≡ Err BadLength)
    × (line_of (codes "  can0  18FEF100   [2]  02`01\n") ≡ Err BadLength)
    × (line_of (codes "  can0  18FEF100   [3]  01 02\n") ≡ Err BadLength)
    × (line_of (codes "  can0  18FEF100   [9]  01 02 03 04 05 06 07 08 09\n") ≡ Err BadLength)
    × (line_of (codes "(1763800000.249713) can0 18FEF100#010203040506070809\n") ≡ Err BadLength)
unfolding line_of words_of is_blank is_marked frame_of digit
of_bad_length = (refl, refl, refl, refl, refl)

-- 111
of_bad_remote : (line_of (codes "(1763800000.249713) can0 20000080#R\n") ≡ Err BadRemote)
    × (line_of (codes "(1763800000.249713) can0 18FEF100#R9\n") ≡ Err BadRemote)
    × (line_of (codes "(1763800000.249713) can0 18FEF100#R33\n") ≡ Err BadRemote)
    × (line_of (codes "(1763800000.249713) can0 18FEF100#R3X\n") ≡ Err BadRemote)
unfolding line_of words_of is_blank is_marked frame_of digit
of_bad_remote = (refl, refl, refl, refl)

-- 112
of_bad_code : (line_of (codes "(1763800000.249713) can0 123#11_B\n") ≡ Err BadCode)
    × (line_of (codes "(1763800000.249713) can0 123#1122334455667788_8\n") ≡ Err BadCode)
unfolding line_of words_of is_blank is_marked frame_of digit
of_bad_code = (refl, refl)

-- the most octets of a line, and one more
longest : (line_of (replicate 65536 32) ≡ Ok None) × (line_of (replicate 65537 32) ≡ Err LongLine)
unfolding line_of is_blank
longest = (refl, refl)

-- records in digits
of_recorded : (line_of (codes "98FEF100080000000102030405060708\n")
    ≡ says [] [] 0x98FEF100 (1 ∷ 2 ∷ 3 ∷ 4 ∷ 5 ∷ 6 ∷ 7 ∷ 8 ∷ []))
    × (line_of (codes "  000007df03000000 02010C\n") ≡ Err NoFrame)
    × (line_of (codes "000007df0300000002010C") ≡ says [] [] 0x7DF (2 ∷ 1 ∷ 12 ∷ []))
    × (line_of (codes "(1.0) D8EA00F900000000 \r\n") ≡ says (codes "(1.0)") [] 0xD8EA00F9 [])
    × (line_of (codes "can0 98FEF10000000000\n") ≡ Err NoFrame)
    × (line_of (codes "98FEF100000000\n") ≡ Err NoFrame)
    × (line_of (codes "98FEF100000000000\n") ≡ Err OddDigits)
    × (line_of (codes "98FEF1000200000001\n") ≡ Err BadLength)
    × (line_of (codes "98FEF1000900000001020304050607\n") ≡ Err BadLength)
    × (line_of (codes "98FEF10008000000010203040506070809\n") ≡ Err BadLength)
unfolding line_of words_of is_blank is_marked frame_of digit
of_recorded = (refl, refl, refl, refl, refl, refl, refl, refl, refl, refl)
