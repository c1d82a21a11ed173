-- Records of LINKTYPE_CAN_SOCKETCAN (link type 227): four octets of the identifier word, the payload
-- length, three octets that are carried unchanged, and the payload.
use Rattle.std.specs.Prelude.{ℕ, ◌+◌, ◌-◌, ◌<◌, ◌≤◌, nat_lt, if◌then◌else◌, List, length, take, drop, slice_index, Option, Some}
use Rattle.std.specs.Prelude.{None}
use Rattle.byteorder.specs.Endian.{big_number}
use Rattle.gw_frame.specs.declared.refusal.FrameRefusal.{FrameRefusal}
use Rattle.gw_frame.specs.declared.refusal.FrameRefusal.TheVariants.{TooShort, TooLong, BadLength, PayloadCut}

-- what octet 4 says of the payload
abbrev pub payload_length : List ℕ → ℕ
payload_length octets = slice_index octets 4

-- the identifier word, with its flags
abbrev pub word_of : List ℕ → ℕ
word_of octets = big_number 4 octets

-- the payload, without the padding after it
abbrev pub payload_of : List ℕ → List ℕ
payload_of octets = take (payload_length octets) (drop 8 octets)

pub record IsRecord (octets : List ℕ) : Type 0 where
  pub octets_fit : (i : ℕ) → slice_index octets i < 256
  pub not_short : 8 ≤ length octets
  pub not_long : length octets ≤ 16
  pub length_fits : payload_length octets ≤ 8
  pub not_cut : 8 + payload_length octets ≤ length octets

-- why octets are no record: the first of these that holds, with the numbers that it tells
abbrev pub refusal_of : List ℕ → Option FrameRefusal
refusal_of octets =
    if nat_lt (length octets) 8 then Some (TooShort (length octets))
    else if nat_lt 16 (length octets) then Some (TooLong (length octets))
    else if nat_lt 8 (payload_length octets) then Some (BadLength (payload_length octets))
    else if nat_lt (length octets) (8 + payload_length octets) then Some (PayloadCut (payload_length octets) (length octets - 8))
    else None

-- the number by which a refusal is told
abbrev pub refusal_number : FrameRefusal → ℕ
refusal_number (TooShort len) = 1
refusal_number (TooLong len) = 2
refusal_number (BadLength said) = 3
refusal_number (PayloadCut said there) = 4
