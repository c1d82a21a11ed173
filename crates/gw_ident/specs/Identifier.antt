-- The fields of an extended identifier word: SAE J1939-21, protocol data unit (priority, extended data page, data page,
-- PDU format, PDU specific, source address). The flags above the 29 bits are those of LINKTYPE_CAN_SOCKETCAN.
use Rattle.std.specs.Prelude.{ℕ, ◌+◌, ◌*◌, ◌/◌, ◌%◌, ◌^◌, Bool, ◌==◌, nat_lt, if◌then◌else◌, Option, Some, None}

-- the 29 bits of the identifier
abbrev pub identifier : ℕ → ℕ
identifier word = word % 2 ^ 29

abbrev pub priority : ℕ → ℕ
priority word = identifier word / 2 ^ 26

-- the extended data page and the data page, as one number of two bits
abbrev pub page : ℕ → ℕ
page word = (identifier word / 2 ^ 24) % 4

abbrev pub extended_data_page : ℕ → ℕ
extended_data_page word = page word / 2

abbrev pub data_page : ℕ → ℕ
data_page word = page word % 2

abbrev pub pdu_format : ℕ → ℕ
pdu_format word = (identifier word / 2 ^ 16) % 256

abbrev pub pdu_specific : ℕ → ℕ
pdu_specific word = (identifier word / 2 ^ 8) % 256

abbrev pub source_address : ℕ → ℕ
source_address word = identifier word % 256

-- PDU1: the PDU specific field is a destination address. PDU2: it is a group extension.
abbrev pub is_pdu1 : ℕ → Bool
is_pdu1 word = nat_lt (pdu_format word) 240

-- the parameter group number
abbrev pub parameter_group : ℕ → ℕ
parameter_group word =
    65536 * page word + 256 * pdu_format word + (if is_pdu1 word then 0 else pdu_specific word)

-- of the three flags above the identifier the extended one alone: a data frame with 29 bits
abbrev pub is_extended_data : ℕ → Bool
is_extended_data word = word / 2 ^ 29 == 4

-- a PDU2 frame goes to everyone, which is address 255
abbrev pub destination_address : ℕ → ℕ
destination_address word = if is_pdu1 word then pdu_specific word else 255

-- no other frame has a destination
abbrev pub destination : ℕ → Option ℕ
destination word = if is_extended_data word then Some (destination_address word) else None
