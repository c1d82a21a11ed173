-- Frames of Linux as records.
use Rattle.std.specs.Prelude.{ℕ, ◌-◌, List, ◌∷◌, ◌++◌, length, replicate}
use Rattle.std.specs.Int.{to_be_bytes, w32}
use Rattle.gw_c.specs.declared.can.CanFrame.{CanFrame}

-- the record of LINKTYPE_CAN_SOCKETCAN of a frame: its identifier word big-endian, then the other octets as they lie
abbrev pub record_of : CanFrame → List ℕ
record_of can =
    to_be_bytes w32 can.id ++ can.len ∷ can.pad ∷ can.reserved ∷ can.len8_dlc ∷ can.«data»

-- a record of 8 to 16 octets, with octets of 0 behind it up to sixteen
abbrev pub whole : List ℕ → List ℕ
whole record_octets = record_octets ++ replicate (16 - length record_octets) 0
