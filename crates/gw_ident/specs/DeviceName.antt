-- The fields of a NAME, from bit 0 up: SAE J1939-81, NAME.
use Rattle.std.specs.Prelude.{ℕ, ◌/◌, ◌%◌, ◌^◌, Bool, ◌==◌, List}
use Rattle.byteorder.specs.Endian.{little_number}

-- the 64 bits of a NAME, of which the first octet is the least significant
abbrev pub name_value : List ℕ → ℕ
name_value octets = little_number 8 octets

-- so many bits, from the given one up
abbrev pub bits_of : ℕ → ℕ → ℕ → ℕ
bits_of name first count = (name / 2 ^ first) % 2 ^ count

abbrev pub identity : ℕ → ℕ
identity name = bits_of name 0 21

abbrev pub manufacturer : ℕ → ℕ
manufacturer name = bits_of name 21 11

abbrev pub ecu_instance : ℕ → ℕ
ecu_instance name = bits_of name 32 3

abbrev pub function_instance : ℕ → ℕ
function_instance name = bits_of name 35 5

abbrev pub function : ℕ → ℕ
function name = bits_of name 40 8

abbrev pub reserved : ℕ → ℕ
reserved name = bits_of name 48 1

abbrev pub vehicle_system : ℕ → ℕ
vehicle_system name = bits_of name 49 7

abbrev pub vehicle_system_instance : ℕ → ℕ
vehicle_system_instance name = bits_of name 56 4

abbrev pub industry_group : ℕ → ℕ
industry_group name = bits_of name 60 3

-- the device can take another address than the one that it claims first
abbrev pub arbitrary_capable : ℕ → Bool
arbitrary_capable name = bits_of name 63 1 == 1
