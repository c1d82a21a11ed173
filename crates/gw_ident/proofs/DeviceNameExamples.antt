-- Worked examples of the fields of a NAME.
use Rattle.std.proofs.Common.{◌≡◌, ◌^◌, ◌-◌, ℕ, List, [], ◌∷◌, true, false, refl}
use Rattle.gw_ident.specs.DeviceName.{name_value, identity, manufacturer, ecu_instance, function_instance, function, reserved}
use Rattle.gw_ident.specs.DeviceName.{vehicle_system, vehicle_system_instance, industry_group, arbitrary_capable}

abbrev octets : List ℕ
octets = 0x01 ∷ 0x00 ∷ 0x40 ∷ 0x00 ∷ 0x00 ∷ 0x00 ∷ 0x00 ∷ 0x80 ∷ []

value : name_value octets ≡ 0x8000000000400001
value = refl

low_fields : (identity (name_value octets) ≡ 1) × (manufacturer (name_value octets) ≡ 2)
    × (ecu_instance (name_value octets) ≡ 0) × (function_instance (name_value octets) ≡ 0) × (function (name_value octets) ≡ 0)
low_fields = (refl, refl, refl, refl, refl)

high_fields : (reserved (name_value octets) ≡ 0) × (vehicle_system (name_value octets) ≡ 0)
    × (vehicle_system_instance (name_value octets) ≡ 0) × (industry_group (name_value octets) ≡ 0)
    × (arbitrary_capable (name_value octets) ≡ true)
high_fields = (refl, refl, refl, refl, refl)

-- each field at its greatest
abbrev all_ones : ℕ
all_ones = 2 ^ 64 - 1

greatest_low : (identity all_ones ≡ 2097151) × (manufacturer all_ones ≡ 2047) × (ecu_instance all_ones ≡ 7)
    × (function_instance all_ones ≡ 31) × (function all_ones ≡ 255)
greatest_low = (refl, refl, refl, refl, refl)

greatest_high : (reserved all_ones ≡ 1) × (vehicle_system all_ones ≡ 127) × (vehicle_system_instance all_ones ≡ 15)
    × (industry_group all_ones ≡ 7) × (arbitrary_capable 0 ≡ false)
greatest_high = (refl, refl, refl, refl, refl)
