-- The table of digits: each octet's value, and 255 of one that is no digit.
use Rattle.std.proofs.Common.{◌≡◌, ℕ, ◌<◌, ◌≤◌, get_or, Option, Some, None, refl, ap, ◌∙◌, arith, map}
use Rattle.std.specs.Prelude.{unwrap_or}
use Rattle.std.specs.List.{range_with_len}
use Rattle.std.proofs.lemmas.List.FromFn.{get_or-map-range_with_len}
use Rattle.hex.specs.Hex.{hex_digit_value}
use Rattle.gw_log.specs.declared.digits.TheConstants.{VALUES}

abbrev value_or_255 : ℕ → ℕ
value_or_255 c = unwrap_or (hex_digit_value c) 255

whole_table : VALUES ≡ map value_or_255 (range_with_len 0 256)
whole_table = refl

pub table_value : (c i : ℕ) → i ≡ c → c < 256 → get_or VALUES i 0 ≡ value_or_255 c
table_value c i same within =
    ap (λ values. get_or values i 0) whole_table
    ∙ get_or-map-range_with_len value_or_255 0 256 i c 0 (omega (arith, same)) (omega (arith, same))

pub some_value : (value : Option ℕ) (n : ℕ) → n ≡ unwrap_or value 255 → n < 16 → Some n ≡ value
some_value (Some v) n is small = ap Some is
some_value None n is small = absurd (omega (arith, is))

pub no_value : (value : Option ℕ) (n : ℕ) → n ≡ unwrap_or value 255 → 16 ≤ n → unwrap_or value 0 < 16 → None ≡ value
no_value (Some v) n is large small = absurd (omega (arith, is))
no_value None n is large small = refl
