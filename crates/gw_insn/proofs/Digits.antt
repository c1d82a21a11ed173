-- The decimal digits of a number are a number of a listing.
use Rattle.std.proofs.Common.{ℕ, ◌^◌, ◌<◌, ◌≤◌, arith}
use Rattle.std.proofs.lemmas.Fmt.{decimal_nonempty, length-decimal-le, digits_decimal, digits_value-decimal}
use Rattle.gw_insn.specs.Listing.{IsNumber}
use Rattle.gw_insn.specs.Spelling.{decimal_digits}
use Rattle.gw_insn.proofs.Numbers.{numerals}

-- the digits that are written spell the number
pub decimal_digits-IsNumber : (most n : ℕ) → n ≤ most → most < 10 ^ 10 → IsNumber most (decimal_digits n) n
decimal_digits-IsNumber most n fits short = record {
  some = decimal_nonempty n (omega arith);
  few = length-decimal-le 10 n (omega arith) (omega arith) (omega arith);
  ascii = digits_decimal numerals n (omega arith);
  value = digits_value-decimal numerals n (omega arith);
  fits = fits;
}
