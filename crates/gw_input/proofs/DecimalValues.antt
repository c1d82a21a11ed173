-- Numbers in decimal digits.
use Rattle.std.proofs.Common.{ℕ, ◌≡◌, ◌<◌, ◌≤◌, List, length, Some, true, refl, arith}
use Rattle.std.specs.Prelude.{nat_lt, nat_le}
use Rattle.std.specs.Char.{is_ascii_digit}
use Rattle.std.specs.List.{list_all}
use Rattle.std.proofs.lemmas.Bool.Decides.{nat_tests}
use Rattle.gw_insn.specs.Listing.{decimal}
use Rattle.gw_input.specs.Words.{number_in}

-- a word of 1 to 10 digits is a number up to a greatest one
pub number_there : (most : ℕ) (word : List ℕ) → 0 < length word → length word ≤ 10 → list_all is_ascii_digit word ≡ true
    → decimal word ≤ most
    → number_in most word ≡ Some (decimal word)
number_there most word some few digits fits =
    let more : nat_lt 0 (length word) ≡ true = grind (arith, nat_tests) in
    let less : nat_le (length word) 10 ≡ true = grind (arith, nat_tests) in
    let within : nat_le (decimal word) most ≡ true = grind (arith, nat_tests) in
    rw (more, less, digits, within) refl
