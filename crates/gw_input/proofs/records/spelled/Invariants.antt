use Rattle.std.proofs.Common.{◌≡◌, ℕ, ◌<◌, true, get_or}
use Rattle.hex.specs.Hex.{is_hex_digit}
use Rattle.gw_input.proofs.records.spelled.Given as goal

abbrev pub invariant-loop-at : goal.invariant-loop-at
invariant-loop-at l = (k : ℕ) → k < l.at → is_hex_digit (get_or l.text k 0) ≡ true
