use Rattle.std.proofs.Common.{◌≡◌, ℕ, ◌<◌, false, not, get_or}
use Rattle.gw_input.specs.Places.{is_opening}
use Rattle.gw_input.proofs.places.openings.Given as goal

abbrev pub invariant-loop-i : goal.invariant-loop-i
invariant-loop-i l = (k : ℕ) → k < l.i → not (is_opening (get_or l.line k 0)) ≡ false
