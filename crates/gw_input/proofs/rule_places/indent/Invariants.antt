use Rattle.std.proofs.Common.{◌≡◌, ℕ, ◌<◌, false, not, get_or}
use Rattle.gw_input.specs.RuleLines.{is_blank}
use Rattle.gw_input.proofs.rule_places.indent.Given as goal

abbrev pub invariant-loop-i : goal.invariant-loop-i
invariant-loop-i l = (k : ℕ) → k < l.i → not (is_blank (get_or l.line k 0)) ≡ false
