use Rattle.std.proofs.Common.{length, ◌-◌, ◌≡◌, ◌+◌, ◌≤◌, ◌==◌, drop, not}
use Rattle.std.specs.List.{prefix_len}
use Rattle.gw_text.proofs.lines.line_end.Given as goal

abbrev pub invariant-loop-end : goal.invariant-loop-end
invariant-loop-end l =
    (l.end ≤ length l.text)
    × (l.end + prefix_len (λ c. not (c == 10)) (drop l.end l.text) ≡ l.from
    + prefix_len (λ c. not (c == 10)) (drop l.from l.text))

abbrev pub decreases-loop-end : goal.decreases-loop-end
decreases-loop-end l = length l.text - l.end
