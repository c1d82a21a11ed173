use Rattle.std.proofs.Common.{length, ◌≡◌, ◌++◌, ◌==◌, ◌+◌, ◌-◌, ◌≤◌, drop, map}
use Rattle.std.specs.List.{position_or_len, slice_split}
use Rattle.gw_text.proofs.lines.lines.Given as goal

abbrev pub invariant-loop-end : goal.invariant-loop-end
invariant-loop-end l = record {
  begins : l.from ≤ length l.text;
  ends : l.end ≡ l.from + position_or_len (λ c. c == 10) (drop l.from l.text);
  within : l.end ≤ length l.text;
  found : map (λ t. t.now) l.lines.items ++ slice_split (λ c. c == 10) (drop l.from l.text) ≡ slice_split (λ c. c == 10) l.text;
}

abbrev pub decreases-loop-end : goal.decreases-loop-end
decreases-loop-end l = length l.text - l.from
