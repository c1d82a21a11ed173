use Rattle.std.proofs.Common.{◌≤◌, length}
use Rattle.gw_text.proofs.parts.past_blanks.Given as goal

abbrev pub invariant-blanks : goal.invariant-blanks
invariant-blanks l = length l.rest ≤ length l.fn.text

abbrev pub decreases-blanks : goal.decreases-blanks
decreases-blanks l = length l.rest
