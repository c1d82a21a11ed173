use Rattle.std.proofs.Common.{◌≡◌, vec_len}
use Rattle.test_libraries.proofs.made.raws.Given as goal

abbrev pub invariant-loop-row : goal.invariant-loop-row
invariant-loop-row l = vec_len l.code ≡ l.row-index
