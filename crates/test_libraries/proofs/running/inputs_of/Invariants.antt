use Rattle.std.proofs.Common.{◌≡◌, vec_len}
use Rattle.test_libraries.proofs.running.inputs_of.Given as goal

abbrev pub invariant-loop-count : goal.invariant-loop-count
invariant-loop-count l = vec_len l.inputs ≡ l.count-index
