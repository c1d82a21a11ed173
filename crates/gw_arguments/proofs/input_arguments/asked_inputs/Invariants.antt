use Rattle.std.proofs.Common.{◌≡◌, vec_len}
use Rattle.gw_arguments.proofs.input_arguments.asked_inputs.Given as goal

abbrev pub invariant-loop-value : goal.invariant-loop-value
invariant-loop-value l = vec_len l.files ≡ l.ports
