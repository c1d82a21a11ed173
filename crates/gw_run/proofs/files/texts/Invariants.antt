use Rattle.std.proofs.Common.{◌≡◌, vec_len}
use Rattle.gw_run.proofs.files.texts.Given as goal

abbrev pub invariant-loop-port : goal.invariant-loop-port
invariant-loop-port g l = vec_len l.texts ≡ l.port
