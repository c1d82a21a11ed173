-- the number so far
use Rattle.std.proofs.Common.{◌≡◌, take}
use Rattle.gw_log.specs.LogFrames.{spelled}
use Rattle.gw_log.proofs.digits.spelled.Given as goal

abbrev pub invariant-loop-c : goal.invariant-loop-c
invariant-loop-c l = l.n ≡ spelled (take l.c-index l.digits)
