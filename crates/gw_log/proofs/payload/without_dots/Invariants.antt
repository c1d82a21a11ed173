-- the digits so far
use Rattle.std.proofs.Common.{◌≡◌, take}
use Rattle.gw_log.specs.LogFrames.{without_dots}
use Rattle.gw_log.proofs.payload.without_dots.Given as goal

abbrev pub invariant-loop-c : goal.invariant-loop-c
invariant-loop-c l = l.digits.items ≡ without_dots (take l.c-index l.text)
