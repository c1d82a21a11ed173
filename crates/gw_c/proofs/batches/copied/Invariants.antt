use Rattle.std.proofs.Common.{◌≡◌, take}
use Rattle.gw_c.proofs.batches.copied.Given as goal

abbrev pub invariant-loop-index : goal.invariant-loop-index
invariant-loop-index l = l.copy ≡ take l.index l.batch
