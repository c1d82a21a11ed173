use Rattle.std.proofs.Common.{◌≡◌, ◌++◌, length, map, take, drop}
use Rattle.gw_core.specs.Renewing.{renewed}
use Rattle.gw_core.proofs.renewing.renew_all.Given as goal

abbrev pub invariant-loop-port : goal.invariant-loop-port
invariant-loop-port l = record {
  items : l.workers.items ≡ map renewed (take l.port l.fn.workers.items) ++ drop l.port l.fn.workers.items;
  long : length l.workers.items ≡ length l.fn.workers.items;
}
