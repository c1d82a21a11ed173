use Rattle.std.proofs.Common.{◌≡◌, ◌≤◌, ◌*◌, ◌^◌, take, sum}
use Rattle.gw_ledger.proofs.balancing.sent_by.Given as goal

abbrev pub invariant-loop-count : goal.invariant-loop-count
invariant-loop-count l = record {
  sent : l.sent ≡ sum (take l.count-index l.count-items);
  bound : l.sent ≤ l.count-index * 2 ^ 64;
}
