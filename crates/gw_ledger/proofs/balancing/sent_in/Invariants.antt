use Rattle.std.proofs.Common.{◌≡◌, ◌≤◌, ◌*◌, ◌^◌, take, sum, sum_by}
use Rattle.gw_ledger.proofs.balancing.sent_in.Given as goal

abbrev pub invariant-loop-ledger : goal.invariant-loop-ledger
invariant-loop-ledger l = record {
  sent : l.sent ≡ sum_by (λ ledger. sum ledger.sent) (take l.ledger-index l.outs);
  bound : l.sent ≤ l.ledger-index * (16 * 2 ^ 64);
}
