use Rattle.std.proofs.Common.{◌≡◌, ◌≤◌, ◌*◌, ◌^◌, take, sum_by}
use Rattle.gw_ledger.proofs.balancing.placed_in.Given as goal

abbrev pub invariant-loop-ledger : goal.invariant-loop-ledger
invariant-loop-ledger l = record {
  placed : l.placed ≡ sum_by (λ ledger. ledger.placed) (take l.ledger-index l.ins);
  bound : l.placed ≤ l.ledger-index * 2 ^ 64;
}
