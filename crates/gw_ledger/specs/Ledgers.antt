-- What ledgers count, and when they balance.
use Rattle.std.specs.Prelude.{◌≡◌, ℕ, ◌+◌, ◌-◌, ◌<◌, ◌^◌, min, if◌then◌else◌, List, length, sum, sum_by, All}
use Rattle.gw_ledger.specs.declared.ledger.InLedger.{InLedger}
use Rattle.gw_ledger.specs.declared.ledger.OutLedger.{OutLedger}
use Rattle.gw_ledger.specs.declared.outcome.Outcome.{Outcome}

-- one more frame can be counted
pub record HasRoom (ledger : InLedger) : Type 0 where
  pub taken : ledger.taken < 4294967295
  pub local : ledger.local < 2 ^ 60
  pub allowed : ledger.allowed < 2 ^ 60
  pub placed : ledger.placed < 2 ^ 60
  pub lost : ledger.lost < 2 ^ 60

-- the ledger once a frame is finished
abbrev pub ledger_with : InLedger → Outcome → InLedger
ledger_with ledger outcome = record {
  taken = ledger.taken + 1;
  local = ledger.local + (if outcome.local then 1 else 0);
  allowed = ledger.allowed + length outcome.allowed;
  placed = ledger.placed + length outcome.placed;
  lost = ledger.lost + (length outcome.allowed - length outcome.placed);
}

-- a count once one more copy was sent
abbrev pub count_after : ℕ → ℕ
count_after count = min (count + 1) (2 ^ 64 - 1)

-- all that was allowed was placed or lost, and all that was placed was sent or is left
pub record AreBalanced (ins : List InLedger) (outs : List OutLedger) (left : ℕ) : Type 0 where
  pub allowed : All (λ ledger. ledger.allowed ≡ ledger.placed + ledger.lost) ins
  pub placed : sum_by (λ ledger. ledger.placed) ins ≡ sum_by (λ ledger. sum ledger.sent) outs + left
