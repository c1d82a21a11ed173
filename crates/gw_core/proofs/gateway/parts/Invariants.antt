use Rattle.std.proofs.Common.{◌≡◌, ℕ, ◌≤◌, [], ◌∷◌, Some, replicate, vec_len}
use Rattle.std.specs.Prelude.{slice_get}
use Rattle.std.specs.Vec.{vec_capacity}
use Rattle.gw_ledger.specs.declared.ledger.OutLedger.{OutLedger}
use Rattle.gw_core.specs.PortHistory.{heard_before}
use Rattle.gw_core.specs.Standing.{Worker, WorkerStands}
use Rattle.gw_core.proofs.gateway.parts.Given as goal

abbrev pub invariant-loop-own : goal.invariant-loop-own
invariant-loop-own l = record {
  workers_room : l.ports ≤ vec_capacity l.workers;
  workers_count : vec_len l.workers ≡ l.own;
  outs_room : l.ports ≤ vec_capacity l.outs;
  outs_count : vec_len l.outs ≡ l.own;
  workers : (p : ℕ) (w : Worker) → slice_get l.workers.items p ≡ Some w
      → (w.limits ≡ l.fn.limits) × (w.own ≡ p) × WorkerStands [] w (heard_before [] ∷ []);
  outs : (q : ℕ) (o : OutLedger) → slice_get l.outs.items q ≡ Some o → o.sent ≡ replicate 16 0;
}
