-- To which ports a frame is allowed.
use Rattle.std.proofs.Common.{◌≡◌, ℕ, ◌<◌, Bool, true, false, List, sym, ap, ◌∙◌}
use Rattle.std.proofs.Common.{arith}
use Rattle.std.proofs.Common.{◌≢◌, ◌&&◌, ◌==◌, nat_lt, not, IsTrue}
use Rattle.std.proofs.lemmas.Bool.{and_parts, eq-eqb, false≢true}
use Rattle.std.proofs.lemmas.Bool.Decides.{nat_tests}
use Rattle.gw_policy.specs.Batches.{Pair, passes, in_force}
use Rattle.gw_policy.specs.Allowed.{allowed_ports, may_leave}
use Rattle.gw_ledger.specs.Ports.{has_port}
use Rattle.gw_ledger.proofs.Callers.{has_port-ports_below}

-- a port to which a frame is allowed is another port of the gateway
pub allowed_elsewhere : (ports own : ℕ) (local : Bool) (batches : List (List Pair)) (octets : List ℕ) (port : ℕ)
    → IsTrue (has_port port (allowed_ports ports local batches own octets)) → (port < ports) × (port ≢ own)
allowed_elsewhere ports own true batches octets port has = absurd (false≢true has)
allowed_elsewhere ports own false batches octets port has =
    let test : ℕ → Bool = may_leave batches own octets in
    let split : (nat_lt port ports && test port) ≡ true = sym (has_port-ports_below ports port test) ∙ has in
    let parts = and_parts (nat_lt port ports) (test port) split in
    let apart = and_parts (not (port == own)) (passes (in_force port batches) octets own) parts.1 in
    let below : nat_lt port ports ≡ true = parts.0 in
    let other : not (port == own) ≡ true = apart.0 in
    (grind (arith, nat_tests), λ same. false≢true (sym (ap not (eq-eqb port own same)) ∙ other))
