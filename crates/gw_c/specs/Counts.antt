-- What C is told of a gateway's counters.
use Rattle.std.specs.Prelude.{◌≡◌, ℕ, ◌||◌, nat_le, if◌then◌else◌, List, length, slice_index}
use Rattle.gw_ledger.specs.Bounds.{Bounds}
use Rattle.gw_ledger.specs.declared.ledger.InLedger.{InLedger}
use Rattle.gw_core.specs.Start.{Heard, begun}
use Rattle.gw_core.specs.Gateway.{Gateway}
use Rattle.gw_core.specs.Events.{accepted, ledger_after, waiting_after, sent_after}
use Rattle.gw_core.specs.declared.event.Event.{Event}
use Rattle.gw_c.specs.declared.counting.CCountersIn.{CCountersIn}
use Rattle.gw_c.specs.declared.counting.CCountersOut.{CCountersOut}

-- 0: the port is there; 72: it is not
abbrev pub port_answer : Bounds → ℕ → ℕ
port_answer limits port = if nat_le limits.ports port then 72 else 0

-- the same of two ports
abbrev pub lane_answer : Bounds → ℕ → ℕ → ℕ
lane_answer limits from to = if nat_le limits.ports from || nat_le limits.ports to then 72 else 0

-- how many copies wait at one port for another after a history
abbrev pub waiting_count : Gateway → Heard → List Event → ℕ → ℕ → ℕ
waiting_count gateway known history from to = length (waiting_after (begun gateway.limits known) from to (accepted
    (begun gateway.limits known) history))

-- what a port counts of the frames taken there that are finished, as C is told it
abbrev pub ingress_told : InLedger → CCountersIn
ingress_told ledger = record {
  taken = ledger.taken;
  local = ledger.local;
  allowed = ledger.allowed;
  placed = ledger.placed;
  lost = ledger.lost;
}

abbrev pub ingress_counters : Gateway → Heard → List Event → ℕ → CCountersIn
ingress_counters gateway known history port = ingress_told (ledger_after (begun gateway.limits known) port (accepted
    (begun gateway.limits known) history))

-- for each ingress port the copies of its frames that were sent at the port
abbrev pub AreEgressCounters : Gateway → Heard → List Event → ℕ → CCountersOut → Type 0
AreEgressCounters gateway known history port counters =
    (from : ℕ) → slice_index counters.sent from
    ≡ sent_after (begun gateway.limits known) from port (accepted (begun gateway.limits known) history)
