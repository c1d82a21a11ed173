use Rattle.std.proofs.Common.{◌≡◌, ◌≤◌, vec_capacity, vec_len}
use Rattle.gw_run.proofs.kept.no_copies.Given as goal

abbrev pub invariant-loop-port : goal.invariant-loop-port
invariant-loop-port l = (vec_len l.sinks ≡ l._port) × (l.fn.ports ≤ vec_capacity l.sinks)
