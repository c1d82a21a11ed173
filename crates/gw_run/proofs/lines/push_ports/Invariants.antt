use Rattle.std.proofs.Common.{◌≡◌, ◌++◌, flat_map, string_bytes}
use Rattle.std.specs.List.{range_with_len}
use Rattle.gw_run.specs.Forwarding.{line_of}
use Rattle.gw_run.proofs.lines.push_ports.Given as goal

abbrev pub invariant-loop-port : goal.invariant-loop-port
invariant-loop-port l =
    string_bytes l.text ≡ string_bytes l.fn.text ++ flat_map (line_of l.ledgers) (range_with_len 0 l.port)
