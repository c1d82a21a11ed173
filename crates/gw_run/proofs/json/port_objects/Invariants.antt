use Rattle.std.proofs.Common.{◌≡◌, map, string_bytes}
use Rattle.std.specs.List.{range_with_len}
use Rattle.gw_run.specs.Forwarding.{object_of}
use Rattle.gw_run.proofs.json.port_objects.Given as goal

abbrev pub invariant-loop-port : goal.invariant-loop-port
invariant-loop-port l = map string_bytes l.objects.items ≡ map (object_of l.ledgers) (range_with_len 0 l.port)
