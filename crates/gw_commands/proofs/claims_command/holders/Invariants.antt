use Rattle.std.proofs.Common.{◌≡◌, flat_map, string_bytes}
use Rattle.std.specs.List.{range_with_len}
use Rattle.gw_commands.specs.ClaimLines.{line_at}
use Rattle.gw_commands.proofs.claims_command.holders.Given as goal

abbrev pub invariant-loop-address : goal.invariant-loop-address
invariant-loop-address l = string_bytes l.text ≡ flat_map (line_at l.claims) (range_with_len 0 l.address)
