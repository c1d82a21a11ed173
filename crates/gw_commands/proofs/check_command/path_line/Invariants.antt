use Rattle.std.proofs.Common.{◌≡◌, ◌∷◌, ◌++◌, flat_map, take, string_bytes}
use Rattle.std.specs.Prelude.{codes, decimal}
use Rattle.gw_commands.proofs.check_command.path_line.Given as goal

abbrev pub invariant-loop-place : goal.invariant-loop-place
invariant-loop-place l = string_bytes l.line ≡ codes "path" ++ flat_map (λ n. 32 ∷ decimal n) (take l.place-index l.places)
