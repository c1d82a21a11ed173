use Rattle.std.proofs.Common.{◌≡◌, ◌++◌, [], drop, map}
use Rattle.std.specs.List.{flat_map, enumerate_from}
use Rattle.gw_text.specs.Assembly.{raw_at, target_faults}
use Rattle.gw_text.specs.Sources.{instruction_view, place_in}
use Rattle.gw_text.proofs.targets.encode.Given as goal

abbrev pub invariant-loop-place : goal.invariant-loop-place
invariant-loop-place l =
    (flat_map (target_faults (place_in l.places)) (enumerate_from l.place (map instruction_view (drop l.place l.instructions)))
    ≡ [])
    × (l.code.items ++ map (raw_at (place_in l.places))
    (enumerate_from l.place (map instruction_view (drop l.place l.instructions)))
    ≡ map (raw_at (place_in l.places)) (enumerate_from 0 (map instruction_view l.instructions)))
