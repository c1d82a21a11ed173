use Rattle.std.proofs.Common.{◌≡◌, drop, map}
use Rattle.std.specs.List.{flat_map, enumerate_from}
use Rattle.gw_text.specs.Assembly.{first_of, target_faults, all_target_faults}
use Rattle.gw_text.specs.Sources.{instruction_view, place_in}
use Rattle.gw_text.proofs.targets.first_bad_target.Given as goal

abbrev pub invariant-loop-place : goal.invariant-loop-place
invariant-loop-place l =
    first_of (flat_map (target_faults (place_in l.places))
    (enumerate_from l.place (map instruction_view (drop l.place l.instructions))))
    ≡ first_of (all_target_faults (place_in l.places) (map instruction_view l.instructions))
