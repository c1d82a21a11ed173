use Rattle.std.proofs.Common.{◌≡◌, drop, map}
use Rattle.std.specs.List.{filter_map}
use Rattle.gw_text.specs.Assembly.{first_of, target_fault, target_faults}
use Rattle.gw_text.specs.Sources.{instruction_view, place_in}
use Rattle.gw_text.proofs.targets.bad_target.Given as goal

abbrev pub invariant-loop-name : goal.invariant-loop-name
invariant-loop-name l =
    first_of (filter_map (target_fault (place_in l.places) l.place (instruction_view l.instruction))
    (map (λ t. t.now) (drop l.name-index l.name-items)))
    ≡ first_of (target_faults (place_in l.places) (l.place, instruction_view l.instruction))
