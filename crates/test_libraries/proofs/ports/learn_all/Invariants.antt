use Rattle.std.proofs.Common.{◌≡◌, map}
use Rattle.std.specs.List.{All}
use Rattle.gw_ports.specs.Ends.{end_in}
use Rattle.test_libraries.proofs.ports.learn_all.Given as goal

abbrev pub invariant-loop-index : goal.invariant-loop-index
invariant-loop-index l =
    All (λ port. port.board ≡ l.told.board) l.ports × (map end_in l.ports ≡ map end_in l.initial.ports)
