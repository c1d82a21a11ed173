use Rattle.std.proofs.Common.{◌≡◌, ◌++◌}
use Rattle.j1939_gateway.specs.PortEnds.{end_out}
use Rattle.example_calling.specs.Threads.{taken_out}
use Rattle.example_calling.proofs.threads.take_out.Given as goal

abbrev pub invariant-loop : goal.invariant-loop
invariant-loop g l =
    (taken_out l.port ≡ taken_out l.initial.port ++ l.copies.items) × (end_out l.port ≡ end_out l.initial.port)
