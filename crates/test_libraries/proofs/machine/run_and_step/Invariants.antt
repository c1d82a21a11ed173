use Rattle.test_libraries.proofs.machine.run_and_step.Given as goal

abbrev pub invariant-loop-code : goal.invariant-loop-code
invariant-loop-code g l =
    (goal.iterator-loop-code g).can_next l.code-iterator ×
    (goal.iterator-loop-code g).is_finite l.code-iterator
