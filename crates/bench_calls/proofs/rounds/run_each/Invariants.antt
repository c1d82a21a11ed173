use Rattle.std.proofs.Common.{◌≡◌, map, take}
use Rattle.gw_machine.specs.Answers.{answer_of}
use Rattle.bench_calls.proofs.rounds.run_each.Given as goal

abbrev pub invariant-loop-i : goal.invariant-loop-i
invariant-loop-i l = take l.i l.answers ≡ map (λ octets. answer_of l.program octets 0) (take l.i l.frames)
