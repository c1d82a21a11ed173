use Rattle.std.proofs.Common.{◌≡◌, map}
use Rattle.gw_machine.specs.Answers.{answer_of}
use Rattle.bench_calls.specs.Calls.{after}
use Rattle.bench_calls.proofs.rounds.run_rounds.Given as goal

abbrev pub invariant-loop : goal.invariant-loop
invariant-loop l = l.answers ≡ after l.counter l.initial.answers (map (λ octets. answer_of l.program octets 0) l.frames)
