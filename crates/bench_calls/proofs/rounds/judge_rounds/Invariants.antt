use Rattle.std.proofs.Common.{◌≡◌, map}
use Rattle.gw_table.specs.Table.{table_passes}
use Rattle.bench_calls.specs.Calls.{after}
use Rattle.bench_calls.proofs.rounds.judge_rounds.Given as goal

abbrev pub invariant-loop : goal.invariant-loop
invariant-loop l = l.verdicts ≡ after l.counter l.initial.verdicts (map (λ octets. table_passes l.table octets 0) l.frames)
