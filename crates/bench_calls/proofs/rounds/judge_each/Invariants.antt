use Rattle.std.proofs.Common.{◌≡◌, map, take}
use Rattle.gw_table.specs.Table.{table_passes}
use Rattle.bench_calls.proofs.rounds.judge_each.Given as goal

abbrev pub invariant-loop-i : goal.invariant-loop-i
invariant-loop-i l = take l.i l.verdicts ≡ map (λ octets. table_passes l.table octets 0) (take l.i l.frames)
