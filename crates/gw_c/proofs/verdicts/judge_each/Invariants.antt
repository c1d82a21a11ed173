use Rattle.std.proofs.Common.{◌≡◌, map, take}
use Rattle.gw_c.specs.Verdicts.{judged}
use Rattle.gw_c.proofs.verdicts.judge_each.Given as goal

abbrev pub invariant-loop-i : goal.invariant-loop-i
invariant-loop-i l = take l.i l.verdicts ≡ map (λ can. judged l.policy can l.port) (take l.i l.frames)
