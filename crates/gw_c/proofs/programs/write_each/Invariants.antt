use Rattle.std.proofs.Common.{◌≡◌, map, take}
use Rattle.gw_c.specs.Programs.{filter_of}
use Rattle.gw_c.proofs.programs.write_each.Given as goal

abbrev pub invariant-loop-i : goal.invariant-loop-i
invariant-loop-i l = take l.i l.code ≡ map filter_of (take l.i l.insns)
