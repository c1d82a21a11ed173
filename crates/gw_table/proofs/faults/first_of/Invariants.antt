use Rattle.std.proofs.Common.{None}
use Rattle.std.specs.Fn.{FnReturnsAt}
use Rattle.std.specs.List.{AllWithin}
use Rattle.gw_table.proofs.faults.first_of.Given as goal

abbrev pub invariant-loop-number : goal.invariant-loop-number
invariant-loop-number g l = AllWithin (λ rule. FnReturnsAt g.F.Fn l.wrong rule None) l.rules 0 l.number
