use Rattle.std.proofs.Common.{arith}
use Rattle.gw_ledger.proofs.PortLists.{length-part}
use Rattle.gw_ledger.proofs.ledger.InLedger.add_outcome.Goals as goal

pub overflow_sub-self : goal.overflow_sub-self
overflow_sub-self c =
    let outcome = c.args.outcome.now in
    let placed = c.len-2.ensures.set in
    let fewer = length-part outcome.placed outcome.allowed placed c.len.ensures.set c.requires.part in
    omega arith
