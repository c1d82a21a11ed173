use Rattle.std.proofs.Common.{sym, subst, arith}
use Rattle.gw_ledger.proofs.Callers.{length-part}
use Rattle.gw_ledger.specs.declared.ledger.InLedger.{InLedger}
use Rattle.gw_ports.specs.Ends.{IsCounted}
use Rattle.gw_ports.proofs.Counting.{one_more_frame}
use Rattle.gw_ports.proofs.port_in.offer.count.Goals as goal

pub returns-clause-counted : goal.returns-clause-counted
returns-clause-counted c =
    let outcome = c.args.outcome.now in
    let part = length-part outcome.placed outcome.allowed c.len-2.ensures.set c.len.ensures.set c.requires.part in
    let few = c.len.ensures.most in
    let same = c.len.ensures.len in
    subst (λ (ledger : InLedger). IsCounted ledger c.args.frames) (sym c.add_outcome.ensures)
    (one_more_frame c.args.ledger.now outcome c.args.frames c.requires.counted c.requires.room (omega arith) part)
