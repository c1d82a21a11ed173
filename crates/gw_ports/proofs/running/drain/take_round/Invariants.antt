use Rattle.std.proofs.Common.{◌≡◌, List}
use Rattle.gw_ledger.specs.declared.outcome.FrameCopy.{FrameCopy}
use Rattle.gw_ports.specs.Ends.{end_out}
use Rattle.gw_ports.specs.Sending.{Takes}
use Rattle.gw_ports.specs.Sinks.{Handed}
use Rattle.gw_ports.proofs.running.drain.take_round.Given as goal

abbrev pub invariant-loop-ingress : goal.invariant-loop-ingress
invariant-loop-ingress g l =
    (end_out l.port ≡ end_out l.fn.port)
    × ((taken : List FrameCopy) × Takes l.fn.port taken l.port × Handed g.C.Sink.takes l.fn.out taken l.out)
