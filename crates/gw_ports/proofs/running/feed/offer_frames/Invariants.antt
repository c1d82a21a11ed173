use Rattle.gw_ports.proofs.Feeding.{HasOffered}
use Rattle.gw_ports.proofs.running.feed.offer_frames.Given as goal

abbrev pub invariant-loop-frame : goal.invariant-loop-frame
invariant-loop-frame g l =
    HasOffered g.I.Iterator.remaining g.O.Sink.takes g.O.Sink.room l.fn.feed l.yielded l.port l.input l.outcomes
