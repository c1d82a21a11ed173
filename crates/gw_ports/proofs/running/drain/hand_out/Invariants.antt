use Rattle.std.proofs.Common.{◌-◌, length, take}
use Rattle.gw_ports.specs.Sinks.{Handed, HasRoomFor}
use Rattle.gw_ports.proofs.running.drain.hand_out.Given as goal

abbrev pub invariant-loop-index : goal.invariant-loop-index
invariant-loop-index g l =
    Handed g.C.Sink.takes l.fn.out (take l.index l.copies) l.out × HasRoomFor (g.C.Sink.room l.out) (length l.copies - l.index)
