use Rattle.std.proofs.Common.{subst, sym}
use Rattle.gw_ports.specs.Running.{AllHaveDrained}
use Rattle.gw_ports.proofs.Taking.{drains_on, drains_same}
use Rattle.gw_ports.proofs.running.drain.Drains.empty_lanes.Goals.{in-None, in-Some+then-most-eq0+then-is_last}
use Rattle.gw_ports.proofs.running.drain.Drains.empty_lanes.Goals as goal

pub loop-init : goal.loop-init
loop-init g c = drains_same g.C.Sink.takes c.args.self

pub loop-preserved : goal.loop-preserved
loop-preserved g c =
    drains_on g.C.Sink.takes c.args.self c.loop.drains c.take_rounds-most.new.self c.loop.invariant
    c.take_rounds-most.ensures

pub returns : goal.returns
returns g c = elim c.match-next.branch [
  | in-None w ↦ subst (AllHaveDrained g.C.Sink.takes c.args.self) (sym w.drains-is) c.loop.invariant
  | in-Some+then-most-eq0+then-is_last w ↦
      subst (AllHaveDrained g.C.Sink.takes c.args.self) (sym w.drains-is)
      (drains_on g.C.Sink.takes c.args.self c.loop.drains w.take_rounds-most.new.self c.loop.invariant
      w.take_rounds-most.ensures)
]
