use Rattle.std.proofs.Common.{◌==◌, [], Ok, if◌then◌else◌, take}
use Rattle.std.specs.List.{flat_map}
use Rattle.gw_io.specs.Tries.{inner_of, has_failed}
use Rattle.gw_judge.specs.Egress.{egress_line}
use Rattle.gw_judge.specs.UnderWay.{Puts}
use Rattle.gw_judge.proofs.egress.put_lines.Given as goal

abbrev pub invariant-loop-named : goal.invariant-loop-named
invariant-loop-named g l =
    Puts {A = Unit {0}} (g.W.Write.contents (inner_of l.fn.writer)) (g.W.Write.contents (inner_of l.writer)) (has_failed l.writer)
    l.fn.gathered.held.items
    (flat_map (λ named. if named.port == l.port then egress_line l.said named.name.now else []) (take l.named-index l.names))
    (Ok tt) l.gathered.held.items
