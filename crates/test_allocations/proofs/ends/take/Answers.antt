use Rattle.std.proofs.Common.{◌∙◌, List, ap, arith, map, subst, sym}
use Rattle.gw_ports.specs.Ends.{EndIn, end_in, end_out}
use Rattle.gw_ports.specs.Making.{AreEnds}
use Rattle.gw_ports.proofs.Callers.{ends_in_stay}
use Rattle.test_allocations.proofs.ends.take.Goals as goal

pub returns : goal.returns
returns c =
    let parts = c.args.parts.now in
    let at = c.index_mut.result.now in
    let size = parts.ins.ok.0 in
    subst (λ (ends : List EndIn). AreEnds parts.operator.board parts.operator.ports ends (map end_out parts.outs.items))
    (sym (ends_in_stay parts.ins.items 0 at c.offer.new.self (grind arith)
    (c.offer.ensures.end ∙ ap end_in c.index_mut.ensures.value)))
    c.requires
