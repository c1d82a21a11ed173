use Rattle.std.proofs.Common.{◌∙◌, List, ap, arith, map, subst, sym}
use Rattle.gw_ports.specs.Ends.{EndOut, end_in, end_out}
use Rattle.gw_ports.specs.Making.{AreEnds}
use Rattle.gw_ports.proofs.Callers.{ends_out_stay}
use Rattle.test_libraries.proofs.ports.next_at.Goals as goal

pub returns : goal.returns
returns c =
    let parts = c.args.parts.now in
    let at = c.index_mut.result.now in
    let size = parts.outs.ok.0 in
    subst (λ (ends : List EndOut). AreEnds parts.operator.board parts.operator.ports (map end_in parts.ins.items) ends)
    (sym (ends_out_stay parts.outs.items c.args.port at c.next.new.to (let below = c.if-port-len.false in omega arith)
    (c.next.ensures ∙ ap end_out c.index_mut.ensures.value)))
    c.requires
