use Rattle.std.proofs.Common.{◌∙◌, List, get_or, ap, arith, length, map, subst, sym}
use Rattle.gw_ports.specs.Ends.{Ingress, end_in, end_out}
use Rattle.gw_ports.specs.Making.{AreEnds}
use Rattle.gw_ports.proofs.Callers.{of_board}
use Rattle.test_libraries.proofs.ports.publish.Goals as goal

pub learn_all-requires : goal.learn_all-requires
learn_all-requires g c = λ k d below.
    let parts = c.args.parts.now in
    let lent = c.deref_mut.ensures.value in
    let size = ap length lent in
    ap (λ (l : List Ingress). (get_or l k d).board) lent
    ∙ of_board parts.operator parts.ins.items parts.outs.items c.requires k d (omega arith)
    ∙ sym c.replace.ensures.board ∙ sym (ap (λ t. t.board) c.tell-told.ensures)
