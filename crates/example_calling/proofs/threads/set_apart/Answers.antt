use Rattle.std.proofs.Common.{◌≡◌, ◌∙◌, List, get_or, ap, sym, subst, arith}
use Rattle.j1939_gateway.specs.BoardEnds.{Known}
use Rattle.j1939_gateway.specs.PortEnds.{Ingress}
use Rattle.example_calling.proofs.threads.set_apart.Goals as goal

pub learn-requires : goal.learn-requires
learn-requires c =
    let port = c.pair-port_in.result.0 in
    let two = c.requires.two.0 in
    let size = c.args.parts.ins.ok.0 in
    ap (λ (t : Known). t.board) c.tell-told.ensures
    ∙ sym (subst (λ (l : List Ingress). (get_or l 0 port).board ≡ c.args.parts.operator.board) c.pair-port_in.ensures
    (c.requires.board 0 port (omega arith)))
