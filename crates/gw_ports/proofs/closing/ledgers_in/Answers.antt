use Rattle.std.proofs.Common.{◌≡◌, ◌<◌, ◌∙◌, ◌++◌, ◌∷◌, [], List, length, take, get_or, map, arith, ap, sym, subst}
use Rattle.std.specs.List.{All}
use Rattle.std.proofs.lemmas.List.{map_more, take_more}
use Rattle.gw_board.proofs.Callers.{All-push}
use Rattle.gw_ports.specs.Ends.{Ingress, IsSoundIngress}
use Rattle.gw_ports.proofs.closing.ledgers_in.Goals as goal

pub loop-port-preserved : goal.loop-port-preserved
loop-port-preserved c =
    let at = c.loop-port in
    let all = c.args.ins.now in
    let port = c.port-item.result in
    let inside : at.port-index < length all = let t = c.loop-port-test.true in omega arith in
    let ledger : c.ledger.result.now ≡ port.ledger = c.ledger.ensures.ledger in
    let is : port ≡ get_or all at.port-index port = c.port-item.is in (
      c.in_ok-push.ensures.items ∙ ap (λ l. l ++ c.ledger.result.now ∷ []) at.invariant.0
          ∙ ap (λ x. map (λ (i : Ingress). i.ledger) (take at.port-index all) ++ x ∷ []) (ledger
          ∙ ap (λ (i : Ingress). i.ledger) is)
          ∙ sym (map_more (λ (i : Ingress). i.ledger) all at.port-index port inside),
      subst (λ (l : List Ingress). All IsSoundIngress l) (sym (take_more all at.port-index port inside))
          (All-push IsSoundIngress (take at.port-index all) (get_or all at.port-index port) at.invariant.1
          (subst (λ (i : Ingress). IsSoundIngress i) is c.ledger.ensures.sound)),
    )
