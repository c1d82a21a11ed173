use Rattle.std.proofs.Common.{◌≡◌, ◌<◌, ◌∙◌, ◌++◌, ◌∷◌, [], List, length, take, get_or, map, arith, ap, sym, subst}
use Rattle.std.specs.List.{All}
use Rattle.std.proofs.lemmas.List.{map_more, take_more}
use Rattle.gw_board.proofs.Callers.{All-push}
use Rattle.gw_ports.specs.Ends.{Egress, IsSoundEgress}
use Rattle.gw_ports.proofs.closing.ledgers_out.Goals as goal

pub loop-port-preserved : goal.loop-port-preserved
loop-port-preserved c =
    let at = c.loop-port in
    let all = c.args.outs.now in
    let port = c.port-item.result in
    let inside : at.port-index < length all = let t = c.loop-port-test.true in omega arith in
    let ledger : c.ledger.result.now ≡ port.ledger = c.ledger.ensures.ledger in
    let is : port ≡ get_or all at.port-index port = c.port-item.is in (
      c.in_ok-push.ensures.items ∙ ap (λ l. l ++ c.ledger.result.now ∷ []) at.invariant.0
          ∙ ap (λ x. map (λ (i : Egress). i.ledger) (take at.port-index all) ++ x ∷ []) (ledger
          ∙ ap (λ (i : Egress). i.ledger) is)
          ∙ sym (map_more (λ (i : Egress). i.ledger) all at.port-index port inside),
      subst (λ (l : List Egress). All IsSoundEgress l) (sym (take_more all at.port-index port inside))
          (All-push IsSoundEgress (take at.port-index all) (get_or all at.port-index port) at.invariant.1
          (subst (λ (i : Egress). IsSoundEgress i) is c.ledger.ensures.sound)),
    )
