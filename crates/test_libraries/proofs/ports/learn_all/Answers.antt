use Rattle.std.proofs.Common.{◌≡◌, ◌<◌, ◌∙◌, length, arith, ap, sym}
use Rattle.std.proofs.lemmas.List.Elements.{All-set}
use Rattle.gw_ports.specs.Ends.{Ingress}
use Rattle.gw_ports.proofs.Callers.{ends_in_stay}
use Rattle.test_libraries.proofs.ports.learn_all.Goals as goal

pub learn-requires : goal.learn-requires
learn-requires c =
    let at = c.loop-index in
    let inside : at.index < length at.ports = let s = at.auto.ports in let t = c.loop-index-test.true in omega arith in
    sym (at.invariant.0 at.index c.index-ports-index.result inside)

pub loop-index-preserved : goal.loop-index-preserved
loop-index-preserved c =
    let at = c.loop-index in
    let board = c.args.told.now.board in
    let inside : at.index < length at.ports = let s = at.auto.ports in let t = c.loop-index-test.true in omega arith in
    let port = c.index-ports-index.result in (
      All-set (λ (i : Ingress). i.board ≡ board) at.ports at.index c.learn.new.self
          (c.learn.ensures.board ∙ at.invariant.0 at.index port inside) at.invariant.0,
      ends_in_stay at.ports at.index port c.learn.new.self inside c.learn.ensures.end ∙ at.invariant.1,
    )
