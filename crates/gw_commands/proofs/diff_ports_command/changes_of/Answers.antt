use Rattle.std.proofs.Common.{◌+◌, take, refl, sym, subst, arith}
use Rattle.std.specs.List.{AllZip}
use Rattle.gw_commands.specs.PortDifferences.{IsChange}
use Rattle.gw_commands.proofs.PlaceByPlace.{zip_more, zip_all}
use Rattle.gw_commands.proofs.diff_ports_command.changes_of.Goals as goal

pub loop-port-preserved : goal.loop-port-preserved
loop-port-preserved c =
    let stated = c.args.stated.now in
    let n = c.loop-port.port-index in
    subst (λ changes. AllZip IsChange (take (n + 1) stated) changes) (sym c.in_ok-push.ensures.items)
    (zip_more IsChange stated n c.port-item.result c.loop-port.changes.items _
    (let below = c.loop-port-test.true in omega arith) c.port-item.is c.loop-port.invariant (record { old = refl; new = refl }))

pub returns : goal.returns
returns c =
    zip_all IsChange c.args.stated.now c.loop-port.port-index c.loop-port.changes.items
    (let past = c.loop-port-test.false in omega arith) c.loop-port.invariant
