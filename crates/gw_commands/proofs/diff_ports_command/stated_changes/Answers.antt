use Rattle.std.proofs.Common.{◌+◌, take, sym, subst, arith}
use Rattle.std.specs.List.{AllZip}
use Rattle.gw_answers.specs.declared.refusal.Refusal.TheVariants.{OutOfMemory}
use Rattle.gw_commands.specs.PortDifferences.{IsStatedChange}
use Rattle.gw_commands.proofs.PlaceByPlace.{zip_more, zip_all}
use Rattle.gw_commands.proofs.PortsTold.{refuses_first, wants_memory}
use Rattle.gw_commands.proofs.diff_ports_command.stated_changes.Goals as goal

pub returns-in-Err-clause-refused : goal.returns-in-Err-clause-refused
returns-in-Err-clause-refused g c =
    refuses_first c.args.texts.now c.loop-port.port c.index-texts-port.result c.loop-port.stated.items c.in-Err.refusal
    (let below = c.loop-port-test.true in omega arith) c.index-texts-port.is c.loop-port.invariant c.in-Err.ensures.refused

pub returns-in_default-clause-refused : goal.returns-in_default-clause-refused
returns-in_default-clause-refused g c =
    refuses_first c.args.texts.now c.loop-port.port c.index-texts-port.result c.loop-port.stated.items OutOfMemory
    (let below = c.loop-port-test.true in omega arith) c.index-texts-port.is c.loop-port.invariant
    (wants_memory c.index-texts-port.result c.in-Ok.change c.in-Ok.ensures.tables)

pub loop-port-preserved : goal.loop-port-preserved
loop-port-preserved g c =
    let texts = c.args.texts.now in
    let n = c.loop-port.port in
    subst (λ stated. AllZip IsStatedChange (take (n + 1) texts) stated) (sym c.in-Ok-push.ensures.items)
    (zip_more IsStatedChange texts n c.index-texts-port.result c.loop-port.stated.items c.in-Ok.change
    (let below = c.loop-port-test.true in omega arith) c.index-texts-port.is c.loop-port.invariant c.in-Ok.ensures.tables)

pub returns-clause-tables : goal.returns-clause-tables
returns-clause-tables g c =
    zip_all IsStatedChange c.args.texts.now c.loop-port.port c.loop-port.stated.items
    (let past = c.loop-port-test.false in omega arith) c.loop-port.invariant
