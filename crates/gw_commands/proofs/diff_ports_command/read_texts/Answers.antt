use Rattle.std.proofs.Common.{◌+◌, ◌<◌, length, take, get_or, sym, subst, arith, None}
use Rattle.std.specs.List.{AllZip}
use Rattle.std.proofs.lemmas.List.{get_or_default}
use Rattle.gw_answers.specs.declared.requests.PortFiles.{PortFiles}
use Rattle.gw_commands.specs.PortDifferences.{ArePortTexts}
use Rattle.gw_commands.proofs.PlaceByPlace.{zip_more, zip_all}
use Rattle.gw_commands.proofs.diff_ports_command.read_texts.Goals as goal

pub loop-port-preserved : goal.loop-port-preserved
loop-port-preserved g c =
    let files = c.args.files.now in
    let n = c.loop-port.port-index in
    let within : n < length files = (let below = c.loop-port-test.true in omega arith) in
    let unnamed : PortFiles = record { old = None; new = None } in
    let named = get_or files n unnamed in
    subst (λ texts. AllZip ArePortTexts (take (n + 1) files) texts) (sym c.in-Ok-push.ensures.items)
    (zip_more ArePortTexts files n named c.loop-port.texts.items c.in-Ok.held within
    (get_or_default files n unnamed named within) c.loop-port.invariant c.in-Ok.ensures.texts)

pub returns-clause-texts : goal.returns-clause-texts
returns-clause-texts g c =
    zip_all ArePortTexts c.args.files.now c.loop-port.port-index c.loop-port.texts.items
    (let past = c.loop-port-test.false in omega arith) c.loop-port.invariant
