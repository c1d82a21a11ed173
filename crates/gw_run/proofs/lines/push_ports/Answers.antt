use Rattle.std.proofs.Common.{string_bytes, arith}
use Rattle.gw_run.specs.Forwarding.{line_of}
use Rattle.gw_input.proofs.Callers.{line_more}
use Rattle.gw_run.proofs.Forwarded.{line_there, ports_done}
use Rattle.gw_run.proofs.lines.push_ports.Goals as goal

pub loop-port-preserved : goal.loop-port-preserved
loop-port-preserved c =
    line_more (line_of c.args.ledgers.now) c.loop-port.port (string_bytes c.args.text.now) (string_bytes c.loop-port.text) _
    (string_bytes c.push_port.new.text) c.loop-port.invariant
    (line_there c.args.ledgers.now c.loop-port.port _ (let below = c.loop-port-test.true in omega arith))
    c.in_ok-push_port.ensures

pub returns : goal.returns
returns c =
    let last = c.loop-port-test.false in
    let end = c.loop-port.auto.port-end in
    ports_done c.args.ledgers.now c.loop-port.port (string_bytes c.args.text.now) (string_bytes c.loop-port.text) (omega arith)
    c.loop-port.invariant
