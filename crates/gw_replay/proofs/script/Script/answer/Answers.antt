use Rattle.std.proofs.Common.{◌≢◌, sym, Err, rules}
use Rattle.gw_replay.specs.Commands.{command_view}
use Rattle.gw_replay.specs.Standing.{IsObeyed}
use Rattle.gw_replay.specs.declared.fault.Fault.TheVariants.{OutOfMemory}
use Rattle.gw_replay.proofs.Answering.{answered_by, not_memory}
use Rattle.gw_replay.proofs.script.Script.answer.Goals as goal

pub returns-in-Err : goal.returns-in-Err
returns-in-Err c = λ s stands.
    let other : c.in-Err.fault ≢ OutOfMemory = search rules in
    answered_by s c.args.line.now (command_view c.in-Asks.command) (Err c.in-Err.fault) c.obey.new.self.session
    (sym c.in-Asks.ensures)
    (not_memory c.in-Err.fault (λ said. IsObeyed s (command_view c.in-Asks.command) said c.obey.new.self.session) other
    (c.in-Err.ensures s stands))
