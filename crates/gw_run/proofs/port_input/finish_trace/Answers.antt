use Rattle.std.proofs.Common.{◌∙◌, ◌++◌, Err, Ok, Some, ap, subst, sym}
use Rattle.gw_io.specs.Tries.{has_failed, inner_of}
use Rattle.gw_run.specs.PortInputs.{RefusesFile}
use Rattle.gw_run.proofs.TraceInputs.{ends_ill, ends_well}
use Rattle.gw_run.proofs.port_input.finish_trace.Goals as goal

pub returns-in_default : goal.returns-in_default
returns-in_default g c = λ file before octets given is pcap has.
    let left = c.finish.ensures.left before octets given has in
    let after = c.finish.new.self in (
      left.1,
      ends_well file (g.R.Read.remaining (inner_of after.reader)) (has_failed after.reader) after.pieces.left octets left.0
          (given ++ left.1) is pcap (left.2.ended (Ok tt) (c.finish.ensures.ended ∙ ap Some c.in_default.is)).1,
      left.3,
    )

pub returns : goal.returns
returns g c = λ file before octets given is pcap has.
    let left = c.finish.ensures.left before octets given has in
    let after = c.finish.new.self in (
      left.1,
      subst (RefusesFile file) (sym c.trace_refusal.ensures)
          (ends_ill file (g.R.Read.remaining (inner_of after.reader)) (has_failed after.reader) after.pieces.left octets left.0
          (given ++ left.1) c.in-Err.why is pcap
          (left.2.ended (Err c.in-Err.why) (c.finish.ensures.ended ∙ ap Some c.in-Err.is)).1),
      left.3,
    )
