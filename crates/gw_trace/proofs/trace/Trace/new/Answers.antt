use Rattle.std.proofs.Common.{sym, ◌∙◌, ap}
use Rattle.gw_trace.specs.Progress.{in_header}
use Rattle.gw_trace.proofs.Resuming.{progress_nothing}
use Rattle.gw_trace.proofs.trace.Trace.new.Goals as goal

pub returns : goal.returns
returns c = c.beginning.ensures ∙ ap in_header c.new.ensures ∙ sym progress_nothing
