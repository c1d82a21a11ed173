use Rattle.std.proofs.Common.{◌∙◌}
use Rattle.gw_trace.proofs.Shared.{all_shared}
use Rattle.gw_trace.proofs.checked.Checked.all.Goals as goal

pub returns : goal.returns
returns c = c.share.ensures ∙ all_shared c.args.self.now
