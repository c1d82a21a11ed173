use Rattle.std.proofs.Common.{ap, ◌∙◌}
use Rattle.gw_trace.specs.Shares.{share_of}
use Rattle.gw_trace.specs.Kept.{frames_of}
use Rattle.gw_trace.proofs.Shared.{share_begins}
use Rattle.gw_trace.proofs.checked.Checked.share.Goals as goal

pub returns : goal.returns
returns c =
    share_begins c.args.port c.args.ports (frames_of c.self.inside) c.requires
    ∙ ap (share_of c.args.port c.args.ports) c.self.view_is
