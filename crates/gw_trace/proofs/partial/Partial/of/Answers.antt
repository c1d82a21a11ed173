use Rattle.std.proofs.Common.{◌++◌, take, ap, ◌∙◌}
use Rattle.gw_trace.proofs.Joining.{alone}
use Rattle.gw_trace.proofs.partial.Partial.of.Goals as goal

pub returns : goal.returns
returns c = c.joined.ensures ∙ ap (λ xs. take 32 (xs ++ c.args.octets.now)) c.new.ensures ∙ alone 32 c.args.octets.now c.requires
