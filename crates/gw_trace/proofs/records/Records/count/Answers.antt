use Rattle.std.proofs.Common.{ap, ◌∙◌}
use Rattle.gw_trace.proofs.Parting.{count_read}
use Rattle.gw_trace.proofs.records.Records.count.Goals as goal

pub returns : goal.returns
returns c = λ octets records h. ap (λ k. k.count) c.self.view_is ∙ count_read c.args.self.now octets records h
