use Rattle.std.proofs.Common.{sym, ap, ◌∙◌}
use Rattle.gw_trace.proofs.Parting.{failed_ends}
use Rattle.gw_trace.proofs.records.Records.end.Goals as goal

pub returns-in-Failed : goal.returns-in-Failed
returns-in-Failed c = λ octets records h.
    failed_ends c.args.self.now c.in-Failed.fault octets records
    (sym (ap (λ begun. begun.stage) c.self.view_is) ∙ c.in-Failed.is) h
