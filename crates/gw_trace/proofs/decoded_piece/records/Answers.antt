use Rattle.std.proofs.Common.{sym, ap, ◌∙◌}
use Rattle.gw_trace.specs.Traces.{beginning}
use Rattle.gw_trace.proofs.Contents.{ends_unfinished}
use Rattle.gw_trace.proofs.decoded_piece.records.Goals as goal

pub behind-next-requires : goal.behind-next-requires
behind-next-requires c = λ sound.
    ap (λ found. beginning c.args.order found.rest) c.over-scan.ensures
    ∙ ends_unfinished c.args.order c.args.octets.now (sym (ap (λ found. found.fault) c.over-scan.ensures) ∙ sound)
