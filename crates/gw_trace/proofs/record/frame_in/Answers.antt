use Rattle.std.proofs.Common.{sym, ap, ◌∙◌}
use Rattle.gw_frame.specs.Record.{refusal_of}
use Rattle.gw_trace.specs.Traces.{captured}
use Rattle.gw_trace.proofs.Beginnings.{whole_of}
use Rattle.gw_trace.proofs.Scanned.{first_octets, read_ok, read_gives}
use Rattle.gw_trace.proofs.record.frame_in.Goals as goal

pub unwrap-frame-requires : goal.unwrap-frame-requires
unwrap-frame-requires c =
    let w = whole_of c.args.order c.args.octets.now c.args.count c.requires.whole in
    read_ok c.read.result
    (sym c.read.ensures.refused ∙ ap refusal_of
    (first_octets c.args.count c.args.octets.now c.split_at.result.0.now c.split_at.ensures.front)
    ∙ ap (λ n. refusal_of (captured n c.args.octets.now)) w.count_is ∙ w.frame)

pub returns : goal.returns
returns c =
    read_gives c.read.result _ c.unwrap-frame.result c.read.ensures.read c.unwrap-frame.ensures
    ∙ first_octets c.args.count c.args.octets.now c.split_at.result.0.now c.split_at.ensures.front
