use Rattle.std.proofs.Common.{sym, ap, ◌∙◌}
use Rattle.gw_frame.specs.Record.{refusal_of}
use Rattle.gw_trace.proofs.Scanned.{first_octets, first_is_frame, first_frames, first_others, read_ok, read_gives}
use Rattle.gw_trace.proofs.share.parted.Goals as goal

pub unwrap-frame-requires : goal.unwrap-frame-requires
unwrap-frame-requires c =
    read_ok c.read.result
    (sym c.read.ensures.refused ∙ ap refusal_of
    (first_octets c.args.len c.args.records.now c.split_at.result.0.now c.split_at.ensures.front)
    ∙ first_is_frame c.args.order c.args.records.now c.args.len c.requires.whole c.requires.some c.requires.len)

pub returns-clause-frames : goal.returns-clause-frames
returns-clause-frames c =
    first_frames c.args.order c.args.records.now c.split_at.result.1.now c.unwrap-frame.result c.args.len
    c.requires.whole c.requires.some c.requires.len c.split_at.ensures.back
    (read_gives c.read.result _ c.unwrap-frame.result c.read.ensures.read c.unwrap-frame.ensures
    ∙ first_octets c.args.len c.args.records.now c.split_at.result.0.now c.split_at.ensures.front)

pub returns-clause-others : goal.returns-clause-others
returns-clause-others c =
    first_others c.args.order c.args.records.now c.split_at.result.1.now c.args.len c.requires.whole c.requires.some
    c.requires.len c.split_at.ensures.back
