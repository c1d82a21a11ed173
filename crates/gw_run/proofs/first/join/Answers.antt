use Rattle.gw_run.proofs.FirstBatch.{not_refused}
use Rattle.gw_run.proofs.first.join.Goals as goal

pub unreachable-requires : goal.unreachable-requires
unreachable-requires c =
    not_refused c.args.port c.in-Some.policy.value c.args.first.now c.in_default-add.field-0 c.requires.free c.requires.room
    c.in_default-add.ensures.refused
