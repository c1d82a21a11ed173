use Rattle.gw_io.specs.Tries.{inner_of, has_failed}
use Rattle.gw_commands.proofs.DifferenceStatus.{told_each}
use Rattle.gw_commands.proofs.diff_command.tell_differences.Goals as goal

pub returns-in-Ok : goal.returns-in-Ok
returns-in-Ok g c =
    told_each c.args.old.now c.args.new.now c.as_slice.result.now c.in-Ok.found.items
    (g.W.Write.contents (inner_of c.args.output.now)) (g.W.Write.contents (inner_of c.tell_found.new.output))
    (has_failed c.tell_found.new.output) c.tell_found.result c.as_slice.ensures.value c.in-Ok.ensures.differences
    c.in-Ok.ensures.alike c.tell_found.ensures
