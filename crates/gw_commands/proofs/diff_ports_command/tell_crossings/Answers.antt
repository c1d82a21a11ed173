use Rattle.std.proofs.Common.{sym, subst}
use Rattle.gw_io.specs.Tries.{inner_of, has_failed}
use Rattle.gw_commands.specs.PortDifferences.{AreChanges}
use Rattle.gw_commands.proofs.PortsTold.{egress_there, told_crossings}
use Rattle.gw_commands.proofs.diff_ports_command.tell_crossings.Goals as goal

pub tell_found_crossings-requires-clause-there : goal.tell_found_crossings-requires-clause-there
tell_found_crossings-requires-clause-there g c =
    egress_there c.args.stated.now c.as_slice.result.now c.as_slice-in-Ok-crossings.result.now c.in-Ok-crossings.found.items
    c.as_slice-in-Ok-crossings.ensures.value
    (subst (AreChanges c.args.stated.now) (sym c.as_slice.ensures.value) c.in-Ok.ensures) c.in-Ok-crossings.ensures.crossings

pub returns-in-Ok-crossings : goal.returns-in-Ok-crossings
returns-in-Ok-crossings g c =
    told_crossings c.args.stated.now c.as_slice.result.now c.as_slice-in-Ok-crossings.result.now c.in-Ok-crossings.found.items
    (g.W.Write.contents (inner_of c.args.output.now)) (g.W.Write.contents (inner_of c.tell_found_crossings.new.output))
    (has_failed c.tell_found_crossings.new.output) c.tell_found_crossings.result c.as_slice-in-Ok-crossings.ensures.value
    (subst (AreChanges c.args.stated.now) (sym c.as_slice.ensures.value) c.in-Ok.ensures) c.in-Ok-crossings.ensures.crossings
    c.in-Ok-crossings.ensures.alike c.tell_found_crossings.ensures
