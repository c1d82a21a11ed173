use Rattle.std.proofs.Common.{Some, refl, subst}
use Rattle.gw_table.specs.Emission.{emission}
use Rattle.gw_input.specs.declared.tables.TableFault.TheVariants as fault
use Rattle.gw_input.specs.Tables.{IsTableFault}
use Rattle.gw_c.proofs.policies.of_table.Goals as goal

-- the policy that there was no memory for
pub returns-in-Err-OutOfMemory-clause-refused : goal.returns-in-Err-OutOfMemory-clause-refused
returns-in-Err-OutOfMemory-clause-refused c =
    let here = c.in-Err-OutOfMemory in let text = c.args.text.now in
    let read : IsTableFault text fault.OutOfMemory = subst (IsTableFault text) here.field-0-is here.ensures.refused in
    (record { code = emission read.0; table = Some read.0 }, record { meaning = read.0; table = read.1; compiled = refl })
