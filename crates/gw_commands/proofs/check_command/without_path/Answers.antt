use Rattle.std.proofs.Common.{sym, subst}
use Rattle.gw_commands.specs.Checks.{IsUnset}
use Rattle.gw_commands.proofs.check_command.without_path.Goals as goal

pub returns-in-UnsetWord : goal.returns-in-UnsetWord
returns-in-UnsetWord c = λ listing refused. (c.args.refused, (refused.0, refused.1), subst IsUnset (sym c.in-UnsetWord.is) tt)
