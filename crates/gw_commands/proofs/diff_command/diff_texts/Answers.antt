use Rattle.std.proofs.Common.{inl}
use Rattle.gw_commands.proofs.diff_command.diff_texts.Goals as goal

pub returns-in-Ok : goal.returns-in-Ok
returns-in-Ok g c =
    inl (
      c.in-Ok.tables.old,
      c.in-Ok.tables.new,
      c.in-Ok.ensures.tables.old,
      c.in-Ok.ensures.tables.new,
      c.tell_differences.ensures,
    )
