use Rattle.std.proofs.Common.{◌∙◌, ap}
use Rattle.gw_verify.specs.Flow.{forms_of}
use Rattle.gw_commands.specs.Checks.{explained_lines}
use Rattle.gw_commands.proofs.PathsTold.{is_unset, leaves_unset}
use Rattle.gw_commands.proofs.check_command.with_lines.Goals as goal

pub returns-in-Ok : goal.returns-in-Ok
returns-in-Ok c =
    let refused = c.args.refused in
    λ listing why. (
      (why.0, why.1),
      leaves_unset refused.why (forms_of refused.code.items) refused.place c.args.path why.2,
      c.in-Ok.ensures ∙ ap (explained_lines refused) c.deref.ensures.value,
    )

pub returns-in-Err : goal.returns-in-Err
returns-in-Err c =
    let refused = c.args.refused in
    λ listing why. (
      refused,
      (why.0, why.1),
      is_unset refused.why (forms_of refused.code.items) refused.place c.args.path why.2,
    )
