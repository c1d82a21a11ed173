use Rattle.std.proofs.Common.{[], sym, subst}
use Rattle.gw_commands.specs.LogClaims.{AreSegments}
use Rattle.gw_commands.proofs.LogClaims.{heard_no_frame}
use Rattle.gw_commands.proofs.claims_log_command.heard.Goals as goal

pub listen-heard-requires-clause-silent : goal.listen-heard-requires-clause-silent
listen-heard-requires-clause-silent g c = subst (AreSegments []) (sym c.new-segments.ensures) heard_no_frame
