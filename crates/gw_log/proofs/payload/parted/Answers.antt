use Rattle.std.proofs.Common.{ap}
use Rattle.std.specs.Prelude.{option_map}
use Rattle.gw_log.proofs.Parts.{parts_at, parted_there}
use Rattle.gw_log.proofs.payload.parted.Goals as goal

pub returns-in_err-at : goal.returns-in_err-at
returns-in_err-at c = rw c.from_residual.ensures (ap (option_map (parts_at c.args.text.now)) c.in_err-at.ensures.position)

pub returns : goal.returns
returns c = parted_there c.args.octet c.args.text.now c.in_ok-at.at c.in_ok-at.ensures.position
