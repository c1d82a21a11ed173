use Rattle.std.proofs.Common.{refl}
use Rattle.gw_ledger.specs.Ports.{ports_below}
use Rattle.gw_ledger.proofs.port_set.PortSet.new.Goals as goal

pub returns : goal.returns
unfolding ports_below
returns c = refl
