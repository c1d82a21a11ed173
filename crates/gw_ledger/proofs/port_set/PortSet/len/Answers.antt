use Rattle.std.proofs.Common.{◌==◌, length, sym, ap, ◌∙◌, subst}
use Rattle.std.specs.Int.{bit_at}
use Rattle.gw_ledger.specs.Ports.{IsPortSet}
use Rattle.gw_ledger.proofs.PortLists.{is_set}
use Rattle.gw_ledger.proofs.PortBits.{length-ports}
use Rattle.gw_ledger.proofs.port_set.PortSet.len.Goals as goal

pub returns-clause-len : goal.returns-clause-len
returns-clause-len c = sym (length-ports c.self.inside.word c.self.invariant.below) ∙ ap length c.self.view_is

pub returns-clause-set : goal.returns-clause-set
returns-clause-set c = subst IsPortSet c.self.view_is (is_set (λ port. bit_at c.self.inside.word port == 1))
