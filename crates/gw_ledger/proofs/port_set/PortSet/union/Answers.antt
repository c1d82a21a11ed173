use Rattle.std.proofs.Common.{◌==◌, ◌||◌, ap, ◌∙◌}
use Rattle.std.specs.Int.{bit_at}
use Rattle.std.specs.Int.RustNames.{bit_or}
use Rattle.gw_ledger.specs.Ports.{has_port}
use Rattle.gw_ledger.proofs.PortLists.{same_ports}
use Rattle.gw_ledger.proofs.PortBits.{set_bit, bit_of_either}
use Rattle.gw_ledger.proofs.port_set.PortSet.union.Goals as goal

pub returns : goal.returns
returns c =
    let one = c.self.inside.word in
    let other = c.other.inside.word in
    same_ports 16 (λ port. bit_at (bit_or one other) port == 1)
    (λ port. has_port port c.args.self || has_port port c.args.other)
    (λ port below.
    bit_of_either one other port ∙ ap (λ b. b || (bit_at other port == 1)) (set_bit one c.args.self port c.self.view_is below)
    ∙ ap (λ b. has_port port c.args.self || b) (set_bit other c.args.other port c.other.view_is below))
