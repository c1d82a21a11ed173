use Rattle.std.proofs.Common.{w16, not, ◌==◌, ◌&&◌, ap, ◌∙◌}
use Rattle.std.specs.Int.{bit_at, bit_not}
use Rattle.std.specs.Int.RustNames.{bit_and}
use Rattle.gw_ledger.specs.Ports.{has_port}
use Rattle.gw_ledger.proofs.PortLists.{same_ports}
use Rattle.gw_ledger.proofs.PortBits.{set_bit, bit_of_rest}
use Rattle.gw_ledger.proofs.port_set.PortSet.difference.Goals as goal

pub returns : goal.returns
returns c =
    let one = c.self.inside.word in
    let other = c.other.inside.word in
    same_ports 16 (λ port. bit_at (bit_and one (bit_not w16 other)) port == 1)
    (λ port. has_port port c.args.self && not (has_port port c.args.other))
    (λ port below.
    bit_of_rest one other port c.other.invariant.below below
    ∙ ap (λ b. b && not (bit_at other port == 1)) (set_bit one c.args.self port c.self.view_is below)
    ∙ ap (λ b. has_port port c.args.self && not b) (set_bit other c.args.other port c.other.view_is below))
