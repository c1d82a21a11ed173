use Rattle.std.proofs.Common.{◌==◌, w16, ap, ◌∙◌}
use Rattle.std.specs.Int.{bit_at}
use Rattle.std.proofs.lemmas.Bool.{eq-eqb}
use Rattle.std.proofs.lemmas.Nat.Bits.{bit_at_set_same, bit_at_set_other}
use Rattle.gw_ledger.specs.Ports.{has_port, with_port}
use Rattle.gw_ledger.proofs.PortLists.{ports_with, with_greatest, has_port-with_port}
use Rattle.gw_ledger.proofs.port_set.PortSet.add.Goals as goal

pub returns-clause-ports : goal.returns-clause-ports
returns-clause-ports c =
    let word = c.self.inside.word in
    let port = c.args.port in
    ports_with 16 port (λ other. bit_at word other == 1) _ c.requires
    (eq-eqb _ 1 (bit_at_set_same w16 word port c.requires))
    (λ other below apart. ap (λ b. b == 1) (bit_at_set_other w16 word port c.requires other apart))
    ∙ ap (with_port port) c.self.view_is

pub returns-clause-greatest : goal.returns-clause-greatest
returns-clause-greatest c = λ below. returns-clause-ports c ∙ with_greatest c.args.port c.args.self.now below

pub returns-clause-members : goal.returns-clause-members
returns-clause-members c = λ other.
    ap (has_port other) (returns-clause-ports c) ∙ has_port-with_port c.args.port other c.args.self.now
