use Rattle.std.proofs.Common.{◌==◌, ◌&&◌, ◌∷◌, not, ap, ◌∙◌, sym, length, refl, rules}
use Rattle.std.proofs.lemmas.Bool.{eq-eqb, ne_eqb}
use Rattle.gw_ledger.specs.Ports.{has_port}
use Rattle.gw_ledger.proofs.PortLists.{least_first}
use Rattle.gw_ledger.proofs.port_set.PortsIterator.next.Goals as goal

pub returns-clause-steps : goal.returns-clause-steps
returns-clause-steps c =
    let left = c.self.inside.left in
    let port = c.in_ok-port.port in
    let (low, has, lower) = c.in_ok-port.ensures.least in
    sym c.self.view_is ∙ c.first.ensures.set.in_order
    ∙ least_first 16 port (λ other. has_port other left) (λ other. not (other == port) && has_port other left) low has lower
    (ap (λ b. not b && has_port port left) (eq-eqb port port refl))
    (λ other below apart. ap (λ b. not b && has_port other left) (ne_eqb other port apart))
    ∙ ap (λ rest. port ∷ rest) (sym c.without-self-inside.ensures)

pub returns-clause-goes : goal.returns-clause-goes
returns-clause-goes c =
    let shorter = ap length (returns-clause-steps c) in
    search rules
