use Rattle.std.proofs.Common.{◌≡◌, ℕ, List, [], Ok, sym, ap, subst, ◌∙◌, arith}
use Rattle.gw_io.specs.Tries.{inner_of, has_failed}
use Rattle.gw_judge.specs.Interfaces.{port_named}
use Rattle.gw_judge.specs.Egress.{taken_lines}
use Rattle.gw_judge.specs.UnderWay.{Puts}
use Rattle.gw_judge.proofs.PutInOrder.{none_put}
use Rattle.gw_judge.proofs.EgressLines.{untaken_lines}
use Rattle.gw_judge.proofs.egress.put_said.Goals as goal
use Rattle.gw_judge.proofs.egress.put_said.Goals.{in_default-via-in-Some+else-from-lt-MAX_PORTS, in_default-via-in_default}

pub returns-in_default-clause-put : goal.returns-in_default-clause-put
returns-in_default-clause-put g c batches lines stands hears =
    let names = c.args.gateway.now.names.now in
    let said = c.args.said.now in
    let old = g.W.Write.contents (inner_of c.args.writer.now) in
    let held : List ℕ = c.args.gathered.now.held.items in
    let failed = has_failed c.args.writer.now in
    let named : port_named names said.interface ≡ c.port_named.result =
    sym (c.port_named.ensures ∙ ap (port_named names) c.interface.ensures) in
    let nothing : taken_lines names batches lines said (port_named names said.interface) ≡ [] =
    elim c.in_default.branch [
      | in_default-via-in-Some+else-from-lt-MAX_PORTS w ↦
          let above = w.if-from-lt-MAX_PORTS.false in
          let same = w.from.ensures in
          ap (taken_lines names batches lines said) (named ∙ w.in-Some.is)
          ∙ untaken_lines names batches lines said w.in-Some.ingress (omega arith)
      | in_default-via-in_default w ↦ ap (taken_lines names batches lines said) (named ∙ w.in_default.is)
    ] in
    subst (λ (text : List ℕ). Puts {A = Unit {0}} old old failed held text (Ok tt) held) (sym nothing)
    (none_put (tt {0}) old failed held c.requires)
