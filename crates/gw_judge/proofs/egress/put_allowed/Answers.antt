use Rattle.std.proofs.Common.{◌≡◌, ◌+◌, ◌-◌, ℕ, Bool, List, Ok, sym, subst, arith}
use Rattle.std.proofs.lemmas.Result.{err_from_is_err_and}
use Rattle.gw_io.specs.Tries.{inner_of, has_failed}
use Rattle.gw_judge.specs.Egress.{lines_at}
use Rattle.gw_judge.specs.UnderWay.{Puts}
use Rattle.gw_judge.specs.EgressUnderWay.{set_passes}
use Rattle.gw_judge.proofs.PutInOrder.{none_put}
use Rattle.gw_judge.proofs.PortsInOrder.{none_below, port_put, port_failed}
use Rattle.gw_judge.proofs.egress.put_allowed.Goals as goal

pub loop-port-init : goal.loop-port-init
loop-port-init g c =
    let at : ℕ → List ℕ = lines_at c.args.gateway.now.names.now c.args.said.now in
    let test : ℕ → Bool = set_passes c.args.gateway.now.policies.now c.args.ingress c.args.said.now.octets in
    let old = g.W.Write.contents (inner_of c.args.writer.now) in
    let held : List ℕ = c.args.gathered.now.held.items in
    subst (λ (text : List ℕ). Puts {A = Unit {0}} old old (has_failed c.args.writer.now) held text (Ok tt) held)
    (sym (none_below at test)) (none_put (tt {0}) old (has_failed c.args.writer.now) held c.requires)

pub returns-in_err-put_port : goal.returns-in_err-put_port
returns-in_err-put_port g c =
    let fault = err_from_is_err_and c.from_residual.result c.from_residual.ensures.1 in
    let at : ℕ → List ℕ = lines_at c.args.gateway.now.names.now c.args.said.now in
    let test : ℕ → Bool = set_passes c.args.gateway.now.policies.now c.args.ingress c.args.said.now.octets in
    let now : List ℕ = c.put_port.new.gathered.held.items in
    let port : ℕ = c.loop-port.port in
    let within = c.loop-port-test.true in
    let last : port + 1 + (15 - port) ≡ 16 = omega arith in
    rw (fault.1, fault.2) (port_failed c.put_port.result (tt {0}) c.in_err-put_port.field-0.0 at test port (15 - port) 16
    (g.W.Write.contents (inner_of c.args.writer.now))
    (g.W.Write.contents (inner_of c.loop-port.writer)) (g.W.Write.contents (inner_of c.put_port.new.writer))
    (has_failed c.loop-port.writer) (has_failed c.put_port.new.writer) c.args.gathered.now.held.items
    c.loop-port.gathered.held.items now now last c.in_err-put_port.was c.loop-port.invariant c.put_port.ensures)

pub loop-port-preserved : goal.loop-port-preserved
loop-port-preserved g c =
    let at : ℕ → List ℕ = lines_at c.args.gateway.now.names.now c.args.said.now in
    let test : ℕ → Bool = set_passes c.args.gateway.now.policies.now c.args.ingress c.args.said.now.octets in
    port_put (tt {0}) c.in_ok-put_port.field-0 at test c.loop-port.port (g.W.Write.contents (inner_of c.args.writer.now))
    (g.W.Write.contents (inner_of c.loop-port.writer)) (g.W.Write.contents (inner_of c.put_port.new.writer))
    (has_failed c.loop-port.writer) (has_failed c.put_port.new.writer) c.args.gathered.now.held.items
    c.loop-port.gathered.held.items c.put_port.new.gathered.held.items c.loop-port.invariant c.in_ok-put_port.ensures
