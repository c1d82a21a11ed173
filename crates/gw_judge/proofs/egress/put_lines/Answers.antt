use Rattle.std.proofs.Common.{◌==◌, [], ℕ, List, if◌then◌else◌, arith}
use Rattle.std.proofs.lemmas.Result.{err_from_is_err_and}
use Rattle.gw_io.specs.Tries.{inner_of, has_failed}
use Rattle.gw_judge.specs.declared.interfaces.NamedInterface.{NamedInterface}
use Rattle.gw_judge.specs.Egress.{egress_line}
use Rattle.gw_judge.proofs.PutInOrder.{more_put, one_failed}
use Rattle.gw_judge.proofs.egress.put_lines.Goals as goal

pub returns-in_err-put_named : goal.returns-in_err-put_named
returns-in_err-put_named g c =
    let fault = err_from_is_err_and c.from_residual.result c.from_residual.ensures.1 in
    let at : NamedInterface → List ℕ = λ named.
    if named.port == c.args.port then egress_line c.args.said.now named.name.now else [] in
    let within = c.loop-named-test.true in
    rw (fault.1, fault.2) (one_failed c.put_named.result (tt {0}) c.in_err-put_named.field-0.0 at c.args.names.now
    c.loop-named.named-index _ (g.W.Write.contents (inner_of c.args.writer.now))
    (g.W.Write.contents (inner_of c.loop-named.writer)) (g.W.Write.contents (inner_of c.put_named.new.writer))
    (has_failed c.loop-named.writer) (has_failed c.put_named.new.writer) c.args.gathered.now.held.items
    c.loop-named.gathered.held.items c.put_named.new.gathered.held.items c.put_named.new.gathered.held.items (omega arith)
    c.in_err-put_named.was c.loop-named.invariant c.put_named.ensures)

pub loop-named-preserved : goal.loop-named-preserved
loop-named-preserved g c =
    let at : NamedInterface → List ℕ = λ named.
    if named.port == c.args.port then egress_line c.args.said.now named.name.now else [] in
    let within = c.loop-named-test.true in
    more_put (tt {0}) c.in_ok-put_named.field-0 at c.args.names.now
    c.loop-named.named-index _ (g.W.Write.contents (inner_of c.args.writer.now))
    (g.W.Write.contents (inner_of c.loop-named.writer)) (g.W.Write.contents (inner_of c.put_named.new.writer))
    (has_failed c.loop-named.writer) (has_failed c.put_named.new.writer) c.args.gathered.now.held.items
    c.loop-named.gathered.held.items c.put_named.new.gathered.held.items (omega arith)
    c.loop-named.invariant c.in_ok-put_named.ensures
