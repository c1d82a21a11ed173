use Rattle.std.proofs.Common.{ℕ, List, Ok, subst}
use Rattle.std.proofs.lemmas.Result.{err_from_is_err_and}
use Rattle.gw_io.specs.Tries.{inner_of, has_failed}
use Rattle.gw_judge.specs.UnderWay.{Puts}
use Rattle.gw_judge.proofs.Gathering.{puts_both, puts_failed}
use Rattle.gw_judge.proofs.gathered.Gathered.put_line.Goals as goal

pub returns-in_err-put : goal.returns-in_err-put
returns-in_err-put g c =
    let old = g.W.Write.contents (inner_of c.args.writer.now) in
    let new = g.W.Write.contents (inner_of c.put.new.writer) in
    let failed = has_failed c.put.new.writer in
    let held : List ℕ = c.args.self.now.held.items in
    let now : List ℕ = c.put.new.self.held.items in
    let fault = err_from_is_err_and c.from_residual.result c.from_residual.ensures.1 in
    rw (c.in-Some.is, fault.1, fault.2) (puts_failed c.put.result c.in_err-put.field-0.0 old new failed held c.in-Some.front
    c.args.line.now now now c.in_err-put.was
    (subst (λ (front : List ℕ). Puts old new failed held front c.put.result now) c.as_bytes.ensures c.put.ensures))

pub returns : goal.returns
returns g c =
    let old = g.W.Write.contents (inner_of c.args.writer.now) in
    let mid = g.W.Write.contents (inner_of c.put.new.writer) in
    let failed = has_failed c.put.new.writer in
    let held : List ℕ = c.args.self.now.held.items in
    let now : List ℕ = c.put.new.self.held.items in
    rw c.in-Some.is (puts_both c.put-2.result c.in_ok-put.field-0 old mid
    (g.W.Write.contents (inner_of c.put-2.new.writer)) failed (has_failed c.put-2.new.writer) held c.in-Some.front
    c.args.line.now now c.put-2.new.self.held.items
    (subst (λ (front : List ℕ). Puts old mid failed held front (Ok c.in_ok-put.field-0) now) c.as_bytes.ensures
    c.in_ok-put.ensures) c.put-2.ensures)
