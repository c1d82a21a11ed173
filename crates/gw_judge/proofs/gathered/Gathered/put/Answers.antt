use Rattle.std.proofs.Common.{ℕ, List, [], sym, subst}
use Rattle.std.proofs.lemmas.Result.{err_from_is_err_and}
use Rattle.gw_io.specs.Tries.{inner_of, has_failed}
use Rattle.gw_judge.specs.UnderWay.{Puts}
use Rattle.gw_judge.proofs.Gathering.{puts_both, puts_failed}
use Rattle.gw_judge.proofs.gathered.Gathered.put.Goals as goal

pub returns-in_err-flush : goal.returns-in_err-flush
returns-in_err-flush g c =
    let fault = err_from_is_err_and c.from_residual.result c.from_residual.ensures.1 in
    rw (fault.1, fault.2) (puts_failed c.flush.result c.in_err-flush.field-0.0 (g.W.Write.contents (inner_of c.args.writer.now))
    (g.W.Write.contents (inner_of c.flush.new.writer)) (has_failed c.flush.new.writer) c.args.self.now.held.items []
    c.args.text.now c.flush.new.self.held.items c.flush.new.self.held.items c.in_err-flush.was c.flush.ensures.written)

pub returns : goal.returns
returns g c =
    let mid = g.W.Write.contents (inner_of c.flush.new.writer) in
    let new = g.W.Write.contents (inner_of c.put_first.new.writer) in
    let then_failed = has_failed c.put_first.new.writer in
    let now = c.put_first.new.self.held.items in
    puts_both c.put_first.result c.in_ok-flush.field-0 (g.W.Write.contents (inner_of c.args.writer.now)) mid new
    (has_failed c.flush.new.writer) then_failed c.args.self.now.held.items [] c.args.text.now c.flush.new.self.held.items now
    c.in_ok-flush.ensures.written
    (subst (λ (held : List ℕ). Puts mid new then_failed held c.args.text.now c.put_first.result now)
    (sym c.in_ok-flush.ensures.empty) c.put_first.ensures)
