use Rattle.std.proofs.Common.{IfErr, IfOk, subst, sym}
use Rattle.gw_io.specs.Tries.{has_failed, inner_of, unended_reads}
use Rattle.gw_run.specs.declared.taking.Taking.{Taking}
use Rattle.gw_run.specs.Forwarding.{KeepsInput, RefusesTrace}
use Rattle.gw_run.proofs.forwarding.run_taken.Goals as goal

pub returns-in-ByInterface-clause-ran : goal.returns-in-ByInterface-clause-ran
returns-in-ByInterface-clause-ran g c =
    let after = c.run_named.new.input in
    subst
    (λ (t : Taking). IfOk c.run_named.result
    (KeepsInput t c.args.limits c.args.first g.G.Gate.waits (g.I.Read.remaining (inner_of c.args.input.now))
    (g.I.Read.remaining (inner_of after)) (has_failed after)))
    (sym c.in-ByInterface.is) c.run_named.ensures.ran

pub returns-in-ByInterface-clause-refused : goal.returns-in-ByInterface-clause-refused
returns-in-ByInterface-clause-refused g c =
    let after = c.run_named.new.input in
    subst
    (λ (t : Taking). IfErr c.run_named.result
    (RefusesTrace t c.args.limits c.args.first (g.I.Read.remaining (inner_of c.args.input.now))
    (g.I.Read.remaining (inner_of after)) (has_failed after) (unended_reads c.args.input.now after)))
    (sym c.in-ByInterface.is) c.run_named.ensures.refused
