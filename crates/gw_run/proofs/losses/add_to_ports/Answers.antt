use Rattle.std.proofs.Common.{[], ◌∷◌, ◌++◌, arith}
use Rattle.gw_run.specs.Tallies.{IsLoss}
use Rattle.gw_run.proofs.LossCounts.{one_changed}
use Rattle.gw_run.proofs.losses.add_to_ports.Goals as goal

pub loop-loss-preserved : goal.loop-loss-preserved
loop-loss-preserved c =
    λ outcomes room old.
    let at = c.loop-loss in
    let inside = c.loop-loss-test.true in
    one_changed (λ k. IsLoss k (outcomes ++ c.args.outcome.now ∷ [])) (λ k. IsLoss k outcomes) at.losses at.loss-index _
    c.add.new.self _ at.auto.losses inside (c.add.ensures at.loss-index outcomes room) (at.invariant outcomes room old)

pub returns : goal.returns
returns c =
    λ outcomes room old to d below.
    let last = c.loop-loss-test.false in
    let size = c.loop-loss.auto.losses in
    (c.loop-loss.invariant outcomes room old to d below).0 (omega arith)
