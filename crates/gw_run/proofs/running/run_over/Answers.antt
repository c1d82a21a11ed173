use Rattle.std.proofs.Common.{List, [], All, arith, subst}
use Rattle.gw_policy.specs.Batches.{Pair}
use Rattle.gw_ports.specs.Runs.{IsRun}
use Rattle.gw_run.specs.Tallies.{AreLosses}
use Rattle.gw_run.proofs.Forwards.{reported}
use Rattle.gw_run.proofs.LossCounts.{losses_handed}
use Rattle.gw_run.proofs.running.run_over.Goals as goal

-- The losses have room for as many frames as a port may take.
pub run_with-requires-clause-inputs : goal.run_with-requires-clause-inputs
run_with-requires-clause-inputs g c κs within k d e below =
    let ports = c.requires.count in
    let losses = c.in_ok-losses.ensures in
    let input = c.requires.inputs k d (omega arith) in
    let many = losses.count in
    let none = (losses.empty k e (omega arith)).frames in
    let most = c.ports.ensures.within.most_frames in
    (input.0, input.1, λ finite. omega arith)

pub returns-in-Ok-clause-ran : goal.returns-in-Ok-clause-ran
returns-in-Ok-clause-ran g c =
    let is = c.in-Ok.ensures.ran in
    let ended = c.in-Ok.ended in
    let steps = g.I.Iterator.next_gives in
    let made = c.in_ok-losses.losses.items in
    let none = subst (λ n. All (AreLosses n []) made) c.ports.ensures.ports c.in_ok-losses.ensures.empty in
    let lost = losses_handed c.args.limits.ports made ended.outcomes.items is.ran.outcomes none is.outcomes_are in record {
      ran = is.ran;
      is_run =
          subst (λ (b : List (List Pair)). IsRun steps c.args.limits c.args.first c.args.inputs.items b ended.inputs.items is.ran)
          c.new-batches.ensures.items is.is_run;
      told = (is.told.0, is.told.3);
      few = c.ports.ensures.within.most_ports;
      counted =
          reported steps c.args.limits c.args.first c.args.inputs.items c.new-batches.result.items ended.inputs.items is.ran
          ended.outcomes.items c.new-batches.ensures.items is.reported lost;
      none_lost = is.none_lost;
    }
