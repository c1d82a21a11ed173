use Rattle.std.proofs.Common.{ℕ, List, Ok, subst}
use Rattle.gw_core.specs.Start.{begun}
use Rattle.gw_core.specs.Forwarding.{forwarded, CoreForwards, ForwardsFrame}
use Rattle.gw_core.specs.Safety.{StepsInside}
use Rattle.gw_core.specs.declared.event.Event.TheVariants.{Step}
use Rattle.gw_c.proofs.offering.offer.Goals as goal

pub returns-in-Ok-clause-offered : goal.returns-in-Ok-clause-offered
returns-in-Ok-clause-offered c = λ known history stands _.
    let old = c.args.core.now in let port = c.args.port in let o = c.in-Ok.forwarded in
    record {
      outcome = o;
      said = c.outcome_told.ensures;
      forwards = subst (λ (frame : List ℕ). CoreForwards old known history port frame (Ok o) c.forward.new.self) c.in-Some.ensures
          (c.in-Ok.ensures.answers known history stands);
      headline = subst (λ (frame : List ℕ). ForwardsFrame (begun old.limits known) history port frame o) c.in-Some.ensures
          (c.in-Ok.ensures.headline known history stands);
      safe = λ n. subst (λ (frame : List ℕ). StepsInside (begun old.limits known) (forwarded n port frame history) (Step port))
          c.in-Some.ensures (c.in-Ok.ensures.safe known history n stands);
      limits = c.in-Ok.ensures.limits;
      turns = c.in-Ok.ensures.turns;
    }
