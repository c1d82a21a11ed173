use Rattle.std.proofs.Common.{◌≡◌, List, ◌∷◌, [], length, ap, subst, ◌∙◌, append_assoc, arith, length-append}
use Rattle.std.specs.Vec.Iter.{into_iter_items}
use Rattle.gw_core.specs.Start.{begun}
use Rattle.gw_core.specs.Headline.{Forwards}
use Rattle.gw_core.specs.Safety.{StepsInside}
use Rattle.gw_core.specs.Runs.{ForEachAnswer}
use Rattle.gw_core.specs.declared.event.Event.{Event}
use Rattle.gw_core.proofs.Runs.{one_more, all_yielded}
use Rattle.gw_core.proofs.Answered.{each_forwards, each_inside}
use Rattle.gw_core.proofs.gateway.Core.run.Goals as goal

pub loop-event-preserved : goal.loop-event-preserved
loop-event-preserved c =
    let at = c.loop-event in
    let x = c.in-Some.event in
    let steps : into_iter_items at.event-iterator ≡ x ∷ into_iter_items c.next.new.self = c.in-Some.ensures.steps.0 in
    record {
      handed = append_assoc at.yielded (x ∷ []) _ ∙ rw (← steps) at.invariant.handed;
      capacity = let k = at.invariant.capacity in omega (arith, c.push_reserved.ensures.capacity);
      rest = let was = at.invariant.rest in let gone = c.in-Some.ensures.steps.1 in let short = ap length steps in omega arith;
      count = let k = at.invariant.count in omega (arith, c.push_reserved.ensures.len, length-append at.yielded (x ∷ []));
      limits = c.event.ensures.limits ∙ at.invariant.limits;
      turns = c.event.ensures.turns ∙ at.invariant.turns;
      runs = λ known history s. one_more c.args.self.now at.self c.event.new.self known history at.yielded x at.answers.items
          c.push_reserved.new.self.items c.event.result at.invariant.limits c.push_reserved.ensures.items
          (c.event.ensures.answers known) (at.invariant.runs known history s);
    }

pub returns-clause-headline : goal.returns-clause-headline
returns-clause-headline c =
    let old = c.args.self.now in
    let at = c.loop-event in
    let whole : at.yielded ≡ c.args.events.items = all_yielded at.yielded (into_iter_items at.event-iterator) _ _ _
    at.invariant.handed c.into_iter-event-iterator.ensures.into_iter_gives.0 at.invariant.rest c.in-None.ensures.steps.0 in
    λ known history s. subst (λ (es : List Event). ForEachAnswer (Forwards
    (begun old.limits known)) history es at.answers.items) whole
    (each_forwards c.finished_frames_were_forwarded.ensures old at.self known history at.yielded at.answers.items
    at.invariant.limits
    (at.invariant.runs known history s))

pub returns-clause-safe : goal.returns-clause-safe
returns-clause-safe c =
    let old = c.args.self.now in
    let at = c.loop-event in
    let whole : at.yielded ≡ c.args.events.items = all_yielded at.yielded (into_iter_items at.event-iterator) _ _ _
    at.invariant.handed c.into_iter-event-iterator.ensures.into_iter_gives.0 at.invariant.rest c.in-None.ensures.steps.0 in
    λ known history s. subst (λ (es : List Event). ForEachAnswer (λ past e answer. StepsInside
    (begun old.limits known) past e) history es
    at.answers.items) whole
    (each_inside c.steps_are_safe.ensures old at.self known history at.yielded at.answers.items at.invariant.limits
    (at.invariant.runs known history s))
