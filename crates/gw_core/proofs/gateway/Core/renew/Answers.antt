use Rattle.std.proofs.Common.{rules, ◌≡◌, List, [], ◌∷◌, true, false, sym, ap, subst, ◌∙◌}
use Rattle.std.specs.List.{list_any}
use Rattle.gw_policy.specs.Batches.{Pair}
use Rattle.gw_core.specs.Start.{begun}
use Rattle.gw_core.specs.Events.{accepted, all_batches}
use Rattle.gw_core.specs.Standing.{AreFound}
use Rattle.gw_core.specs.Gateway.{Gateway, Stands}
use Rattle.gw_core.specs.Renewing.{holds_frame, holds_copy, all_heard, policies_below, policies_in_force}
use Rattle.gw_core.specs.declared.event.Event.TheVariants.{Publish}
use Rattle.gw_core.proofs.Renewals.{settled, unsettled, drained, undrained, first_batch}
use Rattle.gw_core.proofs.gateway.Core.renew.Goals as goal

pub returns-then-any_frame-clause-answers : goal.returns-then-any_frame-clause-answers
returns-then-any_frame-clause-answers c =
    let found : list_any holds_frame c.self.inside.workers.items ≡ true = search rules in
    let some = subst (λ (x : Gateway). list_any holds_frame x.workers ≡ true) c.self.view_is found in
    λ known history s. unsettled c.args.self.now known _ s some

pub returns-then-any_copy-clause-answers : goal.returns-then-any_copy-clause-answers
returns-then-any_copy-clause-answers c =
    let no_frame : list_any holds_frame c.self.inside.workers.items ≡ false = search rules in
    let free = subst (λ (x : Gateway). list_any holds_frame x.workers ≡ false) c.self.view_is no_frame in
    let found : list_any holds_copy c.self.inside.workers.items ≡ true = search rules in
    let some = subst (λ (x : Gateway). list_any holds_copy x.workers ≡ true) c.self.view_is found in
    λ known history s. (settled c.args.self.now known _ s free, undrained c.args.self.now known _ s some)

pub returns-in_default-clause-answers : goal.returns-in_default-clause-answers
returns-in_default-clause-answers c =
    let no_frame : list_any holds_frame c.self.inside.workers.items ≡ false = search rules in
    let free = subst (λ (x : Gateway). list_any holds_frame x.workers ≡ false) c.self.view_is no_frame in
    let no_copy : list_any holds_copy c.self.inside.workers.items ≡ false = search rules in
    let none = subst (λ (x : Gateway). list_any holds_copy x.workers ≡ false) c.self.view_is no_copy in
    λ known history s. (settled c.args.self.now known _ s free, drained c.args.self.now known _ s none)

pub forget-requires : goal.forget-requires
forget-requires c =
    let no_copy : list_any holds_copy c.self.inside.workers.items ≡ false = search rules in
    subst (λ (x : Gateway). list_any holds_copy x.workers ≡ false) c.self.view_is no_copy

pub returns-clause-answers : goal.returns-clause-answers
returns-clause-answers c =
    let old = c.args.self.now in
    let is_view = c.self.view_is in
    let no_frame : list_any holds_frame c.self.inside.workers.items ≡ false = search rules in
    let free = subst (λ (x : Gateway). list_any holds_frame x.workers ≡ false) is_view no_frame in
    let no_copy : list_any holds_copy c.self.inside.workers.items ≡ false = search rules in
    let none = subst (λ (x : Gateway). list_any holds_copy x.workers ≡ false) is_view no_copy in
    let ports = c.ports-ports.ensures.ports ∙ ap (λ (x : Gateway). x.limits.ports) is_view in
    λ known history s.
    let start = begun old.limits known in
    let done = accepted start history in
    let next = all_heard start done in
    let found = subst (λ (all : List (List Pair)). AreFound all c.self.inside.latest (all_batches done))
    (sym c.deref-3.ensures.value)
    (subst (λ (x : Gateway). AreFound x.batches x.latest (all_batches done)) (sym is_view) s.latest) in
    let batch : c.in-Some.batch ≡ policies_in_force start done = c.in-Some.ensures (all_batches done) found
    ∙ ap (policies_below (all_batches done)) ports in
    let told = c.publish-answer.ensures.answers next [] (c.forget.ensures.begins known done s) in (
      settled old known done s free,
      drained old known done s none,
      record {
        front = first_batch old known next done s;
        stands = subst (λ (b : List Pair). Stands c.publish-answer.new.self next (Publish b ∷ [])) batch told.1;
        turns = c.publish-answer.ensures.turns ∙ c.forget.ensures.turns;
      },
    )
