use Rattle.std.proofs.Common.{rules, ◌≡◌, List, [], length, vec_len, sym, subst, arith, replicate, false, refl, None}
use Rattle.std.specs.List.{list_any}
use Rattle.gw_core.specs.Start.{Heard, begun}
use Rattle.gw_core.specs.declared.event.Event.{Event}
use Rattle.gw_core.specs.Gateway.{Gateway, StandsAt}
use Rattle.gw_core.specs.Renewing.{holds_copy, all_heard}
use Rattle.gw_core.proofs.Renewals.{forgets}
use Rattle.gw_core.proofs.gateway.Core.forget.Goals as goal

pub invariant_of-self : goal.invariant_of-self
invariant_of-self c =
    let i = c.self.inside in
    let g : Gateway = record {
      limits = i.limits;
      batches = i.batches.items;
      latest = i.latest;
      workers = i.workers.items;
      outs = i.outs.items;
      turns = i.turns;
    } in
    let inv = c.self.invariant in
    let none : list_any holds_copy g.workers ≡ false = subst (λ (x : Gateway). list_any holds_copy x.workers ≡ false)
    (sym c.self.view_is) c.requires in
    let many : vec_len i.outs ≡ length g.outs = search rules in (
      omega (arith, inv.0, c.clear.ensures.capacity),
      (
        all_heard (begun g.limits inv.1.0) inv.1.1,
        [],
        forgets g c.clear.new.self.items _ c.renew_all.new.workers.items c.fill.new.self.items _ c.new.result
            (vec_len i.outs) none
            c.clear.ensures.items refl c.renew_all.ensures (c.fill.ensures.items
            (λ y e. e)) many c.new.ensures inv.1.0 inv.1.1 inv.1.2,
      ),
    )

pub returns-clause-begins : goal.returns-clause-begins
returns-clause-begins c =
    let i = c.self.inside in
    let g : Gateway = record {
      limits = i.limits;
      batches = i.batches.items;
      latest = i.latest;
      workers = i.workers.items;
      outs = i.outs.items;
      turns = i.turns;
    } in
    let none : list_any holds_copy g.workers ≡ false = subst (λ (x : Gateway). list_any holds_copy x.workers ≡ false)
    (sym c.self.view_is) c.requires in
    let many : vec_len i.outs ≡ length g.outs = search rules in
    let P : Gateway → Type 0 = λ x. (known : Heard) (done : List Event) → StandsAt x known done
    → StandsAt (record {
      limits = g.limits;
      batches = c.clear.new.self.items;
      latest = replicate 16 None;
      workers = c.renew_all.new.workers.items;
      outs = c.fill.new.self.items;
      turns = replicate 16 0;
    }) (all_heard (begun x.limits known) done) [] in
    subst P c.self.view_is (forgets g c.clear.new.self.items _ c.renew_all.new.workers.items c.fill.new.self.items _
    c.new.result (vec_len i.outs) none
    c.clear.ensures.items refl c.renew_all.ensures (c.fill.ensures.items (λ y e. e)) many c.new.ensures)
