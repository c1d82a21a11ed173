use Rattle.std.proofs.Common.{rules, [], refl}
use Rattle.gw_core.specs.Start.{unheard}
use Rattle.gw_core.proofs.Starts.{begins, new_pushed, out_pushed}
use Rattle.gw_core.proofs.gateway.parts.Goals as goal

pub loop-own-preserved : goal.loop-own-preserved
loop-own-preserved c =
    let so = c.loop-own.invariant in
    let e = c.in_ok-new.ensures in
    record {
      workers_room = search rules;
      workers_count = search rules;
      outs_room = search rules;
      outs_count = search rules;
      workers = new_pushed c.args.limits unheard c.loop-own.workers.items c.push_reserved.new.self.items c.in_ok-new.field-0
          c.loop-own.own c.push_reserved.ensures.items (search rules) (e.limits, e.own, e.stands) so.workers;
      outs = out_pushed c.loop-own.outs.items c.push_reserved-in-loop-own.new.self.items c.new-in-loop-own.result
          c.push_reserved-in-loop-own.ensures.items c.new-in-loop-own.ensures so.outs;
    }

pub invariant_of-result : goal.invariant_of-result
invariant_of-result c =
    let so = c.loop-own.invariant in (
      search rules,
      (
        unheard,
        [],
        begins _ unheard c.ports-ports.ensures.within (search rules) refl (search rules)
            (search rules) so.workers so.outs,
      ),
    )

pub returns-clause-stands : goal.returns-clause-stands
returns-clause-stands c =
    let so = c.loop-own.invariant in
    begins _ unheard c.ports-ports.ensures.within (search rules) refl (search rules) (search rules) so.workers so.outs
