use Rattle.std.proofs.Common.{ap, sym, ◌∙◌, arith, ◌≡◌, ◌-◌, length, take, drop}
use Rattle.std.proofs.lemmas.Grind.{common_steps}
use Rattle.gw_trace.specs.declared.record.Beginning.TheVariants.{Whole}
use Rattle.gw_trace.specs.Traces.{beginning}
use Rattle.gw_trace.proofs.Scanned.{few_in_front, front_with, rest_from}
use Rattle.gw_trace.proofs.scan.past_longest.Goals as goal

pub overflow_add-front-in-longest-2 : goal.overflow_add-front-in-longest-2
overflow_add-front-in-longest-2 c =
    let few = few_in_front c.args.order c.args.octets.now c.longest.front c.longest.invariant.front in
    omega arith

pub longest-preserved : goal.longest-preserved
longest-preserved c =
    let begins : beginning c.args.order (take (length c.args.octets.now - c.longest.front.end)
    (drop c.longest.front.end c.args.octets.now)) ≡ Whole 16 = grind (arith, common_steps) in
    record {
      front = front_with c.args.order c.args.octets.now c.longest.front 16 c.longest.invariant.front
          (ap (beginning c.args.order) (sym (rest_from c.longest.front.end c.args.octets.now)) ∙ begins);
      further = omega arith;
    }
