use Rattle.std.proofs.Common.{rules, ◌≡◌, ◌≤◌, ◌++◌, map, length, [], ◌∷◌, arith, length-append, ap, subst}
use Rattle.std.specs.List.{flat_map}
use Rattle.std.proofs.lemmas.Fn.{always_returns_same}
use Rattle.gw_insn.specs.Table.{raw_of}
use Rattle.gw_table.specs.Table.{Meaning}
use Rattle.gw_table.specs.Emission.{return_of, groups_of, group_code, emission}
use Rattle.gw_table.proofs.Groups.{is_same_group, groups_of-chunk}
use Rattle.gw_table.proofs.Codes.{group_pushed}
use Rattle.gw_table.proofs.Emitted.{emission_accepted}
use Rattle.gw_table.proofs.compiler.emitted.Goals as goal

pub loop-group-preserved : goal.loop-group-preserved
loop-group-preserved c =
    let steps = c.in-Some.ensures.steps in
    let run = (steps.2 is_same_group (always_returns_same _ _ _ (λ a r f k. search rules))).1 in
    let group = c.in-Some.group.now in
    let later = c.next.new.self.rest.now in
    let first = groups_of-chunk c.loop-group.group-iterator.rest.now group later steps.0 steps.1 run in
    let last = return_of c.args.table.now.otherwise ∷ [] in
    let goes_on = subst (λ groups. c.loop-group.code.items ++ map raw_of (flat_map group_code groups ++ last)
    ≡ map raw_of (emission c.args.table.now)) first c.loop-group.invariant.rest in
    record {
      rest = group_pushed c.loop-group.code.items c.push_group.new.code.items (map raw_of (emission c.args.table.now)) group
          (groups_of later) last c.in_ok-push_group.ensures goes_on;
      few = omega (arith, ap length steps.0, length-append group later, c.loop-group.invariant.few);
    }

pub returns-clause-accepted : goal.returns-clause-accepted
returns-clause-accepted c =
    emission_accepted c.args.table.now (subst (λ (table : Meaning). length table.rules ≤ 256) c.table.view_is
    c.table.invariant.few)
