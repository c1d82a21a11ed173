use Rattle.std.proofs.Common.{refl, arith}
use Rattle.std.proofs.lemmas.Option.{slice_get_read, slice_get_past}
use Rattle.gw_table.proofs.Searched.{there, not_there}
use Rattle.gw_table.proofs.universe.Universe.part_at.Goals as goal

pub returns-in-Some : goal.returns-in-Some
returns-in-Some c =
    let rules = c.args.rules.now in
    let found = c.in-Some.ensures.lookup in
    let here = slice_get_read rules _ c.args.index c.in-Some.rule.now refl found.3.0 found.1 in
    there c.args.self rules c.args.index c.in-Some.rule.now here c.block.result c.block_of.result c.within.result c.block.ensures
    c.block_of.ensures c.within.ensures

pub returns-in-None : goal.returns-in-None
returns-in-None c =
    let rules = c.args.rules.now in
    let none = slice_get_past rules c.args.index (omega (arith, c.in-None.ensures.lookup)) in
    not_there c.args.self rules c.args.index none c.block-in-None.result c.block-in-None.ensures
