use Rattle.std.proofs.Common.{rules, ◌≡◌, Some, None, ap, sym, subst, ◌∙◌}
use Rattle.std.specs.Prelude.{option_map, unwrap_or, slice_get}
use Rattle.std.specs.List.{position}
use Rattle.std.proofs.lemmas.List.Folds.{find_at}
use Rattle.std.proofs.lemmas.Option.{slice_get_past}
use Rattle.gw_table.specs.declared.rule_set.Property.TheVariants.{Passes}
use Rattle.gw_table.specs.Table.{is_pass}
use Rattle.gw_table.specs.RuleSets.{IsSetOf}
use Rattle.gw_table.specs.PairFrames.{all_lie}
use Rattle.gw_table.proofs.NeverDecides.{position_is, position_none}
use Rattle.gw_table.proofs.Indexed.{passing_set, action_by_mark}
use Rattle.gw_table.proofs.index.Index.passes.Goals as goal

pub returns-in-None : goal.returns-in-None
returns-in-None c =
    let table = c.args.table.now in
    let lies = all_lie c.args.pgn c.args.source c.args.destination c.args.from in
    let none : position lies table.rules ≡ None = search rules in
    let past = position_none lies table.rules none in
    c.passes.ensures ∙ ap is_pass c.default.ensures
    ∙ ap (λ found. is_pass (unwrap_or (option_map (λ rule. rule.action) found) table.otherwise))
    (sym (find_at lies table.rules ∙ slice_get_past table.rules _ past))

pub returns-in-Some : goal.returns-in-Some
returns-in-Some c =
    let table = c.args.table.now in
    let lies = all_lie c.args.pgn c.args.source c.args.destination c.args.from in
    let first : position lies table.rules ≡ Some c.in-Some.rule = search rules in
    let (at, within) = position_is lies table.rules c.in-Some.rule first in
    let held = passing_set table.rules c.args.self.now c.requires.indexed in
    let passing = subst (IsSetOf Passes table.rules) (sym c.at.ensures.set) held.set in
    action_by_mark table.rules c.in-Some.rule c.is_member.result table.otherwise
    (c.is_member.ensures ∙ passing c.in-Some.rule) within
    ∙ ap (λ found. is_pass (unwrap_or (option_map (λ rule. rule.action) found) table.otherwise))
    (sym (find_at lies table.rules ∙ ap (slice_get table.rules) at))
