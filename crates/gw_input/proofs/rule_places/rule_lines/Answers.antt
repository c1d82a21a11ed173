use Rattle.std.proofs.Common.{◌+◌, ap, ◌∙◌, arith, []}
use Rattle.std.specs.Prelude.{option_copied}
use Rattle.gw_input.specs.Lines.{lines_of}
use Rattle.gw_input.specs.RuleLines.{rule_at, rule_number}
use Rattle.gw_input.proofs.LineByLine.{line_there, lines_behind}
use Rattle.gw_input.proofs.NumberByNumber.{line_more}
use Rattle.gw_input.proofs.RulePlaces.{all_found}
use Rattle.gw_input.proofs.rule_places.rule_lines.Goals as goal

pub loop-rest-smaller : goal.loop-rest-smaller
loop-rest-smaller c =
    let next =
    line_there (lines_of c.args.text.now) c.loop-rest.number (option_copied c.loop-rest.rest)
    (option_copied c.first_line.result.1) c.in-Some.left.now c.first_line.result.0.now c.loop-rest.invariant.place
    (ap option_copied c.in-Some.is) c.first_line.ensures.line c.first_line.ensures.behind in
    next.3

pub loop-rest-preserved : goal.loop-rest-preserved
loop-rest-preserved c =
    let lines = lines_of c.args.text.now in
    let n = c.loop-rest.number in
    let line = c.first_line.result.0.now in
    let next =
    line_there lines n (option_copied c.loop-rest.rest) (option_copied c.first_line.result.1) c.in-Some.left.now line
    c.loop-rest.invariant.place (ap option_copied c.in-Some.is) c.first_line.ensures.line c.first_line.ensures.behind in
    let less = next.3 in
    let before = c.loop-rest.invariant.counted in
    let within = next.0 in
    record {
      place = next.2;
      counted = omega arith;
      within = omega arith;
      found =
          line_more (rule_at lines) n [] c.loop-rest.lines.items (rule_number line (n + 1)) c.push_rule.new.lines.items
          c.loop-rest.invariant.found (ap (λ l. rule_number l (n + 1)) next.1) c.in_ok-push_rule.ensures;
    }

pub returns : goal.returns
returns c =
    all_found c.args.text.now c.loop-rest.number c.loop-rest.lines.items c.loop-rest.invariant.within
    (c.loop-rest.invariant.place ∙ ap (λ rest. lines_behind (option_copied rest)) c.in_default.is) c.loop-rest.invariant.found
