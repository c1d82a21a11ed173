use Rattle.std.proofs.Common.{◌≡◌, ◌+◌, Some, ap, sym, ◌∙◌, arith, length, length-drop, not, List, ℕ}
use Rattle.std.specs.Prelude.{option_copied, option_map}
use Rattle.std.specs.List.{find, position_or_len, range_with_len}
use Rattle.gw_input.specs.Lines.{lines_of}
use Rattle.gw_input.specs.RuleLines.{begins_rule, is_blank}
use Rattle.gw_input.specs.Places.{place_on, stands_on}
use Rattle.gw_input.proofs.LineByLine.{lines_behind, line_there}
use Rattle.gw_input.proofs.KeyLines.{at_most_one_more, begun_with, first_found, none_more, read_line_stands}
use Rattle.gw_input.proofs.places.find_line.Goals as goal

pub returns-then-stands : goal.returns-then-stands
returns-then-stands c =
    let lines = lines_of c.args.text.now in
    let n = c.loop-rest.number in
    let line = c.first_line.result.0.now in
    let next =
    line_there lines n (option_copied c.loop-rest.rest) (option_copied c.first_line.result.1) c.in-Some.left.now line
    c.loop-rest.invariant.place (ap option_copied c.in-Some.is) c.first_line.ensures.line c.first_line.ensures.behind in
    let begun = c.rules_with.ensures ∙ begun_with lines n c.loop-rest.begun line next.1 c.loop-rest.invariant.begun in
    let stands =
    sym (read_line_stands lines c.args.location (option_copied c.args.key) n c.rules_with.result line next.1 begun)
    ∙ sym c.stands.ensures ∙ c.if-stands.true in
    let found =
    first_found (stands_on lines c.args.location (option_copied c.args.key)) n (length lines) next.0
    c.loop-rest.invariant.none stands in
    ap (λ column. Some (record { line = n + 1; column = column + 1 }))
    (c.indent.ensures.blanks ∙ ap (λ l. position_or_len (λ x. not (is_blank x)) l) next.1)
    ∙ ap (option_map (place_on lines)) (sym found)

pub loop-rest-preserved : goal.loop-rest-preserved
loop-rest-preserved c =
    let lines = lines_of c.args.text.now in
    let n = c.loop-rest.number in
    let line = c.first_line.result.0.now in
    let next =
    line_there lines n (option_copied c.loop-rest.rest) (option_copied c.first_line.result.1) c.in-Some.left.now line
    c.loop-rest.invariant.place (ap option_copied c.in-Some.is) c.first_line.ensures.line c.first_line.ensures.behind in
    let begun = c.rules_with.ensures ∙ begun_with lines n c.loop-rest.begun line next.1 c.loop-rest.invariant.begun in
    let other =
    sym (read_line_stands lines c.args.location (option_copied c.args.key) n c.rules_with.result line next.1 begun)
    ∙ sym c.stands.ensures ∙ c.if-stands.false in
    let within = next.0 in
    let less = next.3 in
    let so_far = c.loop-rest.invariant in
    record {
      place = next.2;
      counted = omega (arith, so_far.counted);
      within = omega arith;
      begun = begun;
      fewer = at_most_one_more (begins_rule line) c.loop-rest.begun n c.rules_with.result c.rules_with.ensures so_far.fewer;
      none = none_more (stands_on lines c.args.location (option_copied c.args.key)) n so_far.none other;
    }

pub returns : goal.returns
returns c =
    let lines = lines_of c.args.text.now in
    let n = c.loop-rest.number in
    let none = c.loop-rest.invariant.place ∙ ap (λ rest. lines_behind (option_copied rest)) c.in_default.is in
    let within = c.loop-rest.invariant.within in
    let all : n ≡ length lines = omega (arith, ap length none, length-drop {A = List ℕ}) in
    let test = stands_on lines c.args.location (option_copied c.args.key) in
    ap (option_map (place_on lines)) (sym c.loop-rest.invariant.none ∙ ap (λ m. find test (range_with_len 0 m)) all)
