use Rattle.std.proofs.Common.{length, take, reverse, refl, sym, ap, ◌∙◌, subst, add-one, arith}
use Rattle.std.specs.Prelude.{option_copied}
use Rattle.std.proofs.lemmas.Option.{slice_get_read}
use Rattle.std.specs.List.{list_any}
use Rattle.gw_claims.specs.Holders.{HoldsAfter}
use Rattle.gw_input.specs.Lines.{lines_of}
use Rattle.gw_commands.specs.ClaimLines.{records_on, is_bad}
use Rattle.gw_input.proofs.Callers.{lines_behind, next_line, all_taken}
use Rattle.gw_commands.proofs.ClaimLines.{heard_more, good_more, first_bad}
use Rattle.gw_commands.proofs.claims_command.heard.Goals as goal

pub loop-rest-smaller : goal.loop-rest-smaller
loop-rest-smaller g c =
    let next =
    next_line (lines_of c.args.input.now) c.loop-rest.number (option_copied c.loop-rest.rest)
    (option_copied c.first_line.result.1) c.in-Some.text.now
    c.first_line.result.0.now c.loop-rest.invariant.place (ap option_copied c.in-Some.is) c.first_line.ensures.line
    c.first_line.ensures.behind in
    next.3

pub loop-rest-preserved : goal.loop-rest-preserved
loop-rest-preserved g c =
    let lines = lines_of c.args.input.now in
    let n = c.loop-rest.number in
    let line = c.first_line.result.0.now in
    let next =
    next_line lines n (option_copied c.loop-rest.rest) (option_copied c.first_line.result.1) c.in-Some.text.now line
    c.loop-rest.invariant.place
    (ap option_copied c.in-Some.is) c.first_line.ensures.line c.first_line.ensures.behind in
    let less = next.3 in
    let before = c.loop-rest.invariant.counted in
    record {
      place = next.2;
      counted = omega arith;
      heard =
          subst (HoldsAfter c.hear_line.new.claims) (heard_more lines n line next.0 next.1)
          (c.in-Ok.ensures.heard (reverse (records_on (take n lines))) c.loop-rest.invariant.heard);
      good = good_more lines n line next.0 next.1 c.loop-rest.invariant.good c.in-Ok.ensures.good;
    }

pub returns-in-Err-clause-refused : goal.returns-in-Err-clause-refused
returns-in-Err-clause-refused g c =
    let lines = lines_of c.args.input.now in
    let n = c.loop-rest.number in
    let line = c.first_line.result.0.now in
    let next =
    next_line lines n (option_copied c.loop-rest.rest) (option_copied c.first_line.result.1) c.in-Some.text.now line
    c.loop-rest.invariant.place
    (ap option_copied c.in-Some.is) c.first_line.ensures.line c.first_line.ensures.behind in
    record {
      place = n;
      line = line;
      first = first_bad lines n line next.0 next.1 c.loop-rest.invariant.good c.in-Err.ensures.refused.0;
      there = slice_get_read lines (length lines) n line refl next.0 next.1;
      counted = add-one n;
      bad = c.in-Err.ensures.refused.1;
    }

pub returns-clause-heard : goal.returns-clause-heard
returns-clause-heard g c =
    let lines = lines_of c.args.input.now in
    let all = all_taken lines c.loop-rest.number (c.loop-rest.invariant.place
    ∙ ap (λ rest. lines_behind (option_copied rest)) c.in_default.is) in
    subst (λ known. HoldsAfter c.loop-rest.claims (reverse (records_on known))) all c.loop-rest.invariant.heard

pub returns-clause-good : goal.returns-clause-good
returns-clause-good g c =
    let lines = lines_of c.args.input.now in
    let all = all_taken lines c.loop-rest.number (c.loop-rest.invariant.place
    ∙ ap (λ rest. lines_behind (option_copied rest)) c.in_default.is) in
    sym (ap (list_any is_bad) all) ∙ c.loop-rest.invariant.good
