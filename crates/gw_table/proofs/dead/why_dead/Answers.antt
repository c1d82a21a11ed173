use Rattle.std.proofs.Common.{refl, sym, ◌∙◌}
use Rattle.std.proofs.lemmas.Option.{slice_get_read}
use Rattle.gw_table.proofs.Causes.{is_alive, own_is_first, cover_is_first}
use Rattle.gw_table.proofs.dead.why_dead.Goals as goal

pub returns-in-Some-clause-dead : goal.returns-in-Some-clause-dead
returns-in-Some-clause-dead c =
    let rules_now = c.args.rules.now in
    let here = slice_get_read rules_now _ c.args.rule c.in_ok-judged.judged.now refl c.in_ok-judged.ensures.lookup.3.0
    c.in_ok-judged.ensures.lookup.1 in
    own_is_first rules_now c.args.rule c.in_ok-judged.judged.now c.in-Some.why here c.in-Some.ensures

pub returns-in_err-by-clause-alive : goal.returns-in_err-by-clause-alive
returns-in_err-by-clause-alive c =
    let rules_now = c.args.rules.now in
    let here = slice_get_read rules_now _ c.args.rule c.in_ok-judged.judged.now refl c.in_ok-judged.ensures.lookup.3.0
    c.in_ok-judged.ensures.lookup.1 in
    rw c.from_residual-in_err-by.ensures (is_alive rules_now c.args.rule c.in_ok-judged.judged.now here c.in_default.ensures
    (sym c.first_covering.ensures ∙ c.in_err-by.was))

pub returns-clause-dead : goal.returns-clause-dead
returns-clause-dead c =
    let rules_now = c.args.rules.now in
    let here = slice_get_read rules_now _ c.args.rule c.in_ok-judged.judged.now refl c.in_ok-judged.ensures.lookup.3.0
    c.in_ok-judged.ensures.lookup.1 in
    cover_is_first rules_now c.args.rule c.in_ok-judged.judged.now c.in_ok-by.by here c.in_default.ensures
    (sym c.first_covering.ensures ∙ c.in_ok-by.was)
