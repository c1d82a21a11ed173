use Rattle.std.proofs.Common.{◌≡◌, ◌∙◌, ◌<◌, [], ap, slice_index_or, subst, sym, arith, rules}
use Rattle.std.proofs.lemmas.Grind.{common_steps}
use Rattle.gw_log.specs.LogLines.{line_of}
use Rattle.gw_judge.specs.Interfaces.{port_named, taken}
use Rattle.gw_run.specs.Logs.{taken_at}
use Rattle.gw_run.proofs.LogLines.{no_line_more, one_line_more, taken_first, taken_none}
use Rattle.gw_run.proofs.log.take_log.Goals as goal

pub lines-preserved : goal.lines-preserved
lines-preserved c =
    let takes = port_named c.args.names.now in (
      c.in_ok-take_line.ensures.ports ∙ c.lines.invariant.0,
      (λ k d below.
          one_line_more (slice_index_or c.args.lists.now k d).items (taken_at takes k c.args.log.now)
          (slice_index_or c.lines.lists k d).items
          (slice_index_or c.take_line.new.lists k d).items (taken takes k (line_of c.first_line.result.0.now))
          (taken_at takes k c.first_line.result.1.now) (taken_at takes k c.lines.rest.now) (c.lines.invariant.1 k d below)
          (taken_first takes k c.lines.rest.now c.first_line.result.0.now c.first_line.result.1.now c.first_line.ensures.line)
          (c.in_ok-take_line.ensures.taken k d (subst (λ n. k < n) (sym c.lines.invariant.0) below))),
    )

pub returns-clause-taken : goal.returns-clause-taken
returns-clause-taken c =
    λ k d below.
    let takes = port_named c.args.names.now in
    let empty : c.lines.rest.now ≡ [] =
    let test = c.lines-test.false in
    let of = c.is_empty.ensures in
    first_of (search rules, grind (arith, common_steps)) in
    no_line_more (slice_index_or c.args.lists.now k d).items (taken_at takes k c.args.log.now)
    (slice_index_or c.lines.lists k d).items
    (taken_at takes k c.lines.rest.now) (c.lines.invariant.1 k d below) (ap (taken_at takes k) empty ∙ taken_none takes k)
