use Rattle.std.proofs.Common.{◌≤◌, ◌<◌, arith}
use Rattle.std.proofs.lemmas.Bool.Decides.{nat_tests}
use Rattle.std.specs.Prelude.{nat_lt}
use Rattle.gw_table.proofs.NeverDecides.{matched, inside, outside}
use Rattle.gw_table.proofs.table.Span.has_port.Goals as goal

pub returns : goal.returns
returns c =
    let span = c.args.self in
    matched _ _ (nat_lt span.low 16) (λ is.
    let below : span.low < 16 = grind (arith, nat_tests) in
    (span.low, below, inside span.low span (omega arith) c.requires))
    (λ is port fits.
    let above : 16 ≤ span.low = grind (arith, nat_tests) in
    outside port span (λ both. omega (arith, both.0, above, fits)))
