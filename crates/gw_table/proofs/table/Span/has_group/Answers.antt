use Rattle.std.proofs.Common.{◌≤◌, ◌<◌, ◌+◌, ◌*◌, ◌/◌, ◌%◌, arith}
use Rattle.std.proofs.lemmas.Bool.Decides.{nat_tests}
use Rattle.std.specs.Prelude.{nat_le}
use Rattle.gw_table.proofs.NeverDecides.{matched, inside, outside, group_of, group_identifier, identifier_of}
use Rattle.gw_table.proofs.table.Span.has_group.Goals as goal

pub returns : goal.returns
returns c =
    let span = c.args.self in
    let next = c.next_group.result in
    matched _ _ (nat_le next span.high) (λ is.
    let low : next ≤ span.high = grind (arith, nat_tests) in
    let same = group_identifier next (omega (arith, low, c.requires.1)) c.next_group.ensures.group in
    (identifier_of (next / 256) (next % 256), rw same (inside next span c.next_group.ensures.reached low)))
    (λ is word.
    let above : span.high < next = grind (arith, nat_tests) in
    let group = group_of word in
    rw group.group (outside (256 * group.format + group.last) span (λ both.
    omega (arith, above, both.1, c.next_group.ensures.least group.format group.last group.last_fits group.pdu1 both.0))))
