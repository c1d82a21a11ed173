use Rattle.std.proofs.Common.{◌≡◌, length, sym, ap, arith}
use Rattle.std.proofs.lemmas.Bool.{eqb-true}
use Rattle.gw_log.proofs.Parts.{more_digits}
use Rattle.gw_log.proofs.payload.without_dots.Goals as goal

pub returns-then-is_full : goal.returns-then-is_full
returns-then-is_full c =
    let full : length c.loop-c.digits.items ≡ 16 = eqb-true _ 16 (sym c.if-is_full.ensures.value) in
    let so_far = ap length c.loop-c.invariant in
    let more = more_digits c.args.text.now c.loop-c.c-index c.loop-c-test.true c.if-c-ne46.true in
    omega arith
