use Rattle.std.proofs.Common.{◌<◌, ◌≤◌, get_or, arith}
use Rattle.std.proofs.lemmas.Bool.Decides.{nat_tests}
use Rattle.hex.specs.Hex.{hex_digit_value}
use Rattle.gw_log.specs.LogFrames.{digit}
use Rattle.gw_log.specs.declared.digits.TheConstants.{VALUES}
use Rattle.gw_log.proofs.DigitTable.{table_value, some_value, no_value}
use Rattle.gw_log.proofs.DigitValues.{digit_small}
use Rattle.gw_log.proofs.digits.value.Goals as goal

pub returns-then-value-lt16-clause-value : goal.returns-then-value-lt16-clause-value
returns-then-value-lt16-clause-value c =
    let small : get_or VALUES c.from.result 0 < 16 = grind (arith, nat_tests) in
    some_value (hex_digit_value c.args.c) _ (table_value c.args.c c.from.result c.from.ensures (omega arith)) small

pub returns-else-value-lt16-clause-value : goal.returns-else-value-lt16-clause-value
unfolding digit
returns-else-value-lt16-clause-value c =
    let large : 16 ≤ get_or VALUES c.from.result 0 = grind (arith, nat_tests) in
    no_value (hex_digit_value c.args.c) _ (table_value c.args.c c.from.result c.from.ensures (omega arith)) large
    (digit_small c.args.c)
