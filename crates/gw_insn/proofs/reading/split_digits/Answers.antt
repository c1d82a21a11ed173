use Rattle.std.proofs.Common.{arith}
use Rattle.std.specs.Char.{is_ascii_digit}
use Rattle.std.proofs.lemmas.List.Sums.{prefix_len-le-length}
use Rattle.gw_insn.proofs.Numbers.{digits_passed, digits_end}
use Rattle.gw_insn.proofs.reading.split_digits.Goals as goal

pub split_at-requires : goal.split_at-requires
split_at-requires c = omega (arith, prefix_len-le-length is_ascii_digit c.args.text.now)

pub returns-clause-digits : goal.returns-clause-digits
returns-clause-digits c = rw (c.split_at.ensures.front, c.digits_len-len.ensures) (digits_passed c.args.text.now)

pub returns-clause-ends : goal.returns-clause-ends
returns-clause-ends c = rw (c.split_at.ensures.back, c.digits_len-len.ensures) (digits_end c.args.text.now)
