use Rattle.std.proofs.Common.{arith}
use Rattle.std.proofs.lemmas.Bool.Decides.{nat_tests}
use Rattle.gw_insn.specs.Listing.{IsNumber}
use Rattle.gw_insn.proofs.Numbers.{number_at}
use Rattle.gw_insn.proofs.reading.number.Goals as goal
use Rattle.gw_insn.proofs.reading.number.Goals.{then-is_empty-via-then-is_empty, then-is_empty-via-else-is_empty+then-digits-gt10}

pub returns-then-is_empty-clause-none : goal.returns-then-is_empty-clause-none
returns-then-is_empty-clause-none c = λ n rest h.
    let split = c.split_digits.ensures in
    let spells : IsNumber c.args.most c.split_digits.result.0.now n =
    number_at c.args.text.now c.split_digits.result.0.now c.split_digits.result.1.now split.whole split.digits split.ends
    c.args.most n rest h in
    elim c.then-is_empty.branch [
      | then-is_empty-via-then-is_empty w ↦ grind
          (arith, nat_tests, w.if-is_empty.ensures)
      | then-is_empty-via-else-is_empty+then-digits-gt10 w ↦ omega arith
    ]

pub returns-then-n-from-clause-none : goal.returns-then-n-from-clause-none
returns-then-n-from-clause-none c = λ n rest h.
    let split = c.split_digits.ensures in
    let spells : IsNumber c.args.most c.split_digits.result.0.now n =
    number_at c.args.text.now c.split_digits.result.0.now c.split_digits.result.1.now split.whole split.digits split.ends
    c.args.most n rest h in
    omega arith
