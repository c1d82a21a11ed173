use Rattle.std.proofs.Common.{◌<◌, sym, ◌∙◌, ap, arith}
use Rattle.std.specs.Int.{w64}
use Rattle.std.proofs.lemmas.Nat.Bits.{bit_at_set_same, bit_at_set_other}
use Rattle.gw_table.proofs.Holding.{one_if, all_settled, settled_with, settled_without}
use Rattle.gw_table.proofs.rule_set.word_of.Goals as goal
use Rattle.gw_table.proofs.rule_set.word_of.Goals.{then-is_in, else-is_in}

pub loop-i-preserved : goal.loop-i-preserved
loop-i-preserved c =
    let i = c.loop-i.i in
    let old = c.loop-i.bits in
    let below : i < 64 = omega arith in
    elim c.if-is_in.branch [
      | then-is_in w ↦ rw w.bits-is (settled_with c.args.property c.args.rules.now c.args.word i old _ c.loop-i.invariant
          (sym (ap one_if (sym w.if-is_in.true) ∙ c.is_in.ensures)) (bit_at_set_same w64 old i below)
          (bit_at_set_other w64 old i below))
      | else-is_in w ↦ rw w.bits-is (settled_without c.args.property c.args.rules.now c.args.word i old c.loop-i.invariant
          (sym (ap one_if (sym w.if-is_in.false) ∙ c.is_in.ensures)))
    ]

pub returns : goal.returns
returns c =
    all_settled c.args.property c.args.rules.now c.args.word c.loop-i.i c.loop-i.bits (omega arith) c.loop-i.invariant
