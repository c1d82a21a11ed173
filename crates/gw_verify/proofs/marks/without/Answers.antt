use Rattle.std.proofs.Common.{refl, inl, inr, arith, sym, ◌∙◌}
use Rattle.std.specs.Int.{w16}
use Rattle.std.proofs.lemmas.Bool.{cases_eq}
use Rattle.std.proofs.lemmas.Nat.Bits.{bit_at_clear_same, bit_at_clear_other}
use Rattle.gw_verify.proofs.marks.without.Goals as goal

pub returns : goal.returns
returns c = λ other small.
    let words = c.args.words in
    let word = c.args.word in
    elim (cases_eq other word) [
      | inl e ↦
          let clear = bit_at_clear_same w16 words word (omega arith) in
          rw e (λ h. absurd (omega arith), λ h. absurd (h.1 refl))
      | inr ne ↦
          let kept = bit_at_clear_other w16 words word (omega arith) other small ne in
          (λ h. (sym kept ∙ h, λ e. ne (sym e)), λ h. kept ∙ h.0)
    ]
