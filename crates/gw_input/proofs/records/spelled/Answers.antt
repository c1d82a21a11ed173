use Rattle.std.proofs.Common.{◌≡◌, true, false, get_or, refl, sym, ◌∙◌, arith}
use Rattle.std.proofs.lemmas.List.Elements.{All-from_get_or}
use Rattle.hex.specs.Hex.{is_hex_digit}
use Rattle.hex.proofs.HexLemmas.{decode_of-odd}
use Rattle.gw_input.proofs.HexDigits.{same_digits, no_digit_refused, first_other, no_other, digits_more, element_there}
use Rattle.gw_input.proofs.records.spelled.Goals as goal

pub returns-then-not-is_ascii_hexdigit-clause-refused : goal.returns-then-not-is_ascii_hexdigit-clause-refused
returns-then-not-is_ascii_hexdigit-clause-refused c =
    let text = c.args.text.now in
    let at = c.loop-at.at in
    let other : is_hex_digit (get_or text at 0) ≡ false =
    sym (same_digits (get_or text at 0)) ∙ sym c.is_ascii_hexdigit.ensures.value ∙ c.if-not-is_ascii_hexdigit.true in (
      no_digit_refused text at c.loop-at-test.true other,
      first_other text at c.loop-at-test.true c.loop-at.invariant other,
      element_there text at c.loop-at-test.true,
    )

pub loop-at-preserved : goal.loop-at-preserved
loop-at-preserved c =
    let text = c.args.text.now in
    let at = c.loop-at.at in
    digits_more text at c.loop-at.invariant (sym (same_digits (get_or text at 0)) ∙ sym c.is_ascii_hexdigit.ensures.value
    ∙ c.if-not-is_ascii_hexdigit.false)

pub returns-then-text-eq1-clause-refused : goal.returns-then-text-eq1-clause-refused
returns-then-text-eq1-clause-refused c = (
  decode_of-odd c.args.text.now c.if-text-eq1.true,
  no_other c.args.text.now (λ k within. c.loop-at.invariant k (omega arith)),
  refl,
)

pub returns : goal.returns
returns c = record {
  digits = All-from_get_or (λ c. is_hex_digit c ≡ true) c.args.text.now 0 (λ k within. c.loop-at.invariant k (omega arith));
  even = let even = c.if-text-eq1.false in omega arith;
  refused = tt;
}
