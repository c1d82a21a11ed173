use Rattle.std.proofs.Common.{◌≡◌, ℕ, ◌<◌, Option, sym, ap, ◌∙◌, subst}
use Rattle.std.specs.Prelude.{unwrap_or}
use Rattle.gw_log.specs.LogFrames.{digit}
use Rattle.gw_log.proofs.DigitValues.{digit_small}
use Rattle.gw_log.proofs.digits.digit.Goals as goal

pub returns : goal.returns
unfolding digit
returns c =
    let same : c.unwrap_or.result ≡ digit c.args.c =
    c.unwrap_or.ensures ∙ ap (λ (value : Option ℕ). unwrap_or value 0) c.value.ensures.value in
    record { value = same; small = subst (λ n. n < 16) (sym same) (digit_small c.args.c) }
