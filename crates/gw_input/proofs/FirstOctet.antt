-- The first octet of a value, as memchr finds it.
use Rattle.std.proofs.Common.{◌≡◌, ℕ, List, length, Option, None, Some, sym, arith}
use Rattle.std.proofs.lemmas.Bool.{false_from_ne_true}
use Rattle.std.proofs.lemmas.List.Sums.{position_or_len_is}
use Rattle.std.specs.List.{position_or_len}
use Rattle.std.specs.Option.{unwrap_or}
use Rattle.memchr.specs.Find.{IsFirstByte, is_byte}
use Rattle.gw_input.specs.Lines.{is_octet}

pub found_first : (octet : ℕ) (text : List ℕ) (found : Option ℕ) → IsFirstByte (is_byte octet) text found
    → unwrap_or found (length text) ≡ position_or_len (is_octet octet) text
found_first octet text None nowhere =
    sym (position_or_len_is (is_octet octet) text (length text) 0 (omega arith)
    (λ k h. false_from_ne_true _ (nowhere k (omega arith) h)) (λ h. absurd (omega arith)))
found_first octet text (Some at) first =
    let high = first.0.high in
    sym (position_or_len_is (is_octet octet) text at 0 (omega arith)
    (λ k h. false_from_ne_true _ (first.0.before k (omega arith) h)) (λ h. first.1))
