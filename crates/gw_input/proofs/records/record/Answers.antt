use Rattle.std.proofs.Common.{◌/◌, length, drop, replicate, Some, Ok, refl, sym, ap, ◌∙◌, subst, arith}
use Rattle.std.proofs.lemmas.List.{length-take}
use Rattle.gw_frame.specs.Record.{IsRecord, refusal_of}
use Rattle.gw_frame.specs.declared.refusal.FrameRefusal.TheVariants.{TooLong}
use Rattle.gw_input.proofs.HexDigits.{decoded_into, decoded_is, too_long, front_of}
use Rattle.gw_input.proofs.records.record.Goals as goal

pub returns-then-len-gt-RECORD_OCTETS-clause-refused : goal.returns-then-len-gt-RECORD_OCTETS-clause-refused
returns-then-len-gt-RECORD_OCTETS-clause-refused c =
    let into = decoded_into c.args.text.now (length c.args.text.now / 2) c.in_ok-spelled.ensures.digits
    c.in_ok-spelled.ensures.even refl in
    let many = c.if-len-gt-RECORD_OCTETS.true in
    (into.0, into.1, too_long into.0 (omega (arith, into.3)) ∙ ap (λ len. Some (TooLong len)) into.3)

pub returns-in-Ok-clause-named : goal.returns-in-Ok-clause-named
returns-in-Ok-clause-named c =
    let text = c.args.text.now in
    let few = c.if-len-gt-RECORD_OCTETS.false in
    let out = c.decode_to_slice-decoded.new.out in
    let is = decoded_is text out c.decode_to_slice-decoded.result (length text / 2) _ c.in_ok-spelled.ensures.digits
    c.in_ok-spelled.ensures.even refl
    (length-take (length text / 2) (replicate 16 0) ∙ (omega arith)) c.decode_to_slice-decoded.ensures.value in
    let front = front_of out (drop (length text / 2) (replicate 16 0)) (length text / 2) is.1 in
    record {
      hex = is.0 ∙ ap Ok (sym (c.in-Ok.ensures.read.1 ∙ front));
      valid = subst IsRecord (sym c.in-Ok.ensures.read.1) c.in-Ok.ensures.read.0;
    }

pub returns-in-Err-clause-refused : goal.returns-in-Err-clause-refused
returns-in-Err-clause-refused c =
    let text = c.args.text.now in
    let few = c.if-len-gt-RECORD_OCTETS.false in
    let out = c.decode_to_slice-decoded.new.out in
    let is = decoded_is text out c.decode_to_slice-decoded.result (length text / 2) _ c.in_ok-spelled.ensures.digits
    c.in_ok-spelled.ensures.even refl
    (length-take (length text / 2) (replicate 16 0) ∙ (omega arith)) c.decode_to_slice-decoded.ensures.value in
    let front = front_of out (drop (length text / 2) (replicate 16 0)) (length text / 2) is.1 in
    (out, is.0, sym (ap refusal_of front) ∙ c.in-Err.ensures.refused)
