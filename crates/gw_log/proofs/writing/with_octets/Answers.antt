use Rattle.std.proofs.Common.{sym, arith}
use Rattle.std.proofs.lemmas.List.{append-nil}
use Rattle.hex.specs.Hex.{encode_with}
use Rattle.gw_log.proofs.DigitTexts.{more_octets}
use Rattle.gw_log.proofs.writing.with_octets.Goals as goal

pub loop-octet-preserved : goal.loop-octet-preserved
loop-octet-preserved c =
    let so_far = c.loop-octet.invariant.len in
    let one = c.push.ensures.len in
    let two = c.push-in-loop-octet.ensures.len in
    record {
      octets = more_octets c.args.text.items c.loop-octet.text.items _ _ c.args.octets.now c.loop-octet.octet-index _ _
          c.loop-octet-test.true c.loop-octet.invariant.octets c.push.ensures.items c.push-in-loop-octet.ensures.items
          c.upper_digit.ensures c.upper_digit-in-loop-octet.ensures;
      len = omega arith;
    }

pub loop-octet-init : goal.loop-octet-init
unfolding encode_with
loop-octet-init c = record { octets = sym (append-nil c.args.text.items); len = omega arith }
