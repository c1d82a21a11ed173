use Rattle.std.proofs.Common.{◌≡◌, ◌-◌, length, take, drop, ap, ◌∙◌, arith, length-drop}
use Rattle.std.proofs.lemmas.List.{take_all}
use Rattle.gw_trace.specs.Traces.{captured_length}
use Rattle.gw_trace.specs.Recorded.{frame_of}
use Rattle.gw_trace.proofs.Parting.{read_is}
use Rattle.gw_trace.proofs.records.whole_in.Goals as goal

pub returns-clause-whole : goal.returns-clause-whole
returns-clause-whole c = λ octets front there.
    let within = c.requires.within (omega (arith, c.if-there-lt-RECORD_HEADER.false)) in
    let len : c.captured_len-captured.result ≡ captured_length c.args.order c.args.front.now =
    c.captured_len-captured.ensures.len ∙ ap (captured_length c.args.order) c.octets.ensures.octets in
    let same : c.args.front.now ≡ octets = front ∙ take_all 32 octets (omega arith) in
    let count : c.captured_len-captured.result ≡ captured_length c.args.order octets =
    len ∙ ap (captured_length c.args.order) same in
    let left : take (length c.octets-2.result.now - 16) (drop 16 c.octets-2.result.now) ≡ drop 16 octets =
    take_all (length c.octets-2.result.now - 16) (drop 16 c.octets-2.result.now)
    (rw (length-drop 16 c.octets-2.result.now) (omega arith))
    ∙ ap (drop 16) (c.octets-2.ensures.octets ∙ same) in (
      omega (arith, count, len, within, there),
      read_is c.read.result _ c.read.ensures.read c.read.ensures.refused ∙ ap frame_of left,
    )
