use Rattle.std.proofs.Common.{◌≡◌, ℕ, ◌+◌, ◌-◌, List, take, drop, slice_index, ap, ap₂, ◌∙◌, arith}
use Rattle.gw_frame.specs.Record.{payload_length, payload_of}
use Rattle.gw_log.proofs.RoundTrip.{text_there}
use Rattle.gw_log.proofs.writing.frame_text.Goals as goal

pub returns : goal.returns
returns c =
    let octets = c.args.frame.now in
    let same = c.bytes-record.ensures.octets in
    let said : c.from.result ≡ payload_length octets = c.from.ensures ∙ ap (λ (xs : List ℕ). slice_index xs 4) same in
    let size : 8 + c.from.result - 8 ≡ payload_length octets = omega arith in
    let payload : take (8 + c.from.result - 8) (drop 8 c.bytes-record.result.now) ≡ payload_of octets =
    ap₂ (λ (n : ℕ) (xs : List ℕ). take n (drop 8 xs)) size same in
    text_there octets c.identifier_text-octets.result.items c.push.new.self.items c.with_body.result.items
    (take (8 + c.from.result - 8) (drop 8 c.bytes-record.result.now)) c.word-word.result
    (c.word-word.ensures ∙ c.id.ensures) c.identifier_text-octets.ensures.octets c.push.ensures.items c.with_body.ensures payload
