use Rattle.std.proofs.Common.{◌≡◌, ◌≤◌, ◌<◌, ◌-◌, [], ◌++◌, length, length-append, drop, None, Ok, Err, sym, ap, ◌∙◌, arith}
use Rattle.gw_trace.specs.Traces.{reading, reading_from, contents}
use Rattle.gw_trace.specs.Progress.{kept_after}
use Rattle.gw_trace.proofs.Feeding.{decoded, header_short, header_whole}
use Rattle.gw_trace.proofs.Joining.{drop_behind, long_enough}
use Rattle.gw_trace.proofs.decoded_piece.decode_header.Goals as goal

pub returns-then-octets-lt-HEADER : goal.returns-then-octets-lt-HEADER
returns-then-octets-lt-HEADER c =
    let short : length c.joined-joined.result < 24 = omega (arith, ap length c.octets.ensures.octets) in
    let r = header_short (c.args.partial.now ++ c.args.piece.now) c.joined-joined.result c.joined-joined.ensures short in
    decoded c.nothing.result 0 (reading (c.args.partial.now ++ c.args.piece.now)) None [] c.nothing.ensures.first
    c.nothing.ensures.others
    (sym (ap (λ a. a.frames) r)) (c.nothing.ensures.next ∙ c.beginning.ensures ∙ sym (ap (kept_after 0) r))

pub split_at-requires : goal.split_at-requires
split_at-requires c =
    let whole : 24 ≤ length c.joined-joined.result = omega (arith, ap length c.octets.ensures.octets) in
    let long = long_enough 24 24 c.args.partial.now c.args.piece.now c.joined-joined.result c.joined-joined.ensures whole in
    omega (arith, long, ap length c.octets-in-Ok.ensures.octets)

pub returns-in-Ok : goal.returns-in-Ok
returns-in-Ok c =
    let whole : 24 ≤ length c.joined-joined.result = omega (arith, ap length c.octets.ensures.octets) in
    let enough = long_enough 24 24 c.args.partial.now c.args.piece.now c.joined-joined.result c.joined-joined.ensures whole in
    let long : 24 ≤ length (c.args.partial.now ++ c.args.piece.now) =
    omega (arith, enough, length-append c.args.partial.now c.args.piece.now) in
    let fits : length c.args.partial.now ≤ 24 = omega arith in
    let back : drop 24 (c.args.partial.now ++ c.args.piece.now) ≡ c.split_at.result.1.now =
    drop_behind 24 c.args.partial.now c.args.piece.now fits
    ∙ ap (λ n. drop (24 - n) c.args.piece.now) (sym (ap length c.octets-in-Ok.ensures.octets)) ∙ sym c.split_at.ensures.back in
    let r : reading (c.args.partial.now ++ c.args.piece.now) ≡ reading_from c.in-Ok.order 0
    (contents c.in-Ok.order c.split_at.result.1.now) =
    header_whole (c.args.partial.now ++ c.args.piece.now) c.octets-2.result.now (Ok c.in-Ok.order)
    (c.octets-2.ensures.octets ∙ c.joined-joined.ensures) long c.in-Ok.ensures
    ∙ ap (λ xs. reading_from c.in-Ok.order 0 (contents c.in-Ok.order xs)) back in
    decoded c.records.result 0 (reading (c.args.partial.now ++ c.args.piece.now)) None
    (contents c.in-Ok.order c.split_at.result.1.now).frames c.records.ensures.first c.records.ensures.others
    (sym (ap (λ a. a.frames) r)) (c.records.ensures.next ∙ sym (ap (kept_after 0) r))

pub returns-in-Err : goal.returns-in-Err
returns-in-Err c =
    let whole : 24 ≤ length c.joined-joined.result = omega (arith, ap length c.octets.ensures.octets) in
    let enough = long_enough 24 24 c.args.partial.now c.args.piece.now c.joined-joined.result c.joined-joined.ensures whole in
    let long : 24 ≤ length (c.args.partial.now ++ c.args.piece.now) =
    omega (arith, enough, length-append c.args.partial.now c.args.piece.now) in
    let r = header_whole (c.args.partial.now ++ c.args.piece.now) c.octets-2.result.now (Err c.in-Err.fault)
    (c.octets-2.ensures.octets ∙ c.joined-joined.ensures) long c.in-Err.ensures in
    decoded c.nothing-in-Err.result 0 (reading (c.args.partial.now ++ c.args.piece.now)) None [] c.nothing-in-Err.ensures.first
    c.nothing-in-Err.ensures.others
    (sym (ap (λ a. a.frames) r)) (c.nothing-in-Err.ensures.next ∙ c.failed.ensures ∙ sym (ap (kept_after 0) r))
