use Rattle.std.proofs.Common.{◌≡◌, ◌≤◌, ◌<◌, ◌+◌, ◌-◌, ◌^◌, [], ◌∷◌, ◌++◌, length, drop, Some, None, sym, ap, ◌∙◌, arith}
use Rattle.gw_trace.specs.Traces.{beginning, reading_from, contents, behind, captured, index_of}
use Rattle.gw_trace.specs.Progress.{kept_after}
use Rattle.gw_trace.proofs.Beginnings.{unfinished_is_short}
use Rattle.gw_trace.proofs.Feeding.{decoded, record_short, record_bad, record_whole, kept_behind}
use Rattle.gw_trace.proofs.Joining.{long_enough}
use Rattle.std.proofs.lemmas.Bool.Decides.{nat_tests}
use Rattle.gw_trace.proofs.decoded_piece.decode_records.Goals as goal

pub joined-joined-requires-clause-within : goal.joined-joined-requires-clause-within
joined-joined-requires-clause-within c = omega (arith, unfinished_is_short c.args.order c.args.partial.now c.requires)

pub returns-in-Unfinished : goal.returns-in-Unfinished
returns-in-Unfinished c =
    let fits : c.args.given < 2 ^ 64 = omega arith in
    let r = record_short c.args.order c.args.given (c.args.partial.now ++ c.args.piece.now) c.joined-joined.result fits
    c.joined-joined.ensures
    (c.in-Unfinished.ensures.begins ∙ ap (beginning c.args.order) c.octets-front.ensures.octets) in
    decoded c.nothing.result c.args.given
    (reading_from c.args.order c.args.given (contents c.args.order (c.args.partial.now ++ c.args.piece.now))) None []
    c.nothing.ensures.first c.nothing.ensures.others
    (sym (ap (λ a. a.frames) r.0)) (c.nothing.ensures.next ∙ c.among.ensures ∙ r.1)

pub returns-in-Bad : goal.returns-in-Bad
returns-in-Bad c =
    let fits : c.args.given < 2 ^ 64 = omega arith in
    let r = record_bad c.args.order c.args.given (c.args.partial.now ++ c.args.piece.now) c.joined-joined.result c.in-Bad.why fits
    c.joined-joined.ensures
    (c.in-Bad.ensures.begins ∙ ap (beginning c.args.order) c.octets-front.ensures.octets) in
    decoded c.nothing-in-Bad.result c.args.given
    (reading_from c.args.order c.args.given (contents c.args.order (c.args.partial.now ++ c.args.piece.now))) None []
    c.nothing-in-Bad.ensures.first c.nothing-in-Bad.ensures.others
    (sym r.0) (c.nothing-in-Bad.ensures.next ∙ c.failed.ensures ∙ r.1)

pub overflow_sub-captured : goal.overflow_sub-captured
overflow_sub-captured c =
    let w = record_whole c.args.order c.args.partial.now c.args.piece.now c.joined-joined.result c.in-Whole.captured
    c.joined-joined.ensures c.requires
    (c.in-Whole.ensures.begins ∙ ap (beginning c.args.order) c.octets-front.ensures.octets) in
    omega (arith, w.longer, ap length c.octets.ensures.octets)

pub split_at-requires : goal.split_at-requires
split_at-requires c =
    let all : 16 + c.in-Whole.captured ≤ length c.joined-joined.result =
    omega (arith, c.in-Whole.ensures.within, ap length c.octets-front.ensures.octets) in
    let long = long_enough 32 (16 + c.in-Whole.captured) c.args.partial.now c.args.piece.now c.joined-joined.result
    c.joined-joined.ensures all in
    omega (arith, long, ap length c.octets.ensures.octets)

pub returns-in-Whole : goal.returns-in-Whole
returns-in-Whole c =
    let w = record_whole c.args.order c.args.partial.now c.args.piece.now c.joined-joined.result c.in-Whole.captured
    c.joined-joined.ensures c.requires
    (c.in-Whole.ensures.begins ∙ ap (beginning c.args.order) c.octets-front.ensures.octets) in
    let is : contents c.args.order (c.args.partial.now ++ c.args.piece.now) ≡ behind
    (captured c.in-Whole.captured c.joined-joined.result) (contents c.args.order c.split_at.result.1.now) =
    w.contents_are
    ∙ ap (λ m. behind (captured c.in-Whole.captured c.joined-joined.result)
    (contents c.args.order (drop (16 + c.in-Whole.captured - m) c.args.piece.now))) (sym (ap length c.octets.ensures.octets))
    ∙ ap (λ ys. behind (captured c.in-Whole.captured c.joined-joined.result) (contents c.args.order ys))
    (sym c.split_at.ensures.back) in
    let next : c.saturating_add.result ≡ index_of (c.args.given + 1) = grind (arith, nat_tests) in
    decoded c.records.result c.args.given
    (reading_from c.args.order c.args.given (contents c.args.order (c.args.partial.now ++ c.args.piece.now)))
    (Some c.frame_in-first.result) (contents c.args.order c.split_at.result.1.now).frames c.records.ensures.first
    c.records.ensures.others
    (ap (λ f. f ∷ (contents c.args.order c.split_at.result.1.now).frames)
    (c.frame_in-first.ensures ∙ ap (captured c.in-Whole.captured) c.octets-front.ensures.octets)
    ∙ sym (ap (λ a. (reading_from c.args.order c.args.given a).frames) is))
    (c.records.ensures.next
    ∙ kept_behind c.args.order c.args.given c.saturating_add.result (captured c.in-Whole.captured c.joined-joined.result)
    (contents c.args.order c.split_at.result.1.now) next
    ∙ sym (ap (λ a. kept_after c.args.given (reading_from c.args.order c.args.given a)) is))
