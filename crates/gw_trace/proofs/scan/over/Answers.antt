use Rattle.std.proofs.Common.{None, Some, length, drop, sym, ap, ◌∙◌, arith}
use Rattle.gw_trace.specs.Traces.{beginning}
use Rattle.gw_trace.proofs.Contents.{contents_unfinished, contents_bad}
use Rattle.gw_trace.proofs.Scanned.{no_records, no_frames, few_in_front, front_with, rest_from, scan_ends}
use Rattle.gw_trace.proofs.scan.over.Goals as goal

pub records-init : goal.records-init
records-init c =
    record { within = omega arith; whole = no_records c.args.order; counted = sym (ap length (no_frames c.args.order)) }

pub overflow_add-front-in-Whole-2 : goal.overflow_add-front-in-Whole-2
overflow_add-front-in-Whole-2 c =
    let few = few_in_front c.args.order c.args.octets.now c.past_longest-front.result c.past_longest-front.ensures.front in
    omega arith

pub records-preserved : goal.records-preserved
records-preserved c =
    front_with c.args.order c.args.octets.now c.past_longest-front.result c.in-Whole.captured c.past_longest-front.ensures.front
    (sym (c.in-Whole.ensures.begins ∙ ap (beginning c.args.order) (rest_from c.past_longest-front.result.end c.args.octets.now)))

pub returns-in-Unfinished : goal.returns-in-Unfinished
returns-in-Unfinished c =
    let at = c.past_longest-front.result.end in
    (λ i. record { frames = c.ended.ensures.whole i; rest = c.ended.ensures.rest i; fault = c.ended.ensures.fault i })
    ∙ scan_ends c.args.order c.args.octets.now at None c.past_longest-front.ensures.front.whole
    (contents_unfinished c.args.order (drop at c.args.octets.now)
    (sym (c.in-Unfinished.ensures.begins ∙ ap (beginning c.args.order) (rest_from at c.args.octets.now))))

pub returns-in-Bad : goal.returns-in-Bad
returns-in-Bad c =
    let at = c.past_longest-front.result.end in
    (λ i. record {
      frames = c.ended-in-Bad.ensures.whole i;
      rest = c.ended-in-Bad.ensures.rest i;
      fault = c.ended-in-Bad.ensures.fault i;
    })
    ∙ scan_ends c.args.order c.args.octets.now at (Some c.in-Bad.why) c.past_longest-front.ensures.front.whole
    (contents_bad c.args.order (drop at c.args.octets.now) c.in-Bad.why
    (sym (c.in-Bad.ensures.begins ∙ ap (beginning c.args.order) (rest_from at c.args.octets.now))))
