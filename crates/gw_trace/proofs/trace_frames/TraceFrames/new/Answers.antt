use Rattle.std.proofs.Common.{◌++◌, ◌∙◌, [], ap, refl, sym}
use Rattle.std.proofs.lemmas.Result.{err_from_is_err_and}
use Rattle.gw_trace.proofs.Resuming.{nothing_read}
use Rattle.gw_trace.proofs.Taking.{begins_well, refused_at_once}
use Rattle.gw_trace.proofs.trace_frames.TraceFrames.new.Goals as goal

pub returns-clause-begins : goal.returns-clause-begins
returns-clause-begins g c = λ before consumed.
    let begun = c.new-trace.ensures in
    begins_well g.R.Read.remaining before c.args.front.now _ consumed
    (c.feed.ensures.read [] begun (λ e. let is = c.in_ok-frames.was in cc))
    ((c.in_ok-frames.ensures.frames [] begun).so_far ∙ ap (λ l. l ++ c.in_ok-frames.frames.items) nothing_read
    ∙ sym c.into_iter.ensures.rest)
    refl

pub returns-in_err-frames-clause-refused : goal.returns-in_err-frames-clause-refused
returns-in_err-frames-clause-refused g c =
    let fault = err_from_is_err_and c.from_residual.result c.from_residual.ensures.1 in
    rw (fault.1, fault.2) (λ other. refused_at_once c.args.front.now c.in_err-frames.field-0.0
    (c.in_err-frames.ensures.refused [] c.new-trace.ensures other))
