use Rattle.std.proofs.Common.{rules}
use Rattle.example_calling.specs.Threads.{HaveRun, IsClosingFault, IsForwardingFault, IsRunFault}
use Rattle.example_calling.proofs.Forwarding.{passed_on, refused_so}
use Rattle.example_calling.proofs.Forwarded.{can_start, closing_refused, forwarded_if, run_refused}
use Rattle.example_calling.proofs.threads.forward_in_threads.Goals as goal

pub scoped-requires : goal.scoped-requires
scoped-requires g c =
    let parts = c.in_ok-parts.parts in
    record {
      at = λ a. (
        can_start c.args.first c.args.second c.args.frames.items parts.operator parts.ins.items parts.outs.items
            c.in_ok-ends.ends c.in_ok-ends.idle c.in_ok-parts.ensures.opened c.in_ok-ends.ensures.apart,
        search rules,
      );
    }

pub returns-in_err-ends-2-clause-refused : goal.returns-in_err-ends-2-clause-refused
returns-in_err-ends-2-clause-refused g c =
    let parts = c.in_ok-parts.parts in
    let ends = c.in_ok-ends.ends in
    let refused : IsRunFault ends.operator ends.feed c.args.second c.in_err-ends-2.field-0.0 = search rules in
    passed_on (IsForwardingFault c.args.first c.args.second c.args.frames.items) c.in_err-ends-2.field-0.0
    c.from_residual-in_err-ends-2.result c.from_residual-in_err-ends-2.ensures
    (run_refused c.args.first c.args.second c.args.frames.items parts.operator parts.ins.items parts.outs.items
    c.in_ok-ends.ends c.in_ok-ends.idle c.in_ok-parts.ensures.opened c.in_ok-ends.ensures.apart c.in_err-ends-2.field-0.0
    refused)

pub returns-clause-forwarded : goal.returns-clause-forwarded
returns-clause-forwarded g c =
    let parts = c.in_ok-parts.parts in
    let ran : HaveRun c.in_ok-ends.ends c.args.second c.in_ok-ends-2.ends = search rules in
    forwarded_if c.args.first c.args.second c.args.frames.items parts.operator parts.ins.items parts.outs.items
    c.in_ok-ends.ends c.in_ok-ends.idle c.in_ok-parts.ensures.opened c.in_ok-ends.ensures.apart c.in_ok-ends-2.ends ran
    c.close_ends.result c.close_ends.ensures.closed c.close_ends.ensures.outcomes c.close_ends.ensures.copies

pub returns-clause-refused : goal.returns-clause-refused
returns-clause-refused g c =
    refused_so IsClosingFault (IsForwardingFault c.args.first c.args.second c.args.frames.items) c.close_ends.result
    (closing_refused c.args.first c.args.second c.args.frames.items) c.close_ends.ensures.refused
