use Rattle.std.proofs.Common.{sym, ap, ◌∙◌, Some, None, Ok}
use Rattle.gw_judge.specs.Counting.{tally_with}
use Rattle.gw_judge.proofs.Hearing.{line_read, line_refused, entry_read, entry_refused, heard_nothing, heard_entry}
use Rattle.gw_judge.proofs.listening.hear_line.Goals as goal

pub returns-in-Some-clause-tally : goal.returns-in-Some-clause-tally
returns-in-Some-clause-tally g c =
    let read = sym c.read_line.ensures ∙ c.in-Ok.is ∙ ap Ok c.in-Some.is in
    c.count.ensures ∙ ap (λ fate. tally_with fate c.args.tally.now) (sym (line_read c.args.line.now (Some c.in-Some.said) read))

pub returns-in-Some-clause-heard : goal.returns-in-Some-clause-heard
returns-in-Some-clause-heard g c entries h =
    let read = sym c.read_line.ensures ∙ c.in-Ok.is ∙ ap Ok c.in-Some.is in
    heard_entry c.hear.result (g.L.Listener.has_heard c.hear.new.self) c.args.line.now entries c.in-Some.said
    (entry_read c.args.line.now (Some c.in-Some.said) read) (c.hear.ensures entries h)

pub returns-in-None-clause-tally : goal.returns-in-None-clause-tally
returns-in-None-clause-tally g c =
    let read = sym c.read_line.ensures ∙ c.in-Ok.is ∙ ap Ok c.in-None.is in
    c.count.ensures ∙ ap (λ fate. tally_with fate c.args.tally.now) (sym (line_read c.args.line.now None read))

pub returns-in-None-clause-heard : goal.returns-in-None-clause-heard
returns-in-None-clause-heard g c entries h =
    let read = sym c.read_line.ensures ∙ c.in-Ok.is ∙ ap Ok c.in-None.is in
    heard_nothing (g.L.Listener.has_heard c.args.listener.now) c.args.line.now entries
    (entry_read c.args.line.now None read) h

pub returns-in-Err-clause-tally : goal.returns-in-Err-clause-tally
returns-in-Err-clause-tally g c =
    let read = sym c.read_line.ensures ∙ c.in-Err.is in
    c.count-in-Err.ensures
    ∙ ap (λ fate. tally_with fate c.args.tally.now) (sym (line_refused c.args.line.now c.in-Err.why read))

pub returns-in-Err-clause-heard : goal.returns-in-Err-clause-heard
returns-in-Err-clause-heard g c entries h =
    let read = sym c.read_line.ensures ∙ c.in-Err.is in
    heard_nothing (g.L.Listener.has_heard c.args.listener.now) c.args.line.now entries
    (entry_refused c.args.line.now c.in-Err.why read) h
