use Rattle.std.proofs.Common.{◌++◌, sym, subst}
use Rattle.std.specs.Option.{option_to_list}
use Rattle.gw_trace.specs.Recorded.{IsReadTo}
use Rattle.gw_judge.specs.CapturesUnderWay.{Refuses}
use Rattle.gw_judge.proofs.Captured.{ends_strictly, refused_header, steps}
use Rattle.gw_judge.proofs.capture.CaptureJudging.step.Goals as goal

pub returns-in-Ok-count-clause-counted : goal.returns-in-Ok-count-clause-counted
returns-in-Ok-count-clause-counted g c = λ octets h.
    let fate = g.D.Decider.fate_by c.args.decider.now c.args.from in
    steps fate c.args.strict octets c.args.piece.now c.args.self.now _ h c.in-Ok.field-0 c.in-Some.said
    (c.in-Ok.ensures.taken octets h.records h.read) c.in-Some.is
    (c.in-Ok-count.ensures.counted h.records (c.count-index.ensures octets h.records h.read) h.counted)

pub returns-in-Err-count-clause-refused : goal.returns-in-Err-count-clause-refused
returns-in-Err-count-clause-refused g c = λ octets h.
    let fate = g.D.Decider.fate_by c.args.decider.now c.args.from in
    let taken = c.in-Ok.ensures.taken octets h.records h.read in
    ends_strictly fate c.args.strict octets taken.used c.in-Ok.field-0.rest.now c.args.piece.now h.records c.in-Some.said
    c.take.new.self c.in-Err-count.fault c.count.new.self h.fine taken.split
    (subst (λ whole. IsReadTo c.take.new.self (octets ++ taken.used) (h.records ++ option_to_list whole)) c.in-Some.is taken.read)
    (c.in-Err-count.ensures.counted h.records (c.count-index.ensures octets h.records h.read) h.counted)

pub returns-in-Err-clause-refused : goal.returns-in-Err-clause-refused
returns-in-Err-clause-refused g c = λ octets h.
    let fate = g.D.Decider.fate_by c.args.decider.now c.args.from in
    let refused = c.in-Err.ensures.refused octets h.records h.read in
    subst (Refuses c.args.strict (octets ++ c.args.piece.now) c.fault.result.judged) (sym c.fault.ensures.why)
    (refused_header fate c.args.strict (octets ++ c.args.piece.now) h.records c.take.new.self c.args.self.now.told
    c.fault.result.judged _ h.counted c.fault.ensures.judged refused.0 refused.1)
