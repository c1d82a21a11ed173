use Rattle.std.proofs.Common.{◌≡◌, ◌++◌, sym, ap, ◌∙◌}
use Rattle.gw_trace.specs.declared.stage.Stage.TheVariants.{Failed}
use Rattle.gw_trace.specs.declared.refusal.TraceRefusal.TheVariants.{OutOfMemory}
use Rattle.gw_trace.specs.DecodedPieces.{frames_in}
use Rattle.gw_trace.proofs.Faults.{no_memory_fault}
use Rattle.gw_trace.proofs.Feeding.{fed, refuses, refusal_some, gives}
use Rattle.gw_trace.proofs.trace.Trace.feed.Goals as goal

pub returns-in-Some-clause-refused : goal.returns-in-Some-clause-refused
returns-in-Some-clause-refused c = λ octets h other.
    refuses c.read_on-decoded.result octets c.args.piece.now c.in-Some.fault
    (fed c.args.self.now c.read_on-decoded.result octets c.args.piece.now c.read_on-decoded.ensures h) (sym c.in-Some.ensures)

pub returns-in-Some-clause-read : goal.returns-in-Some-clause-read
returns-in-Some-clause-read c =
    λ octets h other. (fed c.args.self.now c.read_on-decoded.result octets c.args.piece.now c.read_on-decoded.ensures h).read

pub returns-in-Some-clause-unchanged : goal.returns-in-Some-clause-unchanged
returns-in-Some-clause-unchanged c = λ octets h e.
    let f = fed c.args.self.now c.read_on-decoded.result octets c.args.piece.now c.read_on-decoded.ensures h in
    let met = (refusal_some (frames_in c.read_on-decoded.result) c.read_on-decoded.result.next.stage c.in-Some.fault
    (sym c.in-Some.ensures)).1 in
    let same : c.in-Some.fault ≡ OutOfMemory = cc in
    absurd (no_memory_fault (octets ++ c.args.piece.now) (sym f.stage ∙ met ∙ ap Failed same))

pub returns-in-Ok-clause-frames : goal.returns-in-Ok-clause-frames
returns-in-Ok-clause-frames c = λ octets h.
    gives c.read_on-decoded.result octets c.args.piece.now c.give.new.frames.items
    (fed c.args.self.now c.read_on-decoded.result octets c.args.piece.now c.read_on-decoded.ensures h) (sym c.in-None.ensures)
    (c.give.ensures.frames ∙ ap (λ xs. xs ++ frames_in c.read_on-decoded.result) c.in-Ok.ensures.items)

pub returns-in-Ok-clause-read : goal.returns-in-Ok-clause-read
returns-in-Ok-clause-read c =
    λ octets h other. c.give.ensures.next
    ∙ (fed c.args.self.now c.read_on-decoded.result octets c.args.piece.now c.read_on-decoded.ensures h).read
