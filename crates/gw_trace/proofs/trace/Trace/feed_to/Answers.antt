use Rattle.std.proofs.Common.{◌++◌, sym, ap, ◌∙◌}
use Rattle.gw_trace.specs.DecodedPieces.{frames_in}
use Rattle.gw_trace.proofs.Feeding.{fed}
use Rattle.gw_trace.proofs.trace.Trace.feed_to.Goals as goal

pub returns-clause-frames : goal.returns-clause-frames
returns-clause-frames c = λ octets h given.
    c.give.ensures.frames ∙ ap (λ xs. xs ++ frames_in c.read_on-decoded.result) (c.reserve.ensures.items ∙ given)
    ∙ sym (fed c.args.self.now c.read_on-decoded.result octets c.args.piece.now c.read_on-decoded.ensures h).so_far

pub returns-clause-read : goal.returns-clause-read
returns-clause-read c =
    λ octets h. c.give.ensures.next
    ∙ (fed c.args.self.now c.read_on-decoded.result octets c.args.piece.now c.read_on-decoded.ensures h).read
