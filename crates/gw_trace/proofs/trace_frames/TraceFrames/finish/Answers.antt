use Rattle.std.proofs.Common.{◌≡◌, ◌++◌, ◌∷◌, [], IsTrue, None, Some, append-nil, refl, ◌∙◌}
use Rattle.gw_trace.specs.TraceFrames.{has_ended}
use Rattle.gw_trace.proofs.Taking.{taken_next, taken_so_far}
use Rattle.gw_trace.proofs.trace_frames.TraceFrames.finish.Goals as goal

pub left-init : goal.left-init
left-init g c = record {
  read = λ before octets given h. ([], [], taken_so_far g.R.Read.remaining before octets given c.args.self.now h, λ ended. refl);
  ended = λ ended. ended;
}

pub left-preserved : goal.left-preserved
left-preserved g c =
    let none : IsTrue (has_ended c.left.self) → ⊥ = λ ended. some_frame (c.in-Some.ensures.steps.stays ended) in record {
      read = λ before octets given h.
          let so_far = c.left.invariant.read before octets given h in
          let next = taken_next g.R.Read.remaining before octets so_far.0 given so_far.1 c.left.self c.next.new.self
          (Some c.in-Some._frame) so_far.2 c.in-Some.ensures.steps in (
            next.0,
            so_far.1 ++ c.in-Some._frame ∷ [],
            next.1,
            λ ended. absurd (none (c.left.invariant.ended ended)),
          );
      ended = λ ended. absurd (none (c.left.invariant.ended ended));
    }
  where
    some_frame : Some c.in-Some._frame ≡ None → ⊥
    some_frame e = cc

pub returns-clause-left : goal.returns-clause-left
returns-clause-left g c = λ before octets given h.
    let so_far = c.left.invariant.read before octets given h in
    let next = taken_next g.R.Read.remaining before octets so_far.0 given so_far.1 c.left.self c.next.new.self None so_far.2
    c.in_default.ensures.steps in (
      next.0,
      so_far.1 ++ [],
      next.1,
      λ ended. append-nil so_far.1 ∙ so_far.3 ended,
    )
