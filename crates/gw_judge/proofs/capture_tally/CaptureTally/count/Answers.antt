use Rattle.std.proofs.Common.{◌∷◌, [], ◌++◌, refl, sym, ap, ◌∙◌, subst}
use Rattle.gw_trace.specs.Recorded.{refusals_among}
use Rattle.gw_judge.specs.Captures.{AreTold}
use Rattle.gw_judge.specs.declared.capture_tally.CaptureTally.{CaptureTally}
use Rattle.gw_judge.specs.Counting.{tally_with}
use Rattle.gw_judge.proofs.Captured.{frame_told, refused_told}
use Rattle.gw_judge.proofs.capture_tally.CaptureTally.count.Goals as goal

pub returns-in-Ok-clause-counted : goal.returns-in-Ok-clause-counted
returns-in-Ok-clause-counted g c = λ records at h.
    let fate = g.D.Decider.fate_by c.args.decider.now c.args.from in
    let now : CaptureTally = record {
      frames = c.count.new.self;
      refused = c.args.self.now.refused;
      first = c.args.self.now.first;
    } in (
      subst (λ said. AreTold fate (records ++ said ∷ []) now) (sym c.in-Ok.is)
          (frame_told fate records c.in-Ok.frame c.args.self.now now h
          (c.count.ensures ∙ ap (λ f. tally_with f c.args.self.now.frames) c.fate.ensures) refl refl),
      λ strict. ap (λ said. refusals_among (said ∷ [])) c.in-Ok.is,
    )

pub returns-in-Err-2-clause-counted : goal.returns-in-Err-2-clause-counted
returns-in-Err-2-clause-counted g c = λ records at h.
    let fate = g.D.Decider.fate_by c.args.decider.now c.args.from in (
      subst (λ said. AreTold fate (records ++ said ∷ []) c.refuse.new.self) (sym c.in-Err-2.is)
          (refused_told fate records (record { index = c.args.index; why = c.in-Err-2.why }) c.args.self.now c.refuse.new.self h
          at c.refuse.ensures.frames c.refuse.ensures.refused c.refuse.ensures.first),
      λ strict. absurd (cc),
    )
