use Rattle.std.proofs.Common.{◌≡◌, true, sym, ap, ◌∙◌}
use Rattle.std.specs.Option.{is_some}
use Rattle.gw_core.specs.Standing.{Worker}
use Rattle.gw_core.proofs.Takings.{take_busy}
use Rattle.gw_core.proofs.worker.Worker.admit.Goals as goal

pub returns-then-is_some-clause-answers : goal.returns-then-is_some-clause-answers
returns-then-is_some-clause-answers c = λ all done s fronts.
    let v = c.args.self.now in
    let some : is_some v.active ≡ true = sym (ap (λ (w : Worker). is_some w.active) c.self.view_is) ∙ sym c.is_some.ensures
    ∙ c.if-is_some.true in
    take_busy all v done c.args.frame.now s some
