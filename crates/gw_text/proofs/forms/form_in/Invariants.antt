use Rattle.std.proofs.Common.{◌≡◌, drop, map}
use Rattle.gw_text.specs.AssemblerForms.{form_among}
use Rattle.gw_text.specs.FormViews.{form_view}
use Rattle.gw_text.proofs.forms.form_in.Given as goal

abbrev pub invariant-loop-form : goal.invariant-loop-form
invariant-loop-form l =
    form_among (map form_view (drop l.form-index l.forms)) (map (λ t. t.now) l.operands)
    ≡ form_among (map form_view l.forms) (map (λ t. t.now) l.operands)
