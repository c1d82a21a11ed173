use Rattle.std.proofs.Common.{◌≡◌, drop, map}
use Rattle.gw_text.specs.AssemblerForms.{fits}
use Rattle.gw_text.specs.FormViews.{piece_view}
use Rattle.gw_text.proofs.forms.fits_all.Given as goal

abbrev pub invariant-loop-at : goal.invariant-loop-at
invariant-loop-at l =
    fits (map piece_view (drop l.at l.pieces)) (map (λ t. t.now) (drop l.at l.operands))
    ≡ fits (map piece_view l.pieces) (map (λ t. t.now) l.operands)
