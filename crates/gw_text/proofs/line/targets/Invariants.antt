use Rattle.std.proofs.Common.{◌≡◌, ◌++◌, drop, map}
use Rattle.gw_text.specs.AssemblerForms.{labels_at}
use Rattle.gw_text.specs.FormViews.{piece_view}
use Rattle.gw_text.proofs.line.targets.Given as goal

abbrev pub invariant-loop-at : goal.invariant-loop-at
invariant-loop-at l =
    map (λ t. t.now) l.found.items ++ labels_at (map piece_view (drop l.at l.pieces)) (map (λ t. t.now) (drop l.at l.operands))
    ≡ labels_at (map piece_view l.pieces) (map (λ t. t.now) l.operands)
