use Rattle.std.proofs.Common.{◌≡◌, drop, map}
use Rattle.gw_text.specs.AssemblerForms.{k_of}
use Rattle.gw_text.specs.FormViews.{piece_view}
use Rattle.gw_text.proofs.line.field.Given as goal

abbrev pub invariant-loop-at : goal.invariant-loop-at
invariant-loop-at l =
    k_of (map piece_view (drop l.at l.pieces)) (map (λ t. t.now) (drop l.at l.operands)) l.k
    ≡ k_of (map piece_view l.pieces) (map (λ t. t.now) l.operands) l.constant
