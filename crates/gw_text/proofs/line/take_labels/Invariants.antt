use Rattle.std.proofs.Common.{length, ◌≡◌, ◌++◌, map}
use Rattle.gw_text.specs.Assembly.{line_labels, after_labels}
use Rattle.gw_text.proofs.line.take_labels.Given as goal

abbrev pub invariant-loop-labels : goal.invariant-loop-labels
invariant-loop-labels l =
    (map (λ t. t.now) l.labels.items ++ line_labels (map (λ t. t.now) l.rest) ≡ map (λ t. t.now) l.fn.labels.items
    ++ line_labels (map (λ t. t.now) l.tokens))
    × (after_labels (map (λ t. t.now) l.rest) ≡ after_labels (map (λ t. t.now) l.tokens))

abbrev pub decreases-loop-labels : goal.decreases-loop-labels
decreases-loop-labels l = length l.rest
