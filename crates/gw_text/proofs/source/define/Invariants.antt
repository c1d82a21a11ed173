use Rattle.std.proofs.Common.{◌≡◌, ◌++◌, drop, map}
use Rattle.gw_text.specs.Assembly.{defined_at}
use Rattle.gw_text.specs.Sources.{label_view}
use Rattle.gw_text.proofs.source.define.Given as goal

abbrev pub invariant-loop-name : goal.invariant-loop-name
invariant-loop-name l =
    map label_view l.labels.items ++ defined_at l.place l.line (map (λ t. t.now) (drop l.name-index l.names))
    ≡ map label_view l.fn.labels.items ++ defined_at l.place l.line (map (λ t. t.now) l.names)
