use Rattle.std.proofs.Common.{drop, map}
use Rattle.gw_text.specs.Sources.{label_view, place_in}
use Rattle.gw_text.proofs.LabelTable.{SoFar}
use Rattle.gw_text.proofs.places.places.Given as goal

abbrev pub invariant-loop-label : goal.invariant-loop-label
invariant-loop-label l = SoFar (place_in l.places) (map label_view (drop l.label-index l.labels)) (map label_view l.labels)
