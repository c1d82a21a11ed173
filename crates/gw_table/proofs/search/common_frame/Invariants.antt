use Rattle.std.proofs.Common.{ℕ, ◌<◌}
use Rattle.gw_boxes.specs.declared.boxes.Point.{Point}
use Rattle.gw_table.specs.Universes.{universe_at, IsDecidedAt}
use Rattle.gw_table.proofs.search.common_frame.Given as goal

abbrev pub invariant-loop-number : goal.invariant-loop-number
invariant-loop-number l =
    (n : ℕ) → n < l.number → (p : Point) → IsDecidedAt (universe_at n) l.old l.a l.new l.b p → ⊥
