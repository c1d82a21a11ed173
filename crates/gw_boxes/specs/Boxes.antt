-- Boxes of four ranges, each from its low number to below its end.
use Rattle.std.specs.Prelude.{◌≡◌, ℕ, min, max, Bool, true, false, ◌&&◌, nat_le, nat_lt, List, [], ◌∷◌}
use Rattle.std.specs.List.{list_any}
use Rattle.gw_boxes.specs.declared.boxes.Range.{Range}
use Rattle.gw_boxes.specs.declared.boxes.Block.{Block}
use Rattle.gw_boxes.specs.declared.boxes.Point.{Point}

abbrev pub in_range : ℕ → Range → Bool
in_range n range = nat_le range.low n && nat_lt n range.end

abbrev pub holds : Point → Block → Bool
holds p b =
    in_range p.group b.group && in_range p.source b.source && in_range p.destination b.destination && in_range p.port b.port

-- the point lies in the part, and in none of the others
pub record IsFree (part : Block) (others : List Block) (p : Point) : Type 0 where
  pub inside : holds p part ≡ true
  pub free : list_any (holds p) others ≡ false

-- each point of the part lies in one of the others
abbrev pub HasNoFree : Block → List Block → Type 0
HasNoFree part others = (p : Point) → holds p part ≡ true → list_any (holds p) others ≡ true

-- what only the search speaks of

abbrev pub is_empty : Range → Bool
is_empty range = nat_le range.end range.low

abbrev pub below : Range → ℕ → Range
below range end = record { low = range.low; end = min range.end end }

abbrev pub above : Range → ℕ → Range
above range low = record { low = max range.low low; end = range.end }

abbrev pub within : Range → Range → Range
within range other = above (below range other.end) other.low

abbrev pub box : Range → Range → Range → Range → Block
box group source destination port = record { group = group; source = source; destination = destination; port = port }

-- what a box has outside another: for each field what lies below and above, within the other in the fields before
abbrev pub pieces : Block → Block → List Block
pieces a b =
    box (below a.group b.group.low) a.source a.destination a.port ∷ box (above a.group b.group.end) a.source a.destination a.port
    ∷ box (within a.group b.group) (below a.source b.source.low) a.destination a.port
    ∷ box (within a.group b.group) (above a.source b.source.end) a.destination a.port
    ∷ box (within a.group b.group) (within a.source b.source) (below a.destination b.destination.low) a.port
    ∷ box (within a.group b.group) (within a.source b.source) (above a.destination b.destination.end) a.port
    ∷ box (within a.group b.group) (within a.source b.source) (within a.destination b.destination) (below a.port b.port.low)
    ∷ box (within a.group b.group) (within a.source b.source) (within a.destination b.destination) (above a.port b.port.end) ∷ []
