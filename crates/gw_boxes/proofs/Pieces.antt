-- The pieces of a box outside another hold its points outside the other, and no others.
use Rattle.std.proofs.Common.{◌≡◌, ℕ, ◌+◌, ◌<◌, ◌≤◌, min, max, nat_lt, nat_le, Bool, true, false, ◌&&◌, ◌||◌, not, List}
use Rattle.std.proofs.Common.{length, get_or, refl, sym, ap, ◌∙◌, arith}
use Rattle.std.specs.Prelude.{take}
use Rattle.std.proofs.lemmas.Bool.{false≢true}
use Rattle.std.proofs.lemmas.List.{take_all}
use Rattle.std.proofs.lemmas.List.Folds.{list_any_at, list_any_more}
use Rattle.std.proofs.lemmas.Bool.Decides.{nat_tests}
use Rattle.std.specs.List.{list_any}
use Rattle.gw_boxes.specs.declared.boxes.Range.{Range}
use Rattle.gw_boxes.specs.declared.boxes.Block.{Block}
use Rattle.gw_boxes.specs.declared.boxes.Point.{Point}
use Rattle.gw_boxes.specs.Boxes.{in_range, holds, below, above, within, pieces, IsFree, HasNoFree}

-- where a number lies, by five tests: in a range, in another, and in the first's parts below, above and within the other
data Lies : Bool → Bool → Bool → Bool → Bool → Type 0 where
  Out : (other : Bool) → Lies false other false false false
  In : Lies true true false false true
  Below : Lies true false true false false
  Above : Lies true false false true false
  Both : Lies true false true true false

-- by the four comparisons with the ranges' bounds
lies_by : (a b c d : Bool) → Lies (a && b) (c && d) (a && (b && not c)) ((a && not d) && b) ((a && c) && (b && d))
lies_by false b c d = Out (c && d)
lies_by true false true true = Out true
lies_by true false true false = Out false
lies_by true false false true = Out false
lies_by true false false false = Out false
lies_by true true true true = In
lies_by true true true false = Above
lies_by true true false true = Below
lies_by true true false false = Both

lt_min : (n x y : ℕ) → nat_lt n (min x y) ≡ (nat_lt n x && nat_lt n y)
lt_min n x y = grind (arith, nat_tests)

max_le : (n x y : ℕ) → nat_le (max x y) n ≡ (nat_le x n && nat_le y n)
max_le n x y = grind (arith, nat_tests)

lt_not : (n x : ℕ) → nat_lt n x ≡ not (nat_le x n)
lt_not n x = grind (arith, nat_tests)

le_not : (n x : ℕ) → nat_le x n ≡ not (nat_lt n x)
le_not n x = grind (arith, nat_tests)

lies_of : (n : ℕ) (a b : Range) → Lies (in_range n a) (in_range n b) (in_range n (below a b.low)) (in_range n (above a b.end))
    (in_range n (within a b))
lies_of n a b =
    let e = lt_min n a.end b.low in
    let f = max_le n a.low b.end in
    let g = lt_min n a.end b.end in
    let h = max_le n a.low b.low in
    let i = lt_not n b.low in
    let j = le_not n b.end in
    rw (e, f, g, h, i, j) (lies_by (nat_le a.low n) (nat_lt n a.end) (nat_le b.low n) (nat_lt n b.end))

-- a number lies within two ranges where it lies in both
in_both : (n : ℕ) (a b : Range) → in_range n (within a b) ≡ (in_range n a && in_range n b)
in_both n a b =
    let e = max_le n a.low b.low in
    let f = lt_min n a.end b.end in
    rw (e, f) (by (nat_le a.low n) (nat_lt n a.end) (nat_le b.low n) (nat_lt n b.end))
  where
    by : (a b c d : Bool) → ((a && c) && (b && d)) ≡ ((a && b) && (c && d))
    by true b c d = swap b c d
      where
        swap : (b c d : Bool) → (c && (b && d)) ≡ (b && (c && d))
        swap true c d = refl
        swap false true d = refl
        swap false false d = refl
    by false b c d = refl

pub within_both : (p : Point) (a b : Block)
    → (in_range p.group (within a.group b.group) && in_range p.source (within a.source b.source)
    && in_range p.destination (within a.destination b.destination) && in_range p.port (within a.port b.port))
    ≡ (holds p a && holds p b)
within_both p a b =
    let e = in_both p.group a.group b.group in
    let f = in_both p.source a.source b.source in
    let g = in_both p.destination a.destination b.destination in
    let h = in_both p.port a.port b.port in
    rw (e, f, g, h) (both (in_range p.group a.group) (in_range p.source a.source) (in_range p.destination a.destination)
    (in_range p.port a.port) (in_range p.group b.group) (in_range p.source b.source) (in_range p.destination b.destination)
    (in_range p.port b.port))
  where
    both : (a b c d e f g h : Bool)
        → ((a && e) && (b && f) && (c && g) && (d && h)) ≡ ((a && b && c && d) && (e && f && g && h))
    both a b c d e f g h = grind arith

once : (x : Bool) → (x || false) ≡ (x && true)
once true = refl
once false = refl

twice : (x : Bool) → (x || (x || false)) ≡ (x && true)
twice true = refl
twice false = refl

-- some piece's four tests are true where the box's are, and not the other's
four : {i o l h m j p k g n r q d e v t u b c w : Bool} → Lies i o l h m → Lies j p k g n → Lies r q d e v → Lies t u b c w
    → ((l && j && r && t) || ((h && j && r && t) || ((m && k && r && t) || ((m && g && r && t) || ((m && n && d && t)
    || ((m && n && e && t) || ((m && n && v && b) || ((m && n && v && c) || false))))))))
    ≡ ((i && j && r && t) && not (o && p && q && u))
four {j = j} {r = r} {t = t} (Out o) y z x = refl
four {j = j} {r = r} {t = t} Below y z x = once (j && r && t)
four {j = j} {r = r} {t = t} Above y z x = once (j && r && t)
four {j = j} {r = r} {t = t} Both y z x = twice (j && r && t)
four {r = r} {t = t} In (Out o) z x = refl
four {r = r} {t = t} In Below z x = once (r && t)
four {r = r} {t = t} In Above z x = once (r && t)
four {r = r} {t = t} In Both z x = twice (r && t)
four {t = t} In In (Out o) x = refl
four {t = t} In In Below x = once t
four {t = t} In In Above x = once t
four {t = t} In In Both x = twice t
four In In In (Out o) = refl
four In In In Below = refl
four In In In Above = refl
four In In In Both = refl
four In In In In = refl

pub pieces_hold : (p : Point) (a b : Block) → list_any (holds p) (pieces a b) ≡ (holds p a && not (holds p b))
pieces_hold p a b =
    four (lies_of p.group a.group b.group) (lies_of p.source a.source b.source)
    (lies_of p.destination a.destination b.destination) (lies_of p.port a.port b.port)

-- the search goes over the pieces of a part outside the first of the others

from_both : (x y : Bool) → (x && not y) ≡ true → (x ≡ true) × (y ≡ false)
from_both true true is = absurd (false≢true is)
from_both true false is = (refl, refl)
from_both false y is = absurd (false≢true is)

or_either : (x y : Bool) → (x || y) ≡ true → (z : Bool) → (x ≡ true → z ≡ true) → (y ≡ true → z ≡ true) → z ≡ true
or_either true y is z one two = one refl
or_either false y is z one two = two is

-- `||` of three, and of one that does not hold
pub or_assoc : (a b c : Bool) → (a || b) || c ≡ a || (b || c)
or_assoc true b c = refl
or_assoc false b c = refl

pub or_false : (a : Bool) → a ≡ (a || false)
or_false true = refl
or_false false = refl

-- one more of the others: the first or one of them holds the point

module _ (p : Point) (first : Block) (others : List Block) (i : ℕ) (d : Block) (below : i < length others) where
  pub one_other : (x y : Bool) → x ≡ (holds p first || list_any (holds p) (take i others))
      → y ≡ (x || holds p (get_or others i d))
      → y ≡ (holds p first || list_any (holds p) (take (i + 1) others))
  one_other x y so_far is =
      let more = list_any_more (holds p) others i d below in
      is ∙ (rw (so_far, more) (or_assoc (holds p first) (list_any (holds p) (take i others)) (holds p (get_or others i d))))

  -- a box that shares no point with the part has none of its points
  pub no_other : (x : Bool) → x ≡ (holds p first || list_any (holds p) (take i others)) → (part both : Block)
      → holds p both ≡ (holds p part && holds p (get_or others i d)) → holds p part ≡ true → holds p both ≡ false
      → x ≡ (holds p first || list_any (holds p) (take (i + 1) others))
  no_other x so_far part both is inside outside =
      let none : holds p (get_or others i d) ≡ false =
      sym (ap (λ b. b && holds p (get_or others i d)) inside) ∙ sym is ∙ outside in
      one_other x x so_far (or_false x ∙ ap (λ b. x || b) (sym none))

module _ (part largest : Block) (others rest items : List Block) (is : items ≡ pieces part largest)
    (same : (p : Point) → holds p part ≡ true → (holds p largest || list_any (holds p) rest) ≡ list_any (holds p) others) where
  -- a point of a piece that lies in none of the rest
  pub free_in_piece : (i : ℕ) (d : Block) (p : Point) → i < 8 → IsFree (get_or items i d) rest p → IsFree part others p
  free_in_piece i d p below free =
      let len : length items ≡ 8 = ap length is in
      let some : list_any (holds p) items ≡ true = list_any_at (holds p) items i d (omega (arith, len, below)) free.inside in
      let both = from_both (holds p part) (holds p largest)
      (sym (pieces_hold p part largest) ∙ ap (list_any (holds p)) (sym is) ∙ some) in
      let e = both.1 in
      let f = free.free in
      record { inside = both.0; free = sym (same p both.0) ∙ (rw (e, f) refl) }

  -- the points of the first pieces lie in the rest
  abbrev pub Settled : ℕ → Type 0
  Settled i = (p : Point) → list_any (holds p) (take i items) ≡ true → list_any (holds p) rest ≡ true

  pub one_more : (i : ℕ) (d : Block) → i < 8 → Settled i → HasNoFree (get_or items i d) rest → Settled (i + 1)
  one_more i d below settled none p found =
      let len : length items ≡ 8 = ap length is in
      or_either (list_any (holds p) (take i items)) (holds p (get_or items i d))
      (sym (list_any_more (holds p) items i d (omega (arith, len, below))) ∙ found) (list_any (holds p) rest) (settled p) (none p)

  pub none_left : (i : ℕ) → 8 ≤ i → Settled i → HasNoFree part others
  none_left i past settled p inside = by (holds p largest) refl
    where
      by : (in_largest : Bool) → holds p largest ≡ in_largest → list_any (holds p) others ≡ true
      by true e = sym (same p inside) ∙ (rw e refl)
      by false e =
          let len : length items ≡ 8 = ap length is in
          let all = take_all i items (omega (arith, len, past)) in
          let some : list_any (holds p) (take i items) ≡ true =
          ap (list_any (holds p)) (all ∙ is) ∙ pieces_hold p part largest ∙ (rw (inside, e) refl) in
          let f = settled p some in
          sym (same p inside) ∙ (rw (e, f) refl)
