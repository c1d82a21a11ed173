-- Frames by the points of the universes, and the list of differences pair by pair.
use Rattle.std.proofs.Common.{◌≡◌, ℕ, ◌+◌, ◌%◌, ◌<◌, ◌≤◌, Bool, true, false, List, [], ◌∷◌, refl, sym, subst, ◌∙◌, arith}
use Rattle.std.proofs.lemmas.Bool.{lt-ltb, le-ltb}
use Rattle.std.specs.List.{position_or_len}
use Rattle.gw_boxes.specs.declared.boxes.Point.{Point}
use Rattle.gw_boxes.specs.Boxes.{holds}
use Rattle.gw_table.specs.declared.table.Rule.{Rule}
use Rattle.gw_table.specs.declared.universe.Universe.{Universe}
use Rattle.gw_table.specs.Table.{matches}
use Rattle.gw_table.specs.Universes.{block_of, universe, whole, universe_at, lies_in_rule, IsDecidedAt, IsFrameAt}
use Rattle.gw_table.specs.PartIndices.{HoldFirst}
use Rattle.gw_table.proofs.Universes.{PointOf, point_of, inside_of}

-- two tests that agree on each element find the same index
index_alike : {A : Type 0} (test other : A → Bool) → ((x : A) → test x ≡ other x) → (xs : List A)
    → position_or_len test xs ≡ position_or_len other xs
index_alike test other same [] = refl
index_alike test other same (x ∷ xs) =
    let here = same x in
    let later = index_alike test other same xs in
    rw (here, later) refl

-- a point's port is one of a gateway
port_inside : (u : Universe) (p : Point) → holds p (whole u) ≡ true → p.port < 16
port_inside u p is = (inside_of u.pdu1 u.page p is).port

module _ (old : List Rule) (a : ℕ) (new : List Rule) (b : ℕ) where
  -- the frame of a point is decided where the point is
  pub frame_there : (u : Universe) (p : Point) (octets : List ℕ) → IsDecidedAt u old a new b p → IsFrameAt u.pdu1 p octets
      → HoldFirst old a new b octets p.port
  frame_there u p octets at frame = record {
    carried = frame.carried;
    extended = frame.extended;
    port_fits = port_inside u p at.inside;
    first = index_alike (matches octets p.port) (lies_in_rule u p) frame.same old ∙ at.first;
    second = index_alike (matches octets p.port) (lies_in_rule u p) frame.same new ∙ at.second;
  }

  -- where no universe has a point that is decided there, there is no frame
  pub no_frame : (n : ℕ) → 8 ≤ n → ((number : ℕ) → number < n → (p : Point) → IsDecidedAt (universe_at number) old a new b p → ⊥)
      → (octets : List ℕ) (port : ℕ) → HoldFirst old a new b octets port → ⊥
  no_frame n all none octets port at = by point.pdu1 point.inside point.same
    where
      point : PointOf octets port
      point = point_of octets port at.port_fits

      at_number : (number : ℕ) → number < 8 → (u : Universe) → universe_at number ≡ u → holds point.point (whole u) ≡ true
          → ((rule : Rule) → matches octets port rule ≡ lies_in_rule u point.point rule) → ⊥
      at_number number below u is inside same =
          none number (omega (arith, all, below)) point.point
          (subst (λ v. IsDecidedAt v old a new b point.point) (sym is) (record {
            inside = inside;
            first = index_alike (lies_in_rule u point.point) (matches octets port) (λ rule. sym (same rule)) old ∙ at.first;
            second = index_alike (lies_in_rule u point.point) (matches octets port) (λ rule. sym (same rule)) new ∙ at.second;
          }))

      by : (pdu1 : Bool) → holds point.point (universe pdu1 point.page) ≡ true
          → ((rule : Rule) → matches octets port rule ≡ holds point.point (block_of pdu1 rule)) → ⊥
      by true inside same =
          let fits = point.page_fits in
          let e = lt-ltb point.page 4 fits in
          let f : point.page % 4 ≡ point.page = omega (arith, fits) in
          at_number point.page (omega (arith, fits)) (record { pdu1 = true; page = point.page }) (rw (e, f) refl) inside same
      by false inside same =
          let fits = point.page_fits in
          let e = le-ltb (4 + point.page) 4 (omega arith) in
          let f : (4 + point.page) % 4 ≡ point.page = omega (arith, fits) in
          at_number (4 + point.page) (omega (arith, fits)) (record { pdu1 = false; page = point.page }) (rw (e, f) refl)
          inside same
