-- Placing copies, lane by lane.
use Rattle.std.proofs.Common.{◌≡◌, ℕ, ◌+◌, ◌<◌, ◌≤◌, ◌∙◌, ◌++◌, ◌∷◌, length-append, Bool, true, false, List, []}
use Rattle.std.proofs.Common.{length, slice_set, Option, None, IsSome, IsTrue, MatchBool, ⊎_elim, sym, ap, subst, refl}
use Rattle.std.proofs.Common.{arith}
use Rattle.std.proofs.lemmas.Bool.{cases_eq, cases_lt}
use Rattle.std.proofs.lemmas.List.{get_or-set_same, get_or-set_other, get_or_append_left, get_or_past, get_or_push, length-set}
use Rattle.gw_ledger.specs.Ports.{has_port}
use Rattle.gw_ledger.specs.declared.outcome.FrameCopy.{FrameCopy}
use Rattle.gw_lanes.specs.Ends.{Inlet, Outlet}
use Rattle.gw_ports.specs.Ends.{lane_at, HasLanes}
use Rattle.gw_ports.specs.Sending.{PopsFrom}
use Rattle.gw_ports.specs.Placing.{Appends, WasFull, PlacesCopies}

-- `PlacesAt`, where only the lanes to the ports below a number were looked at
abbrev pub At : ℕ → List ℕ → FrameCopy → ℕ → Option Inlet → Option Inlet → Bool → Type 0
At count allowed copy port lane lane' placed =
    MatchBool placed
    ((port < count) × IsTrue (has_port port allowed) × Appends lane copy lane')
    ((lane' ≡ lane) × (port < count → IsTrue (has_port port allowed) → WasFull lane))

pub record PlacesBelow (count : ℕ) (allowed : List ℕ) (copy : FrameCopy) (placed : List ℕ)
    (lanes lanes' : List (Option Inlet)) : Type 0 where
  pub ports : (port : ℕ) → At count allowed copy port (lane_at lanes port) (lane_at lanes' port) (has_port port placed)

-- the port that is next was not placed on yet
unplaced : (placed : Bool) (count : ℕ) (allowed : List ℕ) (copy : FrameCopy) (lane lane' : Option Inlet)
    → At count allowed copy count lane lane' placed → placed ≡ false
unplaced true count allowed copy lane lane' at = let below : count < count = at.0 in absurd (omega arith)
unplaced false count allowed copy lane lane' at = refl

pub not_yet : (count : ℕ) (allowed : List ℕ) (copy : FrameCopy) (placed : List ℕ) (lanes now : List (Option Inlet))
    → PlacesBelow count allowed copy placed lanes now
    → (has_port count placed ≡ false) × (lane_at now count ≡ lane_at lanes count)
not_yet count allowed copy placed lanes now so_far =
    let at = so_far.ports count in
    let free = unplaced (has_port count placed) count allowed copy (lane_at lanes count) (lane_at now count) at in
    (free, (subst (λ b. At count allowed copy count (lane_at lanes count) (lane_at now count) b) free at).0)

wider : (placed : Bool) (count : ℕ) (allowed : List ℕ) (copy : FrameCopy) (port : ℕ) (lane lane' : Option Inlet)
    → (count ≡ port → ⊥) → At count allowed copy port lane lane' placed
    → At (count + 1) allowed copy port lane lane' placed
wider true count allowed copy port lane lane' other at = let below : port < count = at.0 in (omega arith, at.1, at.2)
wider false count allowed copy port lane lane' other at = (at.0, λ (below : port < count + 1) yes. at.1 (omega arith) yes)

-- what became of the lane to one more port
abbrev pub Next : List ℕ → FrameCopy → ℕ → Option Inlet → Option Inlet → Bool → Type 0
Next allowed copy port lane lane' placed =
    MatchBool placed
    (IsTrue (has_port port allowed) × Appends lane copy lane')
    ((lane' ≡ lane) × (IsTrue (has_port port allowed) → WasFull lane))

widest : (placed : Bool) (count : ℕ) (allowed : List ℕ) (copy : FrameCopy) (lane lane' : Option Inlet)
    → Next allowed copy count lane lane' placed → At (count + 1) allowed copy count lane lane' placed
widest true count allowed copy lane lane' next = (omega arith, next.0, next.1)
widest false count allowed copy lane lane' next = (next.0, λ below allowed_there. next.1 allowed_there)

pub one_more_lane : (count : ℕ) (allowed : List ℕ) (copy : FrameCopy) (placed placed' : List ℕ)
    (lanes now now' : List (Option Inlet)) (lane lane' : Option Inlet) (was_placed : Bool)
    → PlacesBelow count allowed copy placed lanes now
    → count < length now
    → lane ≡ lane_at now count
    → now' ≡ slice_set now count lane'
    → Next allowed copy count lane lane' was_placed
    → has_port count placed' ≡ was_placed
    → ((other : ℕ) → (count ≡ other → ⊥) → has_port other placed' ≡ has_port other placed)
    → PlacesBelow (count + 1) allowed copy placed' lanes now'
one_more_lane count allowed copy placed placed' lanes now now' lane lane' was_placed so_far inside here set next is others =
    record { ports = λ port. ⊎_elim (same port) (other port) (cases_eq count port) }
  where
    first : lane ≡ lane_at lanes count
    first = here ∙ (not_yet count allowed copy placed lanes now so_far).1

    there : lane_at now' count ≡ lane'
    there = ap (λ l. lane_at l count) set ∙ get_or-set_same now count lane' None inside

    at_count : At (count + 1) allowed copy count (lane_at lanes count) (lane_at now' count) (has_port count placed')
    at_count =
        subst (λ b. At (count + 1) allowed copy count (lane_at lanes count) (lane_at now' count) b) (sym is)
        (subst (λ (l : Option Inlet). At (count + 1) allowed copy count (lane_at lanes count) l was_placed) (sym there)
        (subst (λ (l : Option Inlet). At (count + 1) allowed copy count l lane' was_placed) first
        (widest was_placed count allowed copy lane lane' next)))

    same : (port : ℕ) → count ≡ port → At (count + 1) allowed copy port (lane_at lanes port) (lane_at now' port)
        (has_port port placed')
    same port e = subst (λ p. At (count + 1) allowed copy p (lane_at lanes p) (lane_at now' p) (has_port p placed')) e at_count

    other : (port : ℕ) → (count ≡ port → ⊥) → At (count + 1) allowed copy port (lane_at lanes port) (lane_at now' port)
        (has_port port placed')
    other port apart =
        let kept : lane_at now' port ≡ lane_at now port = ap (λ l. lane_at l port) set
        ∙ get_or-set_other now count port lane' None (λ e. apart (sym e)) in
        subst (λ b. At (count + 1) allowed copy port (lane_at lanes port) (lane_at now' port) b) (sym (others port apart))
        (subst (λ (l : Option Inlet). At (count + 1) allowed copy port (lane_at lanes port) l (has_port port placed)) (sym kept)
        (wider (has_port port placed) count allowed copy port (lane_at lanes port) (lane_at now port) apart (so_far.ports port)))

-- each copy was placed of those to ports below a number
abbrev pub AllBelow : ℕ → List ℕ → List ℕ → Type 0
AllBelow count allowed placed = (port : ℕ) → port < count → IsTrue (has_port port allowed) → IsTrue (has_port port placed)

pub one_more_all : (count : ℕ) (allowed placed placed' : List ℕ) (was_placed : Bool) → AllBelow count allowed placed
    → (IsTrue (has_port count allowed) → IsTrue was_placed)
    → has_port count placed' ≡ was_placed
    → ((other : ℕ) → (count ≡ other → ⊥) → has_port other placed' ≡ has_port other placed)
    → AllBelow (count + 1) allowed placed'
one_more_all count allowed placed placed' was_placed so_far now is others port below there =
    ⊎_elim
    (λ (same : count ≡ port).
    subst (λ p. IsTrue (has_port p placed')) same (is ∙ now (subst (λ p. IsTrue (has_port p allowed)) (sym same) there)))
    (λ (apart : count ≡ port → ⊥). others port apart ∙ so_far port (omega arith) there) (cases_eq count port)

-- once each lane was looked at
whole : (placed : Bool) (count : ℕ) (allowed : List ℕ) (copy : FrameCopy) (port : ℕ) (lane lane' : Option Inlet)
    → (IsTrue (has_port port allowed) → port < count) → At count allowed copy port lane lane' placed
    → Next allowed copy port lane lane' placed
whole true count allowed copy port lane lane' inside at = (at.1, at.2)
whole false count allowed copy port lane lane' inside at = (at.0, λ yes_there. at.1 (inside yes_there) yes_there)

pub all_placed : (count : ℕ) (allowed : List ℕ) (copy : FrameCopy) (placed : List ℕ) (lanes now : List (Option Inlet))
    → PlacesBelow count allowed copy placed lanes now
    → length now ≡ length lanes
    → ((port : ℕ) → IsTrue (has_port port allowed) → port < count)
    → PlacesCopies allowed copy placed lanes now
all_placed count allowed copy placed lanes now so_far size inside =
    record {
      size = size;
      ports = λ port. whole (has_port port placed) count allowed copy port (lane_at lanes port)
          (lane_at now port) (inside port) (so_far.ports port);
    }

-- a lane on which a copy was placed is still there
still : (placed : Bool) (allowed : List ℕ) (copy : FrameCopy) (port : ℕ) (lane lane' : Option Inlet)
    → Next allowed copy port lane lane' placed → IsSome lane → IsSome lane'
still true allowed copy port lane lane' next there = let e = next.1.is in subst (λ (l : Option Inlet). IsSome l) (sym e) refl
still false allowed copy port lane lane' next there = subst (λ (l : Option Inlet). IsSome l) (sym next.0) there

still_none : (placed : Bool) (allowed : List ℕ) (copy : FrameCopy) (port : ℕ) (lane lane' : Option Inlet)
    → MatchBool placed
    (IsTrue (has_port port allowed) × Appends lane copy lane')
    ((lane' ≡ lane) × (IsTrue (has_port port allowed) → WasFull lane))
    → lane ≡ None → lane' ≡ None
still_none true allowed copy port lane lane' at none = absurd (cc (at.1.was, none))
still_none false allowed copy port lane lane' at none = at.0 ∙ none

-- placing copies makes and takes no lane
pub keeps_lanes : (own : ℕ) (allowed : List ℕ) (copy : FrameCopy) (placed : List ℕ) (lanes lanes' : List (Option Inlet))
    → PlacesCopies allowed copy placed lanes lanes' → HasLanes own lanes → HasLanes own lanes'
keeps_lanes own allowed copy placed lanes lanes' done has =
    let size = done.size in
    let at = λ (port : ℕ). done.ports port in
    record {
      most = let m = has.most in omega arith;
      none = still_none (has_port own placed) allowed copy own (lane_at lanes own) (lane_at lanes' own) (at own) has.none;
      others = λ port below apart.
          still (has_port port placed) allowed copy port (lane_at lanes port) (lane_at lanes' port) (at port)
          (has.others port (omega arith) apart);
    }

-- a copy is placed only on lanes of ports to which the frame is allowed
unplaced_where : (placed : Bool) (count : ℕ) (allowed : List ℕ) (copy : FrameCopy) (port : ℕ) (lane lane' : Option Inlet)
    → Next allowed copy port lane lane' placed → (IsTrue (has_port port allowed) → port < count) → count ≤ port → placed ≡ false
unplaced_where true count allowed copy port lane lane' at inside above = let below = inside at.0 in absurd (omega arith)
unplaced_where false count allowed copy port lane lane' at inside above = refl

pub placed_inside : (count : ℕ) (allowed : List ℕ) (copy : FrameCopy) (placed : List ℕ) (lanes lanes' : List (Option Inlet))
    → PlacesCopies allowed copy placed lanes lanes' → ((port : ℕ) → IsTrue (has_port port allowed) → port < count)
    → (port : ℕ) → count ≤ port → has_port port placed ≡ false
placed_inside count allowed copy placed lanes lanes' done inside port above =
    unplaced_where (has_port port placed) count allowed copy port (lane_at lanes port) (lane_at lanes' port) (done.ports port)
    (inside port) above

-- the lane of the next port, none at the port itself
pub has_one_more : {A : Type 0} (own : ℕ) (lanes : List (Option A)) (lane : Option A) → HasLanes own lanes → length lanes < 16
    → (length lanes ≡ own → lane ≡ None) → ((length lanes ≡ own → ⊥) → IsSome lane) → HasLanes own (lanes ++ lane ∷ [])
has_one_more own lanes lane has few none there = record {
  most = let more = length-append lanes (lane ∷ []) in omega arith;
  none = ⊎_elim
      (λ (last : length lanes ≡ own).
      ap (λ n. lane_at (lanes ++ lane ∷ []) n) (sym last) ∙ get_or_push lanes lane None (length lanes) refl ∙ none last)
      (λ (apart : length lanes ≡ own → ⊥). ⊎_elim
      (λ (before : own < length lanes). get_or_append_left lanes (lane ∷ []) None own before ∙ has.none)
      (λ (behind : length lanes ≤ own).
      let more = length-append lanes (lane ∷ []) in get_or_past (lanes ++ lane ∷ []) own None (grind arith))
      (cases_lt own (length lanes)))
      (cases_eq (length lanes) own);
  others = λ port below apart. ⊎_elim
      (λ (last : length lanes ≡ port).
      subst (λ l. IsSome l)
      (sym (ap (λ n. lane_at (lanes ++ lane ∷ []) n) (sym last) ∙ get_or_push lanes lane None (length lanes) refl))
      (there (λ own_last. apart (sym last ∙ own_last))))
      (λ (other : length lanes ≡ port → ⊥).
      let more = length-append lanes (lane ∷ []) in
      let before : port < length lanes = grind arith in
      subst (λ l. IsSome l) (sym (get_or_append_left lanes (lane ∷ []) None port before)) (has.others port before apart))
      (cases_eq (length lanes) port);
}

-- a copy that is taken leaves the lanes where they are
pub pops_keep_lanes : (own ingress : ℕ) (copy : FrameCopy) (lanes lanes' : List (Option Outlet))
    → PopsFrom ingress lanes copy lanes'
    → HasLanes own lanes → HasLanes own lanes'
pops_keep_lanes own ingress copy lanes lanes' pops has = record {
  most = let e = size in let m = has.most in omega arith;
  none = elsewhere own (λ same. absurd (cc (sym (ap (λ n. lane_at lanes n) same) ∙ has.none, pops.lane.was))) ∙ has.none;
  others = λ port below apart. ⊎_elim
      (λ (same : port ≡ ingress). subst (λ l. IsSome l) (sym (ap (λ n. lane_at lanes' n) same ∙ pops.lane.is)) refl)
      (λ (other : port ≡ ingress → ⊥).
      subst (λ l. IsSome l) (sym (elsewhere port other)) (has.others port (let e = size in omega arith) apart))
      (cases_eq port ingress);
}
  where
    size : length lanes' ≡ length lanes
    size = ap length pops.others ∙ length-set lanes ingress (lane_at lanes' ingress)

    elsewhere : (port : ℕ) → (port ≡ ingress → ⊥) → lane_at lanes' port ≡ lane_at lanes port
    elsewhere port other =
        ap (λ l. lane_at l port) pops.others ∙ get_or-set_other lanes ingress port (lane_at lanes' ingress) None other
