-- The copies of a run: those that outcomes placed on a lane, and those that were taken from it.
use Rattle.std.proofs.Common.{◌≡◌, ◌∙◌, ℕ, ◌≤◌, Bool, true, false, cond, MatchBool, List, [], ◌∷◌, ◌++◌, length}
use Rattle.std.proofs.Common.{get_or, if◌then◌else◌, Option, Some, None, sym, ap, subst, refl, arith, ⊎_elim, append-nil}
use Rattle.std.proofs.Common.{append_assoc, length-append, eq-eqb, ne_eqb}
use Rattle.std.proofs.lemmas.Bool.{cases_eq}
use Rattle.std.proofs.lemmas.List.{get_or_at, get_or-set_other}
use Rattle.std.proofs.lemmas.List.Elements.{All-append, All-cons}
use Rattle.std.specs.List.{All, fold}
use Rattle.gw_ledger.specs.Ports.{has_port}
use Rattle.gw_ledger.specs.declared.ledger.OutLedger.{OutLedger}
use Rattle.gw_ledger.specs.declared.outcome.FrameCopy.{FrameCopy}
use Rattle.gw_ledger.specs.declared.outcome.Outcome.{Outcome}
use Rattle.gw_lanes.specs.Ends.{Inlet, Outlet}
use Rattle.gw_ports.specs.Ends.{Ingress, Egress, lane_at}
use Rattle.gw_ports.specs.Placing.{Appends}
use Rattle.gw_ports.specs.Running.{Offers}
use Rattle.gw_ports.specs.Sending.{PopsFrom, Takes, sent_with}
use Rattle.gw_ports.specs.Reports.{and_sent, copies_to, from_port, placed_copy}

-- the copies that were placed on a lane, and those that were taken from one
abbrev pub placed_list : Option Inlet → List FrameCopy
placed_list None = []
placed_list (Some inlet) = inlet.placed

abbrev pub taken_list : Option Outlet → List FrameCopy
taken_list None = []
taken_list (Some outlet) = outlet.taken

-- placing

one_placed : (placed : Bool) (P Q : Type 0) (copy : FrameCopy) (lane lane' : Option Inlet)
    → MatchBool placed (P × Appends lane copy lane') ((lane' ≡ lane) × Q)
    → placed_list lane' ≡ placed_list lane ++ (if placed then copy ∷ [] else [])
one_placed true P Q copy lane lane' m =
    ap placed_list m.1.is ∙ ap (λ (l : List FrameCopy). l ++ copy ∷ []) (sym (ap placed_list m.1.was))
one_placed false P Q copy lane lane' m = ap placed_list m.0 ∙ sym (append-nil (placed_list lane))

abbrev copy_of : ℕ → ℕ → List ℕ → FrameCopy
copy_of ingress number octets = record { from = ingress; number = number; frame = octets }

-- the lane to an egress port has the copies that the outcomes placed for it
pub placed_to : (egress : ℕ) (heard : List (List ℕ)) (old : Ingress) (frames : List (List ℕ)) (outcomes : List Outcome)
    (new : Ingress) → Offers heard old frames outcomes new → placed_list (lane_at new.lanes egress)
    ≡ placed_list (lane_at old.lanes egress) ++ copies_to old.port egress frames outcomes
placed_to egress heard old [] [] new same =
    ap (λ (i : Ingress). placed_list (lane_at i.lanes egress)) same
    ∙ sym (append-nil (placed_list (lane_at old.lanes egress)))
placed_to egress heard old [] (o ∷ outcomes) new offers = absurd offers
placed_to egress heard old (f ∷ frames) [] new offers = absurd offers
placed_to egress heard old (f ∷ frames) (o ∷ outcomes) new offers =
    let next = offers.0 in
    let before = placed_list (lane_at old.lanes egress) in
    let one : placed_list (lane_at next.lanes egress) ≡ before ++ placed_copy old.port egress f o =
    one_placed (has_port egress o.placed) _ _ (copy_of old.port old.ledger.taken f) (lane_at old.lanes egress)
    (lane_at next.lanes egress) (offers.1.placed.ports egress)
    ∙ ap (λ n. before ++ (if has_port egress o.placed then copy_of old.port n f ∷ [] else [])) (sym offers.1.number) in
    placed_to egress (f ∷ heard) next frames outcomes new offers.2
    ∙ ap (λ p. placed_list (lane_at next.lanes egress) ++ copies_to p egress frames outcomes) offers.1.same.0
    ∙ ap (λ (l : List FrameCopy). l ++ copies_to old.port egress frames outcomes) one
    ∙ append_assoc before (placed_copy old.port egress f o) (copies_to old.port egress frames outcomes)

-- they are copies from that port
pub placed_from : (ingress egress : ℕ) (frames : List (List ℕ)) (outcomes : List Outcome)
    → All (λ copy. copy.from ≡ ingress) (copies_to ingress egress frames outcomes)
placed_from ingress egress [] [] = λ k d below. absurd (omega arith)
placed_from ingress egress [] (o ∷ outcomes) = λ k d below. absurd (omega arith)
placed_from ingress egress (f ∷ frames) [] = λ k d below. absurd (omega arith)
placed_from ingress egress (f ∷ frames) (o ∷ outcomes) =
    All-append (λ (c : FrameCopy). c.from ≡ ingress) (placed_copy ingress egress f o)
    (copies_to ingress egress frames outcomes) (one (has_port egress o.placed))
    (placed_from ingress egress frames outcomes)
  where
    one : (b : Bool) → All (λ copy. copy.from ≡ ingress) (if b then copy_of ingress o.number f ∷ [] else [])
    one true =
        All-cons (λ (c : FrameCopy). c.from ≡ ingress) (copy_of ingress o.number f) [] refl (λ k d below. absurd (omega arith))
    one false = λ k d below. absurd (omega arith)

-- taking out

taken_here : (ingress : ℕ) (old new : List (Option Outlet)) (copy : FrameCopy) → PopsFrom ingress old copy new
    → taken_list (lane_at new ingress) ≡ taken_list (lane_at old ingress) ++ copy ∷ []
taken_here ingress old new copy pops =
    ap taken_list pops.lane.is ∙ ap (λ (l : List FrameCopy). l ++ copy ∷ []) (sym (ap taken_list pops.lane.was))

taken_elsewhere : (ingress other : ℕ) (old new : List (Option Outlet)) (copy : FrameCopy) → PopsFrom ingress old copy new
    → (other ≡ ingress → ⊥) → taken_list (lane_at new other) ≡ taken_list (lane_at old other)
taken_elsewhere ingress other old new copy pops apart =
    ap taken_list (ap (λ (l : List (Option Outlet)). lane_at l other) pops.others
    ∙ get_or-set_other old ingress other (lane_at new ingress) None apart)

-- each copy that was taken from a lane is from the port whose lane it is
abbrev pub AreOwn : List (Option Outlet) → Type 0
AreOwn lanes = (ingress : ℕ) → All (λ copy. copy.from ≡ ingress) (taken_list (lane_at lanes ingress))

own_of : (ingress : ℕ) (before after whole : List FrameCopy) (copy : FrameCopy) → whole ≡ (before ++ copy ∷ []) ++ after
    → All (λ c. c.from ≡ ingress) whole → copy.from ≡ ingress
own_of ingress before after whole copy is own =
    let split : whole ≡ before ++ copy ∷ after = is ∙ append_assoc before (copy ∷ []) after in
    let size = ap length split ∙ length-append before (copy ∷ after) in
    subst (λ (c : FrameCopy). c.from ≡ ingress)
    (ap (λ (l : List FrameCopy). get_or l (length before) copy) split ∙ get_or_at before copy after copy (length before) refl)
    (own (length before) copy (omega arith))

one_from : (ingress : ℕ) (copy : FrameCopy) (copies : List FrameCopy) → copy.from ≡ ingress
    → from_port ingress (copy ∷ copies) ≡ copy ∷ from_port ingress copies
one_from ingress copy copies is =
    ap (λ b. cond b (copy ∷ from_port ingress copies) (from_port ingress copies)) (eq-eqb copy.from ingress is)

one_other : (ingress : ℕ) (copy : FrameCopy) (copies : List FrameCopy) → (copy.from ≡ ingress → ⊥)
    → from_port ingress (copy ∷ copies) ≡ from_port ingress copies
one_other ingress copy copies apart =
    ap (λ b. cond b (copy ∷ from_port ingress copies) (from_port ingress copies)) (ne_eqb copy.from ingress apart)

-- what was taken from the lane of an ingress port are the copies from there
pub taken_from_port : (old : Egress) (copies : List FrameCopy) (new : Egress) → Takes old copies new → AreOwn new.lanes
    → (ingress : ℕ) → taken_list (lane_at new.lanes ingress) ≡ taken_list (lane_at old.lanes ingress) ++ from_port ingress copies
taken_from_port old [] new same own ingress =
    ap (λ (e : Egress). taken_list (lane_at e.lanes ingress)) same ∙ sym (append-nil (taken_list (lane_at old.lanes ingress)))
taken_from_port old (copy ∷ copies) new takes own ingress =
    let from = takes.0 in
    let next = takes.1 in
    let pops = takes.2.lanes in
    let rest = taken_from_port next copies new takes.3 own in
    let before = taken_list (lane_at old.lanes ingress) in
    let is : copy.from ≡ from =
    own_of from (taken_list (lane_at old.lanes from)) (from_port from copies) (taken_list (lane_at new.lanes from)) copy
    (rest from ∙ ap (λ (l : List FrameCopy). l ++ from_port from copies) (taken_here from old.lanes next.lanes copy pops))
    (own from) in
    ⊎_elim
    (λ (same : ingress ≡ from).
    rest ingress
    ∙ ap (λ (l : List FrameCopy). l ++ from_port ingress copies)
    (subst (λ n. taken_list (lane_at next.lanes n) ≡ taken_list (lane_at old.lanes n) ++ copy ∷ []) (sym same)
    (taken_here from old.lanes next.lanes copy pops))
    ∙ append_assoc before (copy ∷ []) (from_port ingress copies)
    ∙ ap (λ (l : List FrameCopy). before ++ l) (sym (one_from ingress copy copies (is ∙ sym same))))
    (λ (apart : ingress ≡ from → ⊥).
    rest ingress
    ∙ ap (λ (l : List FrameCopy). l ++ from_port ingress copies)
    (taken_elsewhere from ingress old.lanes next.lanes copy pops apart)
    ∙ ap (λ (l : List FrameCopy). before ++ l) (sym (one_other ingress copy copies (λ e. apart (sym e ∙ is)))))
    (cases_eq ingress from)

-- and they are counted there
pub sent_counted : (old : Egress) (copies : List FrameCopy) (new : Egress) → Takes old copies new → AreOwn new.lanes
    → new.ledger ≡ fold and_sent old.ledger copies
sent_counted old [] new same own = ap (λ (e : Egress). e.ledger) same
sent_counted old (copy ∷ copies) new takes own =
    let from = takes.0 in
    let next = takes.1 in
    let is : copy.from ≡ from =
    own_of from (taken_list (lane_at old.lanes from)) (from_port from copies) (taken_list (lane_at new.lanes from)) copy
    (taken_from_port next copies new takes.3 own from
    ∙ ap (λ (l : List FrameCopy). l ++ from_port from copies) (taken_here from old.lanes next.lanes copy takes.2.lanes))
    (own from) in
    sent_counted next copies new takes.3 own
    ∙ ap (λ (l : OutLedger). fold and_sent l copies)
    (takes.2.ledger ∙ ap (λ n. sent_with old.ledger n) (sym is))

-- frames behind those with outcomes change nothing
pub copies_of_more : (ingress egress : ℕ) (frames more : List (List ℕ)) (outcomes : List Outcome)
    → length outcomes ≤ length frames
    → copies_to ingress egress (frames ++ more) outcomes ≡ copies_to ingress egress frames outcomes
copies_of_more ingress egress [] [] outcomes few = refl
copies_of_more ingress egress [] (m ∷ more) [] few = refl
copies_of_more ingress egress [] (m ∷ more) (o ∷ outcomes) few = absurd (omega arith)
copies_of_more ingress egress (f ∷ frames) more [] few = refl
copies_of_more ingress egress (f ∷ frames) more (o ∷ outcomes) few =
    ap (λ (l : List FrameCopy). placed_copy ingress egress f o ++ l)
    (copies_of_more ingress egress frames more outcomes (omega arith))
