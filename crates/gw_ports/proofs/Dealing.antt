-- Dealing out the lanes from one port.
use Rattle.std.proofs.Common.{◌≡◌, ◌≢◌, ◌∙◌, ℕ, suc, ◌+◌, ◌<◌, ◌≤◌, List, [], ◌∷◌, ◌++◌, length, map, slice_set, get_or, Option}
use Rattle.std.proofs.Common.{Some, None, IsSome, option_map, ◌⊎◌, inl, inr, ⊎_elim, sym, ap, subst, refl, arith, length-append}
use Rattle.std.specs.List.{All}
use Rattle.std.proofs.lemmas.Bool.{cases_eq, cases_lt}
use Rattle.std.proofs.lemmas.List.{get_or-set_same, get_or-set_other, get_or_default, get_or_append_left, get_or_past}
use Rattle.std.proofs.lemmas.List.{get_or_push, length-set}
use Rattle.std.proofs.lemmas.List.Elements.{All-head, All-tail}
use Rattle.gw_board.proofs.Callers.{All-push}
use Rattle.gw_lanes.specs.Ends.{Inlet, Outlet, new_inlet, new_outlet}
use Rattle.gw_ports.specs.Ends.{Egress, lane_at}
use Rattle.gw_ports.specs.Making.{IsNewLane, egress_with}

abbrev pub AreNew : ℕ → List Inlet → Type 0
AreNew room froms = All (λ i. i ≡ new_inlet i.ring room) froms

-- the ends to the egress ports below a number were dealt out
pub record Dealt (port count : ℕ) (lanes : List (Option Inlet)) (outs outs' : List Egress) (froms froms' : List Inlet)
    (tos' : List Outlet) : Type 0 where
  pub size : length lanes ≡ count
  pub outs_size : length outs' ≡ length outs
  pub paired : tos' ≡ map new_outlet froms'
  pub until : count ≤ port → length froms' + count ≡ length froms
  pub from_then : port < count → length froms' + count ≡ length froms + 1
  pub none : lane_at lanes port ≡ None
  pub there : (k : ℕ) → k < count → k ≢ port → IsSome (lane_at lanes k)
  pub new : (room : ℕ) → AreNew room froms → All (IsNewLane room) lanes × AreNew room froms'
  pub dealt : (k : ℕ) (d : Egress) → k < count
      → get_or outs' k d ≡ egress_with (get_or outs k d) (option_map new_outlet (lane_at lanes k))
  pub rest : (k : ℕ) (d : Egress) → count ≤ k → get_or outs' k d ≡ get_or outs k d

-- the next end is none at the port itself, and else the next lane
abbrev pub Deals : ℕ → ℕ → Option Inlet → List Inlet → List Inlet → Type 0
Deals port count None froms froms' = (count ≡ port) × (froms' ≡ froms)
Deals port count (Some i) froms froms' = (count ≢ port) × (froms ≡ i ∷ froms')

last_lane : (lanes : List (Option Inlet)) (lane : Option Inlet) (count : ℕ) → length lanes ≡ count
    → lane_at (lanes ++ lane ∷ []) count ≡ lane
last_lane lanes lane count size = get_or_push lanes lane None count size

-- there is no lane to the port itself, before its turn, at it and after it
none_there : (port count : ℕ) (lanes : List (Option Inlet)) (lane : Option Inlet) (froms froms' : List Inlet)
    → length lanes ≡ count
    → lane_at lanes port ≡ None → Deals port count lane froms froms' → lane_at (lanes ++ lane ∷ []) port ≡ None
none_there port count lanes lane froms froms' size none deals =
    ⊎_elim
    (λ (here : count ≡ port). ap (λ n. lane_at (lanes ++ lane ∷ []) n) (sym here) ∙ last_lane lanes lane count size
    ∙ own lane here deals)
    (λ (apart : count ≡ port → ⊥). ⊎_elim
    (λ (before : port < count). let inside : port < length lanes = omega arith in
    get_or_append_left lanes (lane ∷ []) None port inside ∙ none)
    (λ (behind : count ≤ port).
    let more = length-append lanes (lane ∷ []) in
    get_or_past (lanes ++ lane ∷ []) port None (grind arith))
    (cases_lt port count))
    (cases_eq count port)
  where
    own : (l : Option Inlet) → count ≡ port → Deals port count l froms froms' → l ≡ None
    own None here deals = refl
    own (Some i) here deals = absurd (deals.0 here)

some_there : (port count : ℕ) (lane : Option Inlet) (froms froms' : List Inlet) → Deals port count lane froms froms'
    → count ≢ port → IsSome lane
some_there port count None froms froms' deals apart = absurd (apart deals.0)
some_there port count (Some i) froms froms' deals apart = refl

lengths : (port count : ℕ) (lane : Option Inlet) (froms froms' : List Inlet) → Deals port count lane froms froms'
    → ((count ≡ port) × (length froms' ≡ length froms)) ⊎ ((count ≢ port) × (length froms' + 1 ≡ length froms))
lengths port count None froms froms' deals = inl (deals.0, ap length deals.1)
lengths port count (Some i) froms froms' deals = let e : length froms ≡ suc (length froms') = ap length deals.1 in
    inr (deals.0, omega arith)

still_new : (room port count : ℕ) (lane : Option Inlet) (froms froms' : List Inlet) → Deals port count lane froms froms'
    → AreNew room froms → IsNewLane room lane × AreNew room froms'
still_new room port count None froms froms' deals new = (tt, subst (λ (l : List Inlet). AreNew room l) (sym deals.1) new)
still_new room port count (Some i) froms froms' deals new =
    let all = subst (λ (l : List Inlet). AreNew room l) deals.1 new in (
      All-head (λ (j : Inlet). j ≡ new_inlet j.ring room) i froms' all,
      All-tail (λ (j : Inlet). j ≡ new_inlet j.ring room) i froms' all,
    )

pub one_more_dealt : (port count : ℕ) (lanes : List (Option Inlet)) (lane : Option Inlet) (outs now : List Egress) (b b' : Egress)
    (froms before froms' : List Inlet) (tos tos' : List Outlet)
    → Dealt port count lanes outs now froms before tos
    → count < length outs
    → Deals port count lane before froms'
    → tos' ≡ map new_outlet froms'
    → b ≡ get_or now count b
    → b' ≡ egress_with b (option_map new_outlet lane)
    → Dealt port (count + 1) (lanes ++ lane ∷ []) outs (slice_set now count b') froms froms' tos'
one_more_dealt port count lanes lane outs now b b' froms before froms' tos tos' so_far below deals paired is is' =
    let size = so_far.size in
    let outs_size = so_far.outs_size in
    let a = so_far.until in
    let z = so_far.from_then in
    let l = lengths port count lane before froms' deals in
    let inside : count < length now = omega arith in
    let long : length (lanes ++ lane ∷ []) ≡ count + 1 = let e = length-append lanes (lane ∷ []) in omega arith in
    record {
      size = long;
      outs_size = length-set now count b' ∙ outs_size;
      paired = paired;
      until = λ (le : count + 1 ≤ port). let e = a (omega arith) in grind arith;
      from_then = λ (lt : port < count + 1). grind arith;
      none = none_there port count lanes lane before froms' size so_far.none deals;
      there = λ k lt apart. ⊎_elim
          (λ (e : k ≡ count). subst (λ (o : Option Inlet). IsSome o)
          (sym (ap (λ n. lane_at (lanes ++ lane ∷ []) n) e ∙ last_lane lanes lane count size))
          (some_there port count lane before froms' deals (λ same. apart (e ∙ same))))
          (λ (other : k ≡ count → ⊥). let lower : k < length lanes = omega arith in
          subst (λ (o : Option Inlet). IsSome o) (sym (get_or_append_left lanes (lane ∷ []) None k lower))
          (so_far.there k (omega arith) apart))
          (cases_eq k count);
      new = λ room all.
          let had = so_far.new room all in
          let more = still_new room port count lane before froms' deals had.1 in
          (All-push (IsNewLane room) lanes lane had.0 more.0, more.1);
      dealt = λ k d lt. ⊎_elim
          (λ (e : k ≡ count).
          let at : get_or (slice_set now count b') count d ≡ b' = get_or-set_same now count b' d inside in
          let was : b ≡ get_or outs count d = is ∙ get_or_default now count b d inside ∙ so_far.rest count d (omega arith) in
          subst (λ n. get_or (slice_set now count b') n d
          ≡ egress_with (get_or outs n d) (option_map new_outlet (lane_at (lanes ++ lane ∷ []) n))) (sym e)
          (at ∙ is' ∙ ap (λ (s : Egress). egress_with s (option_map new_outlet lane)) was
          ∙ ap (λ (o : Option Inlet). egress_with (get_or outs count d) (option_map new_outlet o))
          (sym (last_lane lanes lane count size))))
          (λ (other : k ≡ count → ⊥).
          let lower : k < length lanes = omega arith in
          get_or-set_other now count k b' d other ∙ so_far.dealt k d (omega arith)
          ∙ ap (λ (o : Option Inlet). egress_with (get_or outs k d) (option_map new_outlet o))
          (sym (get_or_append_left lanes (lane ∷ []) None k lower)))
          (cases_eq k count);
      rest = λ k d le. get_or-set_other now count k b' d (λ (e : k ≡ count). omega arith) ∙ so_far.rest k d (omega arith);
    }

-- as the code has it
pub next_dealt : (port count : ℕ) (lanes lanes' : List (Option Inlet)) (lane : Option Inlet) (outs now outs' : List Egress)
    (b b' : Egress) (froms before froms' : List Inlet) (tos tos' : List Outlet)
    → Dealt port count lanes outs now froms before tos
    → count < length outs
    → Deals port count lane before froms'
    → tos' ≡ map new_outlet froms'
    → b ≡ get_or now count b
    → b' ≡ egress_with (get_or now count b) (option_map new_outlet lane)
    → lanes' ≡ lanes ++ lane ∷ []
    → outs' ≡ slice_set now count b'
    → Dealt port (count + 1) lanes' outs outs' froms froms' tos'
next_dealt port count lanes lanes' lane outs now outs' b b' froms before froms' tos tos' so_far below deals paired is is' pushed
    set =
    subst (λ (l : List (Option Inlet)). Dealt port (count + 1) l outs outs' froms froms' tos') (sym pushed)
    (subst (λ (o : List Egress). Dealt port (count + 1) (lanes ++ lane ∷ []) outs o froms froms' tos') (sym set)
    (one_more_dealt port count lanes lane outs now b b' froms before froms' tos tos' so_far below deals paired is (is'
    ∙ ap (λ (s : Egress). egress_with s (option_map new_outlet lane)) (sym is))))
