-- Settling what each port knows, port by port.
use Rattle.std.proofs.Common.{◌≡◌, ◌∙◌, ℕ, ◌+◌, ◌<◌, ◌≤◌, List, [], ◌∷◌, ◌++◌, Option, Vec, Global, length, drop, take, slice_set}
use Rattle.std.proofs.Common.{get_or, ⊎_elim, sym, ap, subst, refl, arith}
use mathlib.Core.List.{IsPrefix}
use Rattle.std.proofs.lemmas.Bool.{cases_eq, cases_lt}
use Rattle.std.specs.List.{All}
use Rattle.std.proofs.lemmas.List.{get_or-map, get_or-set_same, get_or-set_other, get_or_default, length-map, length-set}
use Rattle.std.proofs.lemmas.List.{same_lists, with_items_is}
use Rattle.gw_policy.specs.Batches.{Pair}
use Rattle.gw_board.proofs.Callers.{prefix_self}
use Rattle.gw_ports.specs.Ends.{Ingress, Egress}
use Rattle.gw_ports.specs.Closing.{KnowsMore, rows_of}
use Rattle.gw_lanes.specs.Ends.{Inlet}

-- the port knows just what was told, which begins with what it knew
abbrev pub Settles : List (List Pair) → Ingress → Ingress → Type 0
Settles told old new = (new ≡ record old { known = told }) × IsPrefix old.known told

-- the ports below a number are settled, and the others are as they were
pub record SettledBelow (count : ℕ) (told : List (List Pair)) (ins now : List Ingress) : Type 0 where
  pub size : length now ≡ length ins
  pub settled : (k : ℕ) (d : Ingress) → k < count → Settles told (get_or ins k d) (get_or now k d)
  pub rest : (k : ℕ) (d : Ingress) → count ≤ k → get_or now k d ≡ get_or ins k d

pub one_more_settled : (count : ℕ) (told : List (List Pair)) (ins now : List Ingress) (old new : Ingress)
    → SettledBelow count told ins now → count < length now → Settles told (get_or now count old) new
    → SettledBelow (count + 1) told ins (slice_set now count new)
one_more_settled count told ins now old new so_far inside settles = record {
  size = length-set now count new ∙ so_far.size;
  settled = λ k d below. ⊎_elim
      (λ (here : k ≡ count).
      let was : get_or now count old ≡ get_or ins count d =
      get_or_default now count old d inside ∙ so_far.rest count d (omega arith) in
      subst (λ n. Settles told (get_or ins n d) (get_or (slice_set now count new) n d)) (sym here)
      (subst (λ (t : Ingress). Settles told (get_or ins count d) t) (sym (get_or-set_same now count new d inside))
      (subst (λ (t : Ingress). Settles told t new) was settles)))
      (λ (other : k ≡ count → ⊥).
      subst (λ (t : Ingress). Settles told (get_or ins k d) t) (sym (get_or-set_other now count k new d other))
      (so_far.settled k d (omega arith)))
      (cases_eq k count);
  rest = λ k d above. get_or-set_other now count k new d (λ (e : k ≡ count). omega arith) ∙ so_far.rest k d (omega arith);
}

-- a port that is settled knows more
settles_more : (told : List (List Pair)) (old new : Ingress) → Settles told old new → KnowsMore old new
settles_more told old new settles =
    let known : new.known ≡ told = ap (λ i. i.known) settles.0 in (
      settles.0 ∙ ap (λ k. record old { known = k }) (sym known),
      subst (λ (l : List (List Pair)). IsPrefix old.known l) (sym known) settles.1,
    )

same_more : (old new : Ingress) → new ≡ old → KnowsMore old new
same_more old new same =
    subst (λ (i : Ingress). KnowsMore old i) (sym same) (refl, prefix_self old.known)

-- so all know more, settled or not
pub all_know_more : (count : ℕ) (told : List (List Pair)) (ins now : List Ingress) → SettledBelow count told ins now
    → (k : ℕ) (d : Ingress) → k < length ins → KnowsMore (get_or ins k d) (get_or now k d)
all_know_more count told ins now so_far k d below = ⊎_elim
    (λ (inside : k < count). settles_more told (get_or ins k d) (get_or now k d) (so_far.settled k d inside))
    (λ (above : count ≤ k). same_more (get_or ins k d) (get_or now k d) (so_far.rest k d above))
    (cases_lt k count)

-- also where the next was refused a reading
pub refused_know_more : (count : ℕ) (told : List (List Pair)) (ins now : List Ingress) (old new : Ingress)
    → SettledBelow count told ins now → count < length now → KnowsMore (get_or now count old) new
    → (k : ℕ) (d : Ingress) → k < length ins → KnowsMore (get_or ins k d) (get_or (slice_set now count new) k d)
refused_know_more count told ins now old new so_far inside more k d below = ⊎_elim
    (λ (here : k ≡ count).
    let was : get_or now count old ≡ get_or ins count d =
    get_or_default now count old d inside ∙ so_far.rest count d (omega arith) in
    subst (λ n. KnowsMore (get_or ins n d) (get_or (slice_set now count new) n d)) (sym here)
    (subst (λ (t : Ingress). KnowsMore (get_or ins count d) t) (sym (get_or-set_same now count new d inside))
    (subst (λ (t : Ingress). KnowsMore t new) was more)))
    (λ (other : k ≡ count → ⊥).
    subst (λ (t : Ingress). KnowsMore (get_or ins k d) t) (sym (get_or-set_other now count k new d other))
    (all_know_more count told ins now so_far k d below))
    (cases_eq k count)

-- settling leaves the lanes as they are
pub rows_stay : (told : List (List Pair)) (ins now : List Ingress) → length now ≡ length ins
    → ((k : ℕ) (d : Ingress) → k < length ins → Settles told (get_or ins k d) (get_or now k d)) → rows_of now ≡ rows_of ins
rows_stay told ins now size settled =
    same_lists (rows_of now) (rows_of ins)
    (length-map now (λ (i : Ingress). i.lanes) ∙ size ∙ sym (length-map ins (λ (i : Ingress). i.lanes)))
    (λ k row below.
    let many = length-map now (λ (i : Ingress). i.lanes) in
    let inside : k < length now = omega arith in
    let inside' : k < length ins = omega arith in
    first_or ins now k row inside inside' (settled k))
  where
    first_or : (is now' : List Ingress) (k : ℕ) (row : List (Option Inlet)) → k < length now' → k < length is
        → ((d : Ingress) → k < length is → Settles told (get_or is k d) (get_or now' k d))
        → get_or (rows_of now') k row ≡ get_or (rows_of is) k row
    first_or [] now' k row inside inside' here = absurd (omega arith)
    first_or (i ∷ is) now' k row inside inside' here =
        get_or-map (λ (x : Ingress). x.lanes) now' k i row inside ∙ ap (λ (x : Ingress). x.lanes) (here i inside').0
        ∙ sym (get_or-map (λ (x : Ingress). x.lanes) (i ∷ is) k i row inside')

-- what each port knew begins what was told
pub knew_less : (told : List (List Pair)) (ins now : List Ingress)
    → ((k : ℕ) (d : Ingress) → k < length ins → Settles told (get_or ins k d) (get_or now k d))
    → All (λ ingress. IsPrefix ingress.known told) ins
knew_less told ins now settled = λ k d below. (settled k d below).1

-- the ends out, which are as they were, are written back
pub kept_out : (outs : Vec Egress Global) (prepared : List Egress) → prepared ≡ outs.items
    → take outs.len (prepared ++ drop (length prepared) outs.items) ≡ outs.items
kept_out outs prepared kept = with_items_is outs prepared (ap length kept ∙ sym outs.ok.0) ∙ kept

-- the ports' list where a close lent it twice: what was prepared on is as it was, and what was settled after that is written back
module _ (ins : Vec Ingress Global) (prepared lent now : List Ingress) (kept : prepared ≡ ins.items)
    (is : lent ≡ take ins.len (prepared ++ drop (length prepared) ins.items)) (size : length now ≡ length lent) where
  -- the list after the preparation
  abbrev first_written : List Ingress
  first_written = take ins.len (prepared ++ drop (length prepared) ins.items)

  abbrev pub written : List Ingress
  written = take ins.len (now ++ drop (length now) first_written)

  kept_through : first_written ≡ ins.items
  kept_through = with_items_is ins prepared (ap length kept ∙ sym ins.ok.0) ∙ kept

  pub lent_is : lent ≡ ins.items
  lent_is = is ∙ kept_through

  pub as_many_settled : length now ≡ length ins.items
  as_many_settled = size ∙ ap length lent_is

  pub written_is : written ≡ now
  written_is =
      ap (λ (l : List Ingress). take ins.len (now ++ drop (length now) l)) kept_through
      ∙ with_items_is ins now (as_many_settled ∙ sym ins.ok.0)

  pub all_settled : (told : List (List Pair))
      → ((k : ℕ) (d : Ingress) → k < length lent → Settles told (get_or lent k d) (get_or now k d))
      → (k : ℕ) (d : Ingress) → k < length ins.items → Settles told (get_or ins.items k d) (get_or now k d)
  all_settled told settled = subst
      (λ (l : List Ingress). (k : ℕ) (d : Ingress) → k < length l → Settles told (get_or l k d) (get_or now k d)) lent_is settled

  pub written_rows : (told : List (List Pair))
      → ((k : ℕ) (d : Ingress) → k < length lent → Settles told (get_or lent k d) (get_or now k d))
      → rows_of written ≡ rows_of ins.items
  written_rows told settled =
      ap rows_of written_is ∙ rows_stay told ins.items now as_many_settled (all_settled told settled)
