-- The arrivals that the pass of `explain` notes, and the path that they tell of.
use Rattle.std.proofs.Common.{◌≡◌, ◌≢◌, ℕ, zero, suc, ◌+◌, ◌<◌, ◌≤◌, ◌⊎◌, inl, inr, List, [], ◌∷◌, ◌++◌, length, get_or, set}
use Rattle.std.proofs.Common.{reverse, Some, refl, sym, ap, ◌∙◌, subst, arith, length-set}
use Rattle.std.specs.Prelude.{slice_get}
use Rattle.std.proofs.lemmas.List.{append-nil, append_assoc, reverse-append}
use Rattle.std.proofs.lemmas.Option.{slice_get_within, slice_get-get_or, same_Some, none-some}
use Rattle.gw_insn.specs.Form.{Form, Jump, Branch, ReturnConstant, ReturnA}
use Rattle.gw_verify.specs.declared.arrival.Arrival.{Arrival}
use Rattle.gw_verify.specs.declared.arrival.Arrival.TheVariants.{Never, Start, From}
use Rattle.gw_verify.specs.Arrivals.{IsArrival, AreArrivals, ComeFromBefore, with_arrival_from}
use Rattle.gw_verify.specs.Flow.{Forms, HasAt, LeadsTo, Stores, PassesBy, IsBare, IsBarePathTo}
use Rattle.gw_verify.proofs.FlowLaws.{bare_start, bare_on, bare_path_start, bare_path_on}
use Rattle.gw_verify.specs.Next.{next_of, at_next}
use Rattle.gw_verify.proofs.Bare.{Reached, reached_more, reached_cases, reached_from_bare, next_forward, bare_inside, step}
use Rattle.gw_verify.proofs.Bare.{step_leads}

-- what an arrival says of place j, where `never` is what it says if no path comes
abbrev Tells : Forms → ℕ → Type 0 → ℕ → Arrival → Type 0
Tells forms word never j Never = never
Tells forms word never j Start = j ≡ 0
Tells forms word never j (From i) = IsBare forms i word × PassesBy forms word i j

-- what it says after the places below n
abbrev TellsAfter : Forms → ℕ → ℕ → ℕ → Arrival → Type 0
TellsAfter forms word n j arrival = Tells forms word (Reached forms word n j → ⊥) j arrival

-- the arrivals after the places below n
abbrev pub AreNoted : Forms → ℕ → ℕ → List Arrival → Type 0
AreNoted forms word n arrivals =
    (j : ℕ) (arrival : Arrival) → slice_get arrivals j ≡ Some arrival → TellsAfter forms word n j arrival

-- a path comes to each place that has an arrival
pub bare_told : (forms : Forms) (word : ℕ) (never : Type 0) (j : ℕ) (arrival : Arrival) → 0 < length forms
    → Tells forms word never j arrival → arrival ≢ Never → IsBare forms j word
bare_told forms word never j Never some told comes = absurd (comes refl)
bare_told forms word never j Start some told comes =
    subst (λ n. IsBare forms n word) (sym told) (bare_start forms word some)
bare_told forms word never j (From i) some told comes =
    bare_on forms word i j told.0 told.1.unset told.1.next

-- and where there is no arrival none comes
pub never_told : (forms : Forms) (word : ℕ) (never : Type 0) (j : ℕ) (arrival : Arrival)
    → Tells forms word never j arrival → arrival ≡ Never → never
never_told forms word never j arrival told e = subst (Tells forms word never j) e told

-- an arrival stays where the next place does not lead
tells_on : (forms : Forms) (word i j : ℕ) (arrival : Arrival)
    → (IsBare forms i word → PassesBy forms word i j → ⊥) → TellsAfter forms word i j arrival
    → TellsAfter forms word (i + 1) j arrival
tells_on forms word i j Start none told = told
tells_on forms word i j (From k) none told = told
tells_on forms word i j Never none told = λ r. elim (reached_cases forms word i j r) [
  | inl earlier ↦ told earlier
  | inr last ↦ none last.0 last.1
]

-- a place that no path goes on from
pub noted_skip : (forms : Forms) (word i : ℕ) (arrivals : List Arrival)
    → ((j : ℕ) → IsBare forms i word → PassesBy forms word i j → ⊥) → AreNoted forms word i arrivals
    → AreNoted forms word (i + 1) arrivals
noted_skip forms word i arrivals none before j arrival e =
    tells_on forms word i j arrival (none j) (before j arrival e)

-- an element after a write
slice_get-set : {X : Type 0} (xs : List X) (i : ℕ) (x : X) (j : ℕ) (y : X) → slice_get (set xs i x) j ≡ Some y
    → ((y ≡ x) × (j ≡ i)) ⊎ ((slice_get xs j ≡ Some y) × (j ≢ i))
slice_get-set [] i x j y e = absurd (none-some y e)
slice_get-set (z ∷ xs) zero x zero y e = inl (sym (same_Some x y e), refl)
slice_get-set (z ∷ xs) zero x (suc j) y e = inr (e, λ h. omega arith)
slice_get-set (z ∷ xs) (suc i) x zero y e = inr (e, λ h. omega arith)
slice_get-set (z ∷ xs) (suc i) x (suc j) y e = elim (slice_get-set xs i x j y e) [
  | inl p ↦ inl (p.0, ap suc p.1)
  | inr p ↦ inr (p.0, λ h. p.1 (omega arith))
]

-- arrivals noted where the instruction leads
noted_cases : (insn : Form) (i : ℕ) (arrivals : List Arrival) (j : ℕ) (arrival : Arrival)
    → slice_get (at_next (with_arrival_from i) i (next_of insn) arrivals) j ≡ Some arrival
    → ((arrival ≡ From i) × LeadsTo insn i j)
    ⊎ ((slice_get arrivals j ≡ Some arrival) × (LeadsTo insn i j → ⊥))
noted_cases (ReturnConstant k) i arrivals j arrival e = inr (e, λ h. h)
noted_cases ReturnA i arrivals j arrival e = inr (e, λ h. h)
noted_cases (Jump k) i arrivals j arrival e = slice_get-set arrivals (i + 1 + k) (From i) j arrival e
noted_cases (Branch c o jt jf) i arrivals j arrival e =
    let first = with_arrival_from i (i + 1 + jt) arrivals in
    elim (slice_get-set first (i + 1 + jf) (From i) j arrival e) [
      | inl p ↦ inl (p.0, inr p.1)
      | inr p ↦ elim (slice_get-set arrivals (i + 1 + jt) (From i) j arrival p.0) [
        | inl q ↦ inl (q.0, inl q.1)
        | inr q ↦ inr (q.0, λ h. elim h [ inl a ↦ q.1 a | inr b ↦ p.1 b ])
      ]
    ]
noted_cases _ i arrivals j arrival e = slice_get-set arrivals (i + 1) (From i) j arrival e

-- arrivals are changed and not added
pub length-at_next : (insn : Form) (i : ℕ) (arrivals : List Arrival)
    → length (at_next (with_arrival_from i) i (next_of insn) arrivals) ≡ length arrivals
length-at_next (ReturnConstant k) i arrivals = refl
length-at_next ReturnA i arrivals = refl
length-at_next (Jump k) i arrivals = length-set arrivals (i + 1 + k) (From i)
length-at_next (Branch c o jt jf) i arrivals =
    length-set (with_arrival_from i (i + 1 + jt) arrivals) (i + 1 + jf) (From i)
    ∙ length-set arrivals (i + 1 + jt) (From i)
length-at_next _ i arrivals = length-set arrivals (i + 1) (From i)

-- a bare place that does not store the word
pub noted_more : (forms : Forms) (word i : ℕ) (insn : Form) (arrivals : List Arrival)
    → length arrivals ≤ length forms → HasAt forms i insn → (Stores insn word → ⊥) → IsBare forms i word
    → AreNoted forms word i arrivals
    → AreNoted forms word (i + 1) (at_next (with_arrival_from i) i (next_of insn) arrivals)
noted_more forms word i insn arrivals short here unset bare before j arrival e =
    let new = at_next (with_arrival_from i) i (next_of insn) arrivals in
    let inside : j < length forms =
    omega (arith, slice_get_within new j arrival e, length-at_next insn i arrivals) in
    elim (noted_cases insn i arrivals j arrival e) [
      | inl p ↦
          let passes = step forms word i j insn here p.1 inside unset in
          subst (TellsAfter forms word (i + 1) j) (sym p.0) (bare, passes)
      | inr p ↦
          let old = before j arrival p.0 in
          tells_on forms word i j arrival (λ b q. p.1 (step_leads forms word i j insn here q)) old
    ]

-- once the places before the last are passed
pub arrivals_noted : (forms : Forms) (word last : ℕ) (arrivals : List Arrival) → length arrivals ≡ last + 1
    → AreNoted forms word last arrivals → AreArrivals forms word arrivals
arrivals_noted forms word last arrivals long noted j arrival e = told arrival (noted j arrival e)
  where
    inside : j ≤ last
    inside = omega (arith, slice_get_within arrivals j arrival e)

    told : (arrival : Arrival) → TellsAfter forms word last j arrival → IsArrival forms word j arrival
    told Never t = λ b. t (reached_more forms word j last j inside (reached_from_bare forms word j b))
    told Start t = t
    told (From i) t = t

-- instructions lead forward, so an arrival is from an earlier place
pub from_before : (forms : Forms) (word : ℕ) (arrivals : List Arrival) → AreArrivals forms word arrivals
    → ComeFromBefore arrivals
from_before forms word arrivals told j i e = next_forward forms i j (told j (From i) e).1.next

-- the places found so far, from the last one back, go on from each bare path to the place before them
abbrev pub GoesOn : Forms → ℕ → ℕ → List ℕ → ℕ → Type 0
GoesOn forms word place found last = (front : List ℕ) → IsBarePathTo forms front place word
    → IsBarePathTo forms (front ++ reverse found) last word

reverse_push : (found : List ℕ) (place : ℕ) → reverse (found ++ place ∷ []) ≡ place ∷ reverse found
reverse_push found place = reverse-append found (place ∷ [])

-- from the last place
pub goes_on_none : (forms : Forms) (word last : ℕ) → GoesOn forms word last [] last
goes_on_none forms word last front b = rw append-nil b

-- one place more
pub goes_on_more : (forms : Forms) (word place before : ℕ) (found : List ℕ) (last : ℕ)
    → PassesBy forms word before place → GoesOn forms word place found last
    → GoesOn forms word before (found ++ place ∷ []) last
goes_on_more forms word place before found last p goes front b =
    let on = goes (front ++ place ∷ []) (bare_path_on forms word front before place b p.unset p.next) in
    let same = append_assoc front (place ∷ []) (reverse found) in
    rw reverse_push (subst (λ places. IsBarePathTo forms places last word) same on)

-- what an arrival that is read says
pub arrival_at : (arrivals : List Arrival) (j : ℕ) (arrival : Arrival) → j < length arrivals
    → get_or arrivals j Never ≡ arrival → slice_get arrivals j ≡ Some arrival
arrival_at arrivals j arrival inside e = slice_get-get_or arrivals j Never inside ∙ ap (λ a. Some a) e

-- the way back ends at the first place
pub found_path : (forms : Forms) (word : ℕ) (arrivals : List Arrival) → AreArrivals forms word arrivals
    → (place : ℕ) (found : List ℕ) (last : ℕ) → place < length arrivals
    → ((i : ℕ) → get_or arrivals place Never ≡ From i → ⊥) → IsBare forms place word
    → GoesOn forms word place found last → IsBarePathTo forms (reverse (found ++ place ∷ [])) last word
found_path forms word arrivals told place found last inside ends bare goes =
    rw (reverse_push, first) (goes (0 ∷ []) (subst start (sym first) (bare_path_start forms word some)))
  where
    some : 0 < length forms
    some = omega (arith, bare_inside forms word place bare)

    start : ℕ → Type 0
    start i = IsBarePathTo forms (0 ∷ []) i word

    is_first : (arrival : Arrival) → get_or arrivals place Never ≡ arrival → IsArrival forms word place arrival
        → place ≡ 0
    is_first Never e t = absurd (t bare)
    is_first Start e t = t
    is_first (From i) e t = absurd (ends i e)

    first : place ≡ 0
    first =
        let arrival = get_or arrivals place Never in
        is_first arrival refl (told place arrival (arrival_at arrivals place arrival inside refl))
