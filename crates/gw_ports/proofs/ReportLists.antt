-- A run over lists: its report is that of the whole lists, also where a port asked for some of its frames alone.
use Rattle.std.proofs.Common.{◌≡◌, ◌∙◌, ℕ, ◌<◌, ◌≤◌, List, [], ◌∷◌, ◌++◌, length, map, get_or, Global, Option, Some, None}
use Rattle.std.proofs.Common.{sym, ap, subst, refl, arith, append-nil, ⊎_elim, Result, Ok, Err, IfOk}
use Rattle.std.proofs.lemmas.Bool.{cases_lt}
use Rattle.std.proofs.lemmas.List.{get_or_past, get_or-map, length-map, nil_from_length}
use Rattle.std.specs.Iterator.{Yields}
use Rattle.std.specs.Vec.Iter.{into_iter_items, into_iter_steps}
use Rattle.std.specs.declared.vec.IntoIter.{IntoIter}
use mathlib.Core.List.{IsPrefix}
use Rattle.gw_board.proofs.Callers.{prefix_length}
use Rattle.gw_ledger.specs.Bounds.{Bounds}
use Rattle.gw_ledger.specs.declared.outcome.Outcome.{Outcome}
use Rattle.gw_policy.specs.Batches.{Pair}
use Rattle.gw_ports.specs.Reports.{AsksUpTo, EndsAt, IsReport, IsReportOf, Ran, batches_of, copies_to, frames_of, outcomes_of}
use Rattle.gw_ports.specs.Reports.{ran_of, stop_of}
use Rattle.gw_ports.specs.declared.refusals.OfferRefusal.{OfferRefusal}
use Rattle.gw_ports.specs.declared.refusals.OfferRefusal.TheVariants.{FramesSpent, NoReading}
use Rattle.gw_ports.specs.declared.running.RunRefusal.{RunRefusal}
use Rattle.gw_ports.specs.declared.running.RunReport.{RunReport}
use Rattle.gw_ports.proofs.Copied.{copies_of_more}
use Rattle.gw_ports.proofs.Elementwise.{there}
use Rattle.gw_ports.proofs.Judged.{judged_of_more}

-- the report of more frames that no port asked for

ends_on_more : (limits : Bounds) (frames more : List (List ℕ)) (outcomes : List Outcome) (stop : Option OfferRefusal)
    → IsPrefix frames more → (stop ≡ None → frames ≡ more) → EndsAt limits frames outcomes stop → EndsAt limits more outcomes stop
ends_on_more limits frames more outcomes None begins whole ends = ends ∙ ap length (whole refl)
ends_on_more limits frames more outcomes (Some FramesSpent) begins whole ends =
    let longer = prefix_length frames more begins in let few = ends.0 in (omega arith, ends.1)
ends_on_more limits frames more outcomes (Some NoReading) begins whole ends =
    let longer = prefix_length frames more begins in omega arith

no_copies : (ingress egress : ℕ) (frames : List (List ℕ)) → copies_to ingress egress frames [] ≡ []
no_copies ingress egress [] = refl
no_copies ingress egress (f ∷ frames) = refl

same_copies : (limits : Bounds) (first : List Pair) (inputs more : List (List (List ℕ))) (batches : List (List Pair))
    (ran : Ran) → IsReport limits first inputs batches ran
    → ((port : ℕ) → port < limits.ports → IsPrefix (frames_of inputs port) (frames_of more port)
    × (stop_of ran port ≡ None → frames_of inputs port ≡ frames_of more port))
    → (ingress egress : ℕ) → copies_to ingress egress (frames_of inputs ingress) (outcomes_of ran ingress)
    ≡ copies_to ingress egress (frames_of more ingress) (outcomes_of ran ingress)
same_copies limits first inputs more batches ran is longer ingress egress = ⊎_elim
    (λ (inner : ingress < limits.ports).
    let begins = (longer ingress inner).0 in
    sym (copies_of_more ingress egress (frames_of inputs ingress) begins.0 (outcomes_of ran ingress)
    (is.judged ingress inner).few)
    ∙ ap (λ (l : List (List ℕ)). copies_to ingress egress l (outcomes_of ran ingress)) begins.1)
    (λ (outer : limits.ports ≤ ingress).
    let none : outcomes_of ran ingress ≡ [] =
    get_or_past ran.outcomes ingress [] (let n = is.ports.0 in omega arith) in
    ap (λ (l : List Outcome). copies_to ingress egress (frames_of inputs ingress) l) none
    ∙ no_copies ingress egress (frames_of inputs ingress)
    ∙ sym (no_copies ingress egress (frames_of more ingress))
    ∙ ap (λ (l : List Outcome). copies_to ingress egress (frames_of more ingress) l) (sym none))
    (cases_lt ingress limits.ports)

pub reported_of_more : (limits : Bounds) (first : List Pair) (inputs more : List (List (List ℕ))) (batches : List (List Pair))
    (ran : Ran) → IsReport limits first inputs batches ran
    → ((port : ℕ) → port < limits.ports → IsPrefix (frames_of inputs port) (frames_of more port)
    × (stop_of ran port ≡ None → frames_of inputs port ≡ frames_of more port))
    → IsReport limits first more batches ran
reported_of_more limits first inputs more batches ran is longer = record {
  ports = is.ports;
  judged = λ port below.
      judged_of_more limits.ports port (batches_of first batches ran) (frames_of inputs port) (frames_of more port)
      (outcomes_of ran port) (longer port below).0 (is.judged port below);
  lost = is.lost;
  stops = λ port below.
      ends_on_more limits (frames_of inputs port) (frames_of more port) (outcomes_of ran port) (stop_of ran port)
      (longer port below).0 (longer port below).1 (is.stops port below);
  fronts = is.fronts;
  published = is.published;
  front = is.front;
  counted = is.counted;
  sent = is.sent;
  lanes = is.lanes;
  copies = λ k d below.
      let left = get_or ran.report.lanes.items k d in
      is.copies k d below
      ∙ same_copies limits first inputs more batches ran is longer left.from left.to;
  balances = is.balances;
}

-- a list as an iterator

items_yielded : (s : IntoIter (List ℕ) Global) (frames : List (List ℕ)) (t : IntoIter (List ℕ) Global)
    → Yields into_iter_steps s frames t → into_iter_items s ≡ frames ++ into_iter_items t
items_yielded s [] t yields = ap into_iter_items yields
items_yielded s (f ∷ frames) t yields =
    yields.1.0 ∙ ap (λ (l : List (List ℕ)). f ∷ l) (items_yielded yields.0 frames t yields.2)

items_asked : (s : IntoIter (List ℕ) Global) (stop : Option OfferRefusal) (asked : List (List ℕ))
    (rest : IntoIter (List ℕ) Global) → AsksUpTo into_iter_steps s stop asked rest
    → IsPrefix asked (into_iter_items s) × (stop ≡ None → asked ≡ into_iter_items s)
items_asked s None asked rest asks =
    let t = asks.0 in
    let none : into_iter_items t ≡ [] =
    nil_from_length (into_iter_items t) (let n = asks.2.0 in let m = t.rest.ok.0 in omega arith) in
    let is : into_iter_items s ≡ asked =
    items_yielded s asked t asks.1 ∙ ap (λ (l : List (List ℕ)). asked ++ l) none ∙ append-nil asked in
    (([], append-nil asked ∙ sym is), λ n. sym is)
items_asked s (Some why) asked rest asks =
    ((into_iter_items rest, sym (items_yielded s asked rest asks)), λ none. absurd (cc none))

pub reported_of_lists : (limits : Bounds) (first : List Pair) (lists : List (List (List ℕ)))
    (made : List (IntoIter (List ℕ) Global)) (batches : List (List Pair)) (rests : List (IntoIter (List ℕ) Global)) (ran : Ran)
    → map into_iter_items made ≡ lists → length lists ≡ limits.ports
    → IsReportOf into_iter_steps limits first made batches rests ran → IsReport limits first lists batches ran
reported_of_lists limits first lists made batches rests ran are many is =
    reported_of_more limits first is.frames lists batches ran is.reported (λ port below.
    let size = length-map made into_iter_items in
    let all = ap length are in
    let it = there made port (omega arith) in
    let list : frames_of lists port ≡ into_iter_items it.0 =
    ap (λ (l : List (List (List ℕ))). get_or l port []) (sym are) ∙ get_or-map into_iter_items made port it.0 [] (omega arith)
    ∙ ap into_iter_items (it.1 it.0) in
    let asked =
    items_asked it.0 (stop_of ran port) (frames_of is.frames port) (get_or rests port it.0)
    (subst (λ (s : IntoIter (List ℕ) Global). AsksUpTo into_iter_steps s (stop_of ran port) (frames_of is.frames port)
    (get_or rests port it.0)) (it.1 it.0) (is.asked port it.0 below)) in
    subst (λ (l : List (List ℕ)). IsPrefix (frames_of is.frames port) l
    × (stop_of ran port ≡ None → frames_of is.frames port ≡ l)) (sym list) asked)

-- and so of the answer of a run over lists
pub answer_of_lists : (limits : Bounds) (first : List Pair) (lists : List (List (List ℕ)))
    (made : List (IntoIter (List ℕ) Global)) (batches : List (List Pair)) (answer : Result RunReport RunRefusal)
    → map into_iter_items made ≡ lists → length lists ≡ limits.ports
    → IfOk answer (λ report. (rests : List (IntoIter (List ℕ) Global))
    × IsReportOf into_iter_steps limits first made batches rests (ran_of report))
    → IfOk answer (λ report. IsReport limits first lists batches (ran_of report))
answer_of_lists limits first lists made batches (Ok report) are many is =
    reported_of_lists limits first lists made batches is.0 (ran_of report) are many is.1
answer_of_lists limits first lists made batches (Err why) are many is = tt
