-- The room for the copies of a run: by port, as many as the frames that the other ports take.
use Rattle.std.proofs.Common.{◌≡◌, ◌∙◌, ℕ, suc, ◌+◌, ◌-◌, ◌<◌, ◌≤◌, ◌++◌, List, [], ◌∷◌, length, map, get_or, min, slice_set}
use Rattle.std.proofs.Common.{take, Vec, Global, vec_capacity, vec_len, ⊎_elim, ap, arith, subst}
use Rattle.std.proofs.lemmas.Bool.{cases_eq}
use Rattle.std.proofs.lemmas.List.{ext_get_or, get_or-map, get_or-set_other, get_or-set_same, length-map, length-set}
use Rattle.std.proofs.lemmas.List.Sums.{sum_by-cons, sum_by_more}
use Rattle.std.specs.List.{All, sum}
use Rattle.gw_ledger.specs.declared.outcome.Outcome.{Outcome}
use Rattle.gw_ports.specs.Reports.{HasRoom, sum_of_others}
use Rattle.gw_ports.specs.declared.running.RunReport.{RunReport}
use Rattle.gw_ports.proofs.Elementwise.{there}
use Rattle.gw_ports.proofs.Runs.{all_push, each_push}

-- one port more of the sum
pub other_counted : (counts : List ℕ) (egress port count copies : ℕ) → port < length counts → get_or counts port 0 ≡ count
    → (port ≡ egress → ⊥) → copies ≡ sum (take port (slice_set counts egress 0))
    → copies + count ≡ sum (take (port + 1) (slice_set counts egress 0))
other_counted counts egress port count copies inside is apart so_far =
    let set = slice_set counts egress 0 in
    let size = length-set counts egress 0 in
    let more = sum_by_more (λ x. x) set port 0 (omega arith) in
    let here = get_or-set_other counts egress port 0 0 apart ∙ is in
    omega arith

pub own_left_out : (counts : List ℕ) (egress port copies : ℕ) → port < length counts → port ≡ egress
    → copies ≡ sum (take port (slice_set counts egress 0)) → copies ≡ sum (take (port + 1) (slice_set counts egress 0))
own_left_out counts egress port copies inside is so_far =
    let set = slice_set counts egress 0 in
    let size = length-set counts egress 0 in
    let more = sum_by_more (λ x. x) set port 0 (omega arith) in
    let here =
    ap (λ n. get_or set n 0) is ∙ get_or-set_same counts egress 0 0 (omega arith) in
    omega arith

sum_le : (xs ys : List ℕ) → length xs ≡ length ys → ((k : ℕ) → k < length xs → get_or xs k 0 ≤ get_or ys k 0) → sum xs ≤ sum ys
sum_le [] [] size each = omega arith
sum_le [] (y ∷ ys) size each = absurd (omega arith)
sum_le (x ∷ xs) [] size each = absurd (omega arith)
sum_le (x ∷ xs) (y ∷ ys) size each =
    let first = each 0 (omega arith) in
    let rest = sum_le xs ys (omega arith) (λ k below. each (suc k) (omega arith)) in
    let left = sum_by-cons (λ n. n) x xs in
    let right = sum_by-cons (λ n. n) y ys in
    omega arith

sum_of_others_le : (port : ℕ) (xs ys : List ℕ) → length xs ≡ length ys
    → ((k : ℕ) → k < length xs → get_or xs k 0 ≤ get_or ys k 0) → sum_of_others port xs ≤ sum_of_others port ys
sum_of_others_le port xs ys size each =
    let left = length-set xs port 0 in
    let right = length-set ys port 0 in
    sum_le (slice_set xs port 0) (slice_set ys port 0) (omega arith)
    (λ k below. ⊎_elim
    (λ (same : k ≡ port).
    let a = ap (λ n. get_or (slice_set xs port 0) n 0) same ∙ get_or-set_same xs port 0 0 (omega arith) in omega arith)
    (λ (apart : k ≡ port → ⊥).
    let a = get_or-set_other xs port k 0 0 apart in
    let b = get_or-set_other ys port k 0 0 apart in
    let le = each k (omega arith) in
    omega arith)
    (cases_eq k port))

-- the rooms of lists
pub rooms_are : {A : Type 0} (lists : List (Vec A Global)) (rooms : List ℕ) → length lists ≡ length rooms
    → ((k : ℕ) (d : Vec A Global) → k < length lists → vec_capacity (get_or lists k d) ≡ get_or rooms k 0)
    → map (λ list. vec_capacity list) lists ≡ rooms
rooms_are {A} lists rooms many each =
    let size = length-map lists (λ (v : Vec A Global). vec_capacity v) in
    ext_get_or 0 (map (λ (v : Vec A Global). vec_capacity v) lists) rooms (size ∙ many) (λ k below.
    let v = there lists k (omega arith) in
    get_or-map (λ (v : Vec A Global). vec_capacity v) lists k v.0 0 (omega arith) ∙ each k v.0 (omega arith))

-- so many empty lists, of the rooms that are asked for, and room for the lists of all ports
abbrev pub HasLists : {A : Type 0} → (ℕ → Vec A Global → Type 0) → ℕ → ℕ → Vec (Vec A Global) Global → Type 0
HasLists {A} IsRoom ports many lists =
    (vec_len lists ≡ many) × (ports ≤ vec_capacity lists) × All (λ list. list.items ≡ []) lists.items
    × ((k : ℕ) (d : Vec A Global) → k < length lists.items → IsRoom k (get_or lists.items k d))

-- one list more
pub lists_push : {A : Type 0} (IsRoom : ℕ → Vec A Global → Type 0) (ports many : ℕ) (lists now : Vec (Vec A Global) Global)
    (list : Vec A Global) → HasLists IsRoom ports many lists → now.items ≡ lists.items ++ list ∷ []
    → vec_len now ≡ vec_len lists + 1 → vec_capacity now ≡ vec_capacity lists → list.items ≡ [] → IsRoom many list
    → HasLists IsRoom ports (many + 1) now
lists_push {A} IsRoom ports many lists now list has items more kept empty room =
    let count = has.0 in
    let size = lists.ok.0 in
    let enough = has.1 in
    let same : many ≡ length lists.items = omega arith in (
      omega arith,
      omega arith,
      all_push (λ (v : Vec A Global). v.items ≡ []) lists.items now.items list items has.2 empty,
      each_push IsRoom lists.items now.items list items has.3 (subst (λ n. IsRoom n list) same room),
    )

-- the list of a port has room for the outcomes of all frames that it can take
pub room_at : {A : Type 0} (lists : List (Vec A Global)) (sizes : List ℕ) (frames : ℕ) → All (λ list. list.items ≡ []) lists
    → map (λ list. vec_capacity list) lists ≡ map (λ size. min size frames) sizes → (k : ℕ) (d : Vec A Global) → k < length lists
    → min (get_or sizes k 0) frames ≤ vec_capacity (get_or lists k d) - vec_len (get_or lists k d)
room_at {A} lists sizes frames empty rooms k d below =
    let count = length-map lists (λ (v : Vec A Global). vec_capacity v) in
    let count' = length-map sizes (λ size. min size frames) in
    let same = ap length rooms in
    let at = get_or-map (λ (v : Vec A Global). vec_capacity v) lists k d 0 below in
    let at' = get_or-map (λ size. min size frames) sizes k 0 0 (omega arith) in
    let room = ap (λ (l : List ℕ). get_or l k 0) rooms in
    let none = ap length (empty k d below) in
    let used = (get_or lists k d).ok.0 in
    omega arith

-- where no list has more items than its room, and those for outcomes have room for what the ports can take, there was room for
-- all copies
pub has_room : (ports frames : ℕ) (sizes : List ℕ) (report : RunReport) → length sizes ≡ ports
    → map (λ list. vec_capacity list) report.outcomes.items ≡ map (λ size. min size frames) sizes
    → ((k : ℕ) → k < length sizes → sum_of_others k (map (λ size. min size frames) sizes)
    ≡ get_or (map (λ list. vec_capacity list) report.out.items) k 0)
    → HasRoom ports report
has_room ports frames sizes report many taken enough egress below =
    let lists = report.outcomes.items in
    let counts = map (λ (v : Vec Outcome Global). length v.items) lists in
    let size = length-map lists (λ (v : Vec Outcome Global). length v.items) in
    let size' = length-map lists (λ (v : Vec Outcome Global). vec_capacity v) in
    let rooms = ap length taken in
    let le =
    sum_of_others_le egress counts (map (λ size. min size frames) sizes) (omega arith)
    (λ k inside.
    let v = there lists k (omega arith) in
    let count = get_or-map (λ (v : Vec Outcome Global). length v.items) lists k v.0 0 (omega arith) in
    let room = get_or-map (λ (v : Vec Outcome Global). vec_capacity v) lists k v.0 0 (omega arith) in
    let at = ap (λ (l : List ℕ). get_or l k 0) taken in
    let one = v.1 v.0 in
    let count' = count ∙ ap (λ (v : Vec Outcome Global). length v.items) one in
    let room' = room ∙ ap (λ (v : Vec Outcome Global). vec_capacity v) one in
    let few = v.0.ok.1 in
    let is = v.0.ok.0 in
    omega arith) in
    let all = enough egress (omega arith) in
    omega arith
