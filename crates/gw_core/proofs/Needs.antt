-- A frame's work is as long as its need.
use Rattle.std.proofs.Common.{◌≡◌, ℕ, suc, ◌-◌, Bool, true, false, cond, ltb, List, [], ◌∷◌, length}
use Rattle.std.proofs.Common.{drop, Some, refl, ap, ◌∙◌, arith, length-append, length-drop}
use Rattle.std.specs.List.{flat_map, sum_by}
use Rattle.std.proofs.lemmas.Bool.Decides.{nat_tests}
use Rattle.std.proofs.lemmas.List.FromFn.{length-map-range_with_len}
use Rattle.std.proofs.lemmas.List.Sums.{sum_by-cons}
use Rattle.gw_core.specs.PortHistory.{PortEvent, Ingress, Taking, Work, instruction, placing_if, instructions_from, is_allowed}
use Rattle.gw_core.specs.PortHistory.{steps_at, work_for, work_from, offered_from, need_at, need, work, work_left, last_taking}
use Rattle.gw_core.specs.PortHistory.{steps_since, is_unfinished}

-- the work for a port is as long as its part of the need
pub length-work_for : (ingress : Ingress) (t : Taking) (q : ℕ) → length (work_for ingress t q) ≡ need_at ingress t q
length-work_for ingress t q =
    let both = length-append (instructions_from ingress t q 0) (placing_if (is_allowed ingress t q) q) in
    let made = length-map-range_with_len (instruction q) 0 (steps_at ingress t q - 0) in
    let last = one (is_allowed ingress t q) in
    omega arith
  where
    one : (b : Bool) → length (placing_if b q) ≡ cond b 1 0
    one true = refl
    one false = refl

-- so is the work for a list of ports
length-work_of : (ingress : Ingress) (t : Taking) (ports : List ℕ)
    → length (flat_map (work_for ingress t) ports) ≡ sum_by (need_at ingress t) ports
length-work_of ingress t [] = refl
length-work_of ingress t (q ∷ ports) =
    let both = length-append (work_for ingress t q) (flat_map (work_for ingress t) ports) in
    let here = length-work_for ingress t q in
    let rest = length-work_of ingress t ports in
    let sum = sum_by-cons (need_at ingress t) q ports in
    omega arith

-- and so is all of it
pub length-work : (ingress : Ingress) (t : Taking) → length (work ingress t) ≡ need ingress t
length-work ingress t = go t.local
  where
    go : (b : Bool) → length (cond b [] (work_from ingress t 0)) ≡ cond b 0 (sum_by (need_at ingress t) (offered_from ingress 0))
    go true = refl
    go false = length-work_of ingress t (offered_from ingress 0)

-- what is left is as long as the need without the steps made
pub left_in : (ingress : Ingress) (own : List PortEvent) (t : Taking) → last_taking own ≡ Some t
    → length (work_left ingress own) ≡ need ingress t - steps_since own
left_in ingress own t e =
    let left : work_left ingress own ≡ drop (steps_since own) (work ingress t) = rw e refl in
    ap length left ∙ length-drop (steps_since own) (work ingress t) ∙ ap (λ n. n - steps_since own) (length-work ingress t)

-- a frame is unfinished exactly while fewer steps were made than it needs
pub unfinished_by_need : (ingress : Ingress) (own : List PortEvent) (t : Taking) → last_taking own ≡ Some t
    → is_unfinished ingress own ≡ ltb (steps_since own) (need ingress t)
unfinished_by_need ingress own t e = ap (ltb 0) (left_in ingress own t e) ∙ more (need ingress t) (steps_since own)
  where
    more : (n k : ℕ) → ltb 0 (n - k) ≡ ltb k n
    more n k = grind (arith, nat_tests)

-- the step of the last piece is the last that the frame needs
pub last_step : (ingress : Ingress) (own : List PortEvent) (t : Taking) (piece : Work) → last_taking own ≡ Some t
    → work_left ingress own ≡ piece ∷ []
    → suc (steps_since own) ≡ need ingress t
last_step ingress own t piece e left = let n = left_in ingress own t e in let one = ap length left in omega arith
