-- The first fault of lists, one element after another.
use Rattle.std.proofs.Common.{◌≡◌, ℕ, suc, zero, ◌+◌, ◌-◌, ◌<◌, ◌≤◌, Bool, true, false, nat_le, nat_lt, List, [], ◌∷◌}
use Rattle.std.proofs.Common.{◌++◌, map, length, drop, get_or, Option, Some, None, refl, sym, ap, ◌∙◌, arith}
use Rattle.std.proofs.Common.{append_assoc}
use Rattle.std.specs.Borrow.{Bor}
use Rattle.std.specs.List.{filter_map, flat_map, enumerate_from}
use Rattle.std.proofs.lemmas.Bool.Decides.{nat_tests}
use Rattle.std.proofs.lemmas.List.{drop_more}
use Rattle.gw_insn.specs.declared.insn.Raw.{Raw}
use Rattle.gw_text.specs.declared.refusal.AsmRefusal.{AsmRefusal}
use Rattle.gw_text.specs.declared.refusal.AsmRefusal.TheVariants.{Backward, TooFar}
use Rattle.gw_text.specs.declared.forms.Jump.TheVariants.{Always, IfTrue, IfFalse, Either}
use Rattle.gw_text.specs.declared.line.Instruction.{Instruction}
use Rattle.gw_text.specs.Assembly.{Written, Labels, first_of, target_fault, target_faults, distance, distance_fault, is_always}
use Rattle.gw_text.specs.Assembly.{raw_at}
use Rattle.gw_text.specs.Sources.{instruction_view}

-- a list whose first fault is known, before another list
pub first_here : (xs ys : List AsmRefusal) (e : AsmRefusal) → first_of xs ≡ Some e → first_of (xs ++ ys) ≡ Some e
first_here [] ys e h = absurd (let no : None ≡ Some e = h in cc)
first_here (x ∷ xs) ys e h = h

-- a list without a fault, before another list
pub first_behind : (xs ys : List AsmRefusal) → first_of xs ≡ None → first_of (xs ++ ys) ≡ first_of ys
first_behind [] ys h = refl
first_behind (x ∷ xs) ys h = absurd (let no : Some x ≡ None = h in cc)

-- a list without a first fault is empty
pub none_at_all : (xs : List AsmRefusal) → first_of xs ≡ None → xs ≡ []
none_at_all [] h = refl
none_at_all (x ∷ xs) h = absurd (let no : Some x ≡ None = h in cc)

-- the first fault of names, where that at place i is known
pub fault_here : (h : List ℕ → Option AsmRefusal) (names : List (Bor (List ℕ))) (i : ℕ) (d : Bor (List ℕ)) (e : AsmRefusal)
    → i < length names
    → h (get_or names i d).now ≡ Some e → first_of (filter_map h (map (λ t. t.now) (drop i names))) ≡ Some e
fault_here h names i d e lt is = ap (λ ns. first_of (filter_map h (map (λ t. t.now) ns))) (drop_more names i d lt) ∙ rw is

-- the name at place i has no fault
pub fault_behind : (h : List ℕ → Option AsmRefusal) (names : List (Bor (List ℕ))) (i : ℕ) (d : Bor (List ℕ)) → i < length names
    → h (get_or names i d).now ≡ None
    → first_of (filter_map h (map (λ t. t.now) (drop i names))) ≡ first_of (filter_map h (map (λ t. t.now) (drop (i + 1) names)))
fault_behind h names i d lt is = ap (λ ns. first_of (filter_map h (map (λ t. t.now) ns))) (drop_more names i d lt) ∙ rw is

-- the faults of instructions from place s on
abbrev pub faults_from : Labels → ℕ → List Instruction → List AsmRefusal
faults_from labels s is = flat_map (target_faults labels) (enumerate_from s (map instruction_view is))

cut : (labels : Labels) (is : List Instruction) (s : ℕ) (i : Instruction) → s < length is → i ≡ get_or is s i
    → faults_from labels s (drop s is) ≡ target_faults labels (s, instruction_view i)
    ++ faults_from labels (s + 1) (drop (s + 1) is)
cut labels is s i lt here =
    ap (faults_from labels s) (drop_more is s i lt)
    ∙ ap (λ j. target_faults labels (s, instruction_view j) ++ faults_from labels (s + 1) (drop (s + 1) is)) (sym here)

-- the instruction at place s has a fault
pub instruction_here : (labels : Labels) (is : List Instruction) (s : ℕ) (i : Instruction) (e : AsmRefusal) → s < length is
    → i ≡ get_or is s i
    → first_of (target_faults labels (s, instruction_view i)) ≡ Some e → first_of (faults_from labels s (drop s is)) ≡ Some e
instruction_here labels is s i e lt here h =
    ap first_of (cut labels is s i lt here)
    ∙ first_here (target_faults labels (s, instruction_view i)) (faults_from labels (s + 1) (drop (s + 1) is)) e h

-- the instruction at place s has none
pub instruction_behind : (labels : Labels) (is : List Instruction) (s : ℕ) (i : Instruction) → s < length is → i ≡ get_or is s i
    → first_of (target_faults labels (s, instruction_view i)) ≡ None → first_of (faults_from labels s (drop s is))
    ≡ first_of (faults_from labels (s + 1) (drop (s + 1) is))
instruction_behind labels is s i lt here h =
    ap first_of (cut labels is s i lt here)
    ∙ first_behind (target_faults labels (s, instruction_view i)) (faults_from labels (s + 1) (drop (s + 1) is)) h

left_empty : (xs ys : List AsmRefusal) → xs ++ ys ≡ [] → xs ≡ []
left_empty [] ys h = refl
left_empty (x ∷ xs) ys h = absurd (let l : length (x ∷ (xs ++ ys)) ≡ 0 = ap length h in omega arith)

right_empty : (xs ys : List AsmRefusal) → xs ++ ys ≡ [] → ys ≡ []
right_empty [] ys h = h
right_empty (x ∷ xs) ys h = absurd (let l : length (x ∷ (xs ++ ys)) ≡ 0 = ap length h in omega arith)

-- where no instruction has a fault, the next one has none, and those behind it have none
pub faultless_here : (labels : Labels) (is : List Instruction) (s : ℕ) (i : Instruction) → s < length is → i ≡ get_or is s i
    → faults_from labels s (drop s is) ≡ [] → target_faults labels (s, instruction_view i) ≡ []
faultless_here labels is s i lt here h =
    left_empty (target_faults labels (s, instruction_view i)) (faults_from labels (s + 1) (drop (s + 1) is))
    (sym (cut labels is s i lt here) ∙ h)

-- those behind place s have none
pub faultless_behind : (labels : Labels) (is : List Instruction) (s : ℕ) (i : Instruction) → s < length is → i ≡ get_or is s i
    → faults_from labels s (drop s is) ≡ [] → faults_from labels (s + 1) (drop (s + 1) is) ≡ []
faultless_behind labels is s i lt here h =
    right_empty (target_faults labels (s, instruction_view i)) (faults_from labels (s + 1) (drop (s + 1) is))
    (sym (cut labels is s i lt here) ∙ h)

-- one instruction more is encoded
pub one_encoded : (labels : Labels) (is : List Instruction) (s : ℕ) (i : Instruction) (code new : List Raw) (r : Raw)
    (whole : List Raw) → s < length is → i ≡ get_or is s i
    → new ≡ code ++ r ∷ [] → r ≡ raw_at labels (s, instruction_view i)
    → code ++ map (raw_at labels) (enumerate_from s (map instruction_view (drop s is))) ≡ whole
    → new ++ map (raw_at labels) (enumerate_from (s + 1) (map instruction_view (drop (s + 1) is))) ≡ whole
one_encoded labels is s i code new r whole lt here pushed made so =
    let rest : List Raw = map (raw_at labels) (enumerate_from (s + 1) (map instruction_view (drop (s + 1) is))) in
    let next : map (raw_at labels) (enumerate_from s (map instruction_view (drop s is))) ≡ r ∷ rest =
    ap (λ js. map (raw_at labels) (enumerate_from s (map instruction_view js))) (drop_more is s i lt)
    ∙ ap (λ j. raw_at labels (s, instruction_view j) ∷ rest) (sym here) ∙ ap (λ q. q ∷ rest) (sym made) in
    ap (λ c. c ++ rest) pushed ∙ append_assoc code (r ∷ []) rest ∙ ap (λ q. code ++ q) (sym next) ∙ so

-- a target without a fault is at most 255 instructions ahead
pub near : (labels : Labels) (place : ℕ) (w : Written) (name : List ℕ) → target_fault labels place w name ≡ None
    → is_always w.jump ≡ false → distance labels place name ≤ 255
near labels place w name h cond = go (labels name) refl
  where
    tests : (t : ℕ) (b c : Bool) → nat_le t place ≡ b → nat_lt 255 (t - (place + 1)) ≡ c → distance_fault place w t ≡ None
        → t - (place + 1) ≤ 255
    tests t true c e f h =
        let is : distance_fault place w t ≡ Some (Backward w.line) = rw e in
        absurd (let no : Some (Backward w.line) ≡ None = sym is ∙ h in cc)
    tests t false true e f h =
        let is : distance_fault place w t ≡ Some (TooFar w.line) = rw (e, cond, f) in
        absurd (let no : Some (TooFar w.line) ≡ None = sym is ∙ h in cc)
    tests t false false e f h = grind (arith, nat_tests)

    go : (p : Option ℕ) → labels name ≡ p → distance labels place name ≤ 255
    go None e = rw e (omega arith)
    go (Some t) e =
        let is : target_fault labels place w name ≡ distance_fault place w t = rw e in
        rw e (tests t (nat_le t place) (nat_lt 255 (t - (place + 1))) refl refl (sym is ∙ h))

none_first : (h : List ℕ → Option AsmRefusal) (x : List ℕ) (xs : List (List ℕ)) → filter_map h (x ∷ xs) ≡ [] → (h x ≡ None)
    × (filter_map h xs ≡ [])
none_first h x xs e = go (h x) refl
  where
    go : (o : Option AsmRefusal) → h x ≡ o → (h x ≡ None) × (filter_map h xs ≡ [])
    go None o = let skipped : filter_map h (x ∷ xs) ≡ filter_map h xs = rw o in (o, sym skipped ∙ e)
    go (Some r) o = absurd (let some : filter_map h (x ∷ xs) ≡ r ∷ filter_map h xs = rw o in let l : length (r ∷ filter_map h xs)
        ≡ 0 = ap length (sym some ∙ e) in omega arith)

-- so is each target of an instruction without a fault
pub near_at : (labels : Labels) (place : ℕ) (i : Instruction) (names : List (Bor (List ℕ))) (j : ℕ) (d : Bor (List ℕ))
    → names ≡ i.targets.items
    → target_faults labels (place, instruction_view i) ≡ [] → is_always i.jump ≡ false → j < length names
    → distance labels place (get_or names j d).now ≤ 255
near_at labels place i names j d same none cond lt =
    go names j lt (ap (λ ns. filter_map (target_fault labels place (instruction_view i)) (map (λ (t : Bor (List ℕ)). t.now) ns))
    same ∙ none)
  where
    go : (ns : List (Bor (List ℕ))) (k : ℕ) → k < length ns
        → filter_map (target_fault labels place (instruction_view i)) (map (λ t. t.now) ns) ≡ []
        → distance labels place (get_or ns k d).now ≤ 255
    go [] k lt e = absurd (omega arith)
    go (n ∷ ns) zero lt e =
        near labels place (instruction_view i) n.now (none_first (target_fault labels place (instruction_view i)) n.now
        (map (λ t. t.now) ns) e).0 cond
    go (n ∷ ns) (suc k) lt e =
        go ns k (omega arith) (none_first (target_fault labels place (instruction_view i)) n.now (map (λ t. t.now) ns) e).1

-- the four fields of a jump, from its first target or its first two
pub always_raw : (labels : Labels) (place : ℕ) (i : Instruction) (names : List (Bor (List ℕ))) (d : Bor (List ℕ)) (k : ℕ)
    → names ≡ i.targets.items → i.jump ≡ Always
    → 1 ≤ length names → k ≡ distance labels place (get_or names 0 d).now → record { code = i.code; jt = 0; jf = 0; k = k }
    ≡ raw_at labels (place, instruction_view i)
always_raw labels place i [] d k same jump long is = absurd (omega arith)
always_raw labels place i (n ∷ ns) d k same jump long is = rw (is, jump, ← same)

-- the label of a jump where the comparison holds
pub if_true_raw : (labels : Labels) (place : ℕ) (i : Instruction) (names : List (Bor (List ℕ))) (d : Bor (List ℕ)) (jt : ℕ)
    → names ≡ i.targets.items → i.jump ≡ IfTrue
    → 1 ≤ length names → jt ≡ distance labels place (get_or names 0 d).now → record { code = i.code; jt = jt; jf = 0; k = i.k }
    ≡ raw_at labels (place, instruction_view i)
if_true_raw labels place i [] d jt same jump long is = absurd (omega arith)
if_true_raw labels place i (n ∷ ns) d jt same jump long is = rw (is, jump, ← same)

-- the label of a jump where it fails
pub if_false_raw : (labels : Labels) (place : ℕ) (i : Instruction) (names : List (Bor (List ℕ))) (d : Bor (List ℕ)) (jf : ℕ)
    → names ≡ i.targets.items → i.jump ≡ IfFalse
    → 1 ≤ length names → jf ≡ distance labels place (get_or names 0 d).now → record { code = i.code; jt = 0; jf = jf; k = i.k }
    ≡ raw_at labels (place, instruction_view i)
if_false_raw labels place i [] d jf same jump long is = absurd (omega arith)
if_false_raw labels place i (n ∷ ns) d jf same jump long is = rw (is, jump, ← same)

-- both labels
pub either_raw : (labels : Labels) (place : ℕ) (i : Instruction) (names : List (Bor (List ℕ))) (d e : Bor (List ℕ)) (jt jf : ℕ)
    → names ≡ i.targets.items → i.jump ≡ Either
    → 2 ≤ length names → jt ≡ distance labels place (get_or names 0 d).now → jf ≡ distance labels place (get_or names 1 e).now
    → record { code = i.code; jt = jt; jf = jf; k = i.k } ≡ raw_at labels (place, instruction_view i)
either_raw labels place i [] d e jt jf same jump long is os = absurd (omega arith)
either_raw labels place i (n ∷ []) d e jt jf same jump long is os = absurd (omega arith)
either_raw labels place i (n ∷ m ∷ ns) d e jt jf same jump long is os = rw (is, os, jump, ← same)
