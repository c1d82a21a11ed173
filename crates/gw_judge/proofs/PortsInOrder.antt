-- The lines of a frame at one port after another.
use Rattle.std.proofs.Common.{◌≡◌, ℕ, zero, suc, ◌+◌, Bool, true, false, if◌then◌else◌, List, [], ◌∷◌, ◌++◌}
use Rattle.std.proofs.Common.{Option, Result, Ok, Err, refl, sym, ap, ◌∙◌, subst, append_assoc, append-nil, arith}
use Rattle.std.specs.List.{flat_map}
use Rattle.std.proofs.lemmas.List.Concat.{flat_map-append}
use Rattle.gw_ledger.specs.Ports.{ports_below}
use Rattle.gw_judge.specs.declared.fault.JudgeFault.{JudgeFault}
use Rattle.gw_judge.specs.UnderWay.{Puts}
use Rattle.gw_judge.proofs.Gathering.{puts_both}
use Rattle.gw_judge.proofs.PutInOrder.{second_failed}

-- the text of the ports below a number that pass a test
abbrev pub text_below : (ℕ → List ℕ) → (ℕ → Bool) → ℕ → List ℕ
text_below f test n = flat_map f (ports_below n test)

pub none_below : (f : ℕ → List ℕ) (test : ℕ → Bool) → text_below f test 0 ≡ []
unfolding ports_below
none_below f test = refl

text_of_one : (f : ℕ → List ℕ) (n : ℕ) (b : Bool) → flat_map f (if b then n ∷ [] else []) ≡ (if b then f n else [])
text_of_one f n true = append-nil (f n)
text_of_one f n false = refl

-- with the next port, if it passes
pub one_below : (f : ℕ → List ℕ) (test : ℕ → Bool) (n : ℕ)
    → text_below f test n ++ (if test n then f n else []) ≡ text_below f test (n + 1)
unfolding ports_below
one_below f test n =
    let next : suc n ≡ n + 1 = omega arith in
    ap (λ (last : List ℕ). text_below f test n ++ last) (sym (text_of_one f n (test n)))
    ∙ sym (flat_map-append f (ports_below n test) (if test n then n ∷ [] else []))
    ∙ ap (text_below f test) next

-- those of more ports begin with those of fewer
pub more_below : (f : ℕ → List ℕ) (test : ℕ → Bool) (n k : ℕ)
    → (tail : List ℕ) × (text_below f test (n + k) ≡ text_below f test n ++ tail)
more_below f test n zero = ([], ap (text_below f test) (omega arith) ∙ sym (append-nil (text_below f test n)))
more_below f test n (suc k) =
    let fewer = more_below f test n k in
    let last : List ℕ = if test (n + k) then f (n + k) else [] in
    let next : n + suc k ≡ (n + k) + 1 = omega arith in (
      fewer.0 ++ last,
      ap (text_below f test) next ∙ sym (one_below f test (n + k)) ∙ ap (λ (front : List ℕ). front ++ last) fewer.1
          ∙ append_assoc (text_below f test n) fewer.0 last,
    )

-- the lines at the next port are put
pub port_put : {A B : Type 0} (done : A) (next : B) (f : ℕ → List ℕ) (test : ℕ → Bool) (n : ℕ) (w y z : Option (List ℕ))
    (failed then_failed : Bool) (held mid now : List ℕ) → Puts w y failed held (text_below f test n) (Ok done) mid
    → Puts y z then_failed mid (if test n then f n else []) (Ok next) now
    → Puts w z then_failed held (text_below f test (n + 1)) (Ok next) now
port_put done next f test n w y z failed then_failed held mid now before put =
    subst (λ (text : List ℕ). Puts w z then_failed held text (Ok next) now) (one_below f test n)
    (puts_both (Ok next) done w y z failed then_failed held (text_below f test n) (if test n then f n else []) mid now before put)

-- or a write fails there, whatever ports follow
pub port_failed : {A B : Type 0} (r : Result B JudgeFault) (done : A) (fault : JudgeFault) (f : ℕ → List ℕ) (test : ℕ → Bool)
    (n k all : ℕ) (w y z : Option (List ℕ)) (failed then_failed : Bool) (held mid now end : List ℕ) → n + 1 + k ≡ all
    → r ≡ Err fault → Puts w y failed held (text_below f test n) (Ok done) mid
    → Puts y z then_failed mid (if test n then f n else []) r now
    → Puts {A = B} w z then_failed held (text_below f test all) (Err fault) end
port_failed {A} {B} r done fault f test n k all w y z failed then_failed held mid now end is bad before put =
    let one : List ℕ = if test n then f n else [] in
    let more = more_below f test (n + 1) k in
    let split : text_below f test n ++ (one ++ more.0) ≡ text_below f test all =
    sym (append_assoc (text_below f test n) one more.0) ∙ ap (λ (front : List ℕ). front ++ more.0) (one_below f test n)
    ∙ sym more.1 ∙ ap (text_below f test) is in
    subst (λ (text : List ℕ). Puts {A = B} w z then_failed held text (Err fault) end) split
    (second_failed r done fault w y z failed then_failed held (text_below f test n) one more.0 mid now end bad before put)
