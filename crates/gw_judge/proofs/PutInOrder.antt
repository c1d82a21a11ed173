-- Texts that are put one after another.
use Rattle.std.proofs.Common.{◌≡◌, ℕ, ◌+◌, ◌<◌, ◌≤◌, Bool, false, List, [], ◌∷◌, ◌++◌, length}
use Rattle.std.proofs.Common.{take, drop, get_or, Option, Result, Ok, Err, sym, ap, ◌∙◌, subst, append_assoc, append-nil}
use Rattle.std.specs.List.{flat_map}
use Rattle.std.proofs.lemmas.List.{take_all, take_more, take-append-drop}
use Rattle.std.proofs.lemmas.List.Concat.{flat_map-append}
use Rattle.gw_judge.specs.declared.fault.JudgeFault.{JudgeFault}
use Rattle.gw_judge.specs.UnderWay.{Puts}
use Rattle.gw_judge.proofs.Gathering.{puts_both, puts_failed, puts_held}

-- of each element of a list a text is put: those of the first elements, and the next one's
first_texts : {X : Type 0} (f : X → List ℕ) (xs : List X) (n : ℕ) (d : X) → n < length xs
    → flat_map f (take n xs) ++ f (get_or xs n d) ≡ flat_map f (take (n + 1) xs)
first_texts f xs n d within =
    ap (λ (last : List ℕ). flat_map f (take n xs) ++ last) (sym (append-nil (f (get_or xs n d))))
    ∙ sym (flat_map-append f (take n xs) (get_or xs n d ∷ []))
    ∙ ap (flat_map f) (sym (take_more xs n d within))

-- none yet
pub none_put : {A : Type 0} (done : A) (w : Option (List ℕ)) (failed : Bool) (held : List ℕ) → failed ≡ false
    → Puts w w failed held [] (Ok done) held
none_put done w failed held fine = puts_held w failed held [] held fine (sym (append-nil held))

-- one more
pub more_put : {A B X : Type 0} (done : A) (next : B) (f : X → List ℕ) (xs : List X) (n : ℕ) (d : X)
    (w y z : Option (List ℕ)) (failed then_failed : Bool) (held mid now : List ℕ) → n < length xs
    → Puts w y failed held (flat_map f (take n xs)) (Ok done) mid → Puts y z then_failed mid (f (get_or xs n d)) (Ok next) now
    → Puts w z then_failed held (flat_map f (take (n + 1) xs)) (Ok next) now
more_put done next f xs n d w y z failed then_failed held mid now within before put =
    subst (λ (text : List ℕ). Puts w z then_failed held text (Ok next) now) (first_texts f xs n d within)
    (puts_both (Ok next) done w y z failed then_failed held (flat_map f (take n xs)) (f (get_or xs n d)) mid now before put)

-- all of them
pub all_put : {A X : Type 0} (done : A) (f : X → List ℕ) (xs : List X) (n : ℕ) (w y : Option (List ℕ)) (failed : Bool)
    (held now : List ℕ) → length xs ≤ n → Puts w y failed held (flat_map f (take n xs)) (Ok done) now
    → Puts w y failed held (flat_map f xs) (Ok done) now
all_put done f xs n w y failed held now past put =
    subst (λ ys. Puts w y failed held (flat_map f ys) (Ok done) now) (take_all n xs past) put

-- a text that is put behind another, where a write fails
pub second_failed : {A B : Type 0} (r : Result B JudgeFault) (done : A) (fault : JudgeFault) (w y z : Option (List ℕ))
    (failed then_failed : Bool) (held first second later mid now end : List ℕ) → r ≡ Err fault
    → Puts w y failed held first (Ok done) mid → Puts y z then_failed mid second r now
    → Puts {A = B} w z then_failed held (first ++ (second ++ later)) (Err fault) end
second_failed {A} {B} r done fault w y z failed then_failed held first second later mid now end bad before put =
    puts_both {B = B} (Err fault) done w y z failed then_failed held first (second ++ later) mid end before
    (puts_failed r fault y z then_failed mid second later now end bad put)

-- one of them fails
pub one_failed : {A B X : Type 0} (r : Result B JudgeFault) (done : A) (fault : JudgeFault) (f : X → List ℕ) (xs : List X)
    (n : ℕ) (d : X) (w y z : Option (List ℕ)) (failed then_failed : Bool) (held mid now end : List ℕ) → n < length xs
    → r ≡ Err fault → Puts w y failed held (flat_map f (take n xs)) (Ok done) mid
    → Puts y z then_failed mid (f (get_or xs n d)) r now → Puts {A = B} w z then_failed held (flat_map f xs) (Err fault) end
one_failed {A} {B} r done fault f xs n d w y z failed then_failed held mid now end within bad before put =
    let behind : List ℕ = flat_map f (drop (n + 1) xs) in
    let split : flat_map f (take n xs) ++ (f (get_or xs n d) ++ behind) ≡ flat_map f xs =
    sym (append_assoc (flat_map f (take n xs)) (f (get_or xs n d)) behind)
    ∙ ap (λ (front : List ℕ). front ++ behind) (first_texts f xs n d within)
    ∙ sym (flat_map-append f (take (n + 1) xs) (drop (n + 1) xs)) ∙ ap (flat_map f) (take-append-drop (n + 1) xs) in
    subst (λ (text : List ℕ). Puts {A = B} w z then_failed held text (Err fault) end) split
    (second_failed r done fault w y z failed then_failed held (flat_map f (take n xs)) (f (get_or xs n d)) behind mid now end
    bad before put)
