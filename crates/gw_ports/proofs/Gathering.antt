-- A list that is made of another one, in room that was there before.
use Rattle.std.proofs.Common.{◌≡◌, ◌∙◌, ◌+◌, ◌≤◌, ◌++◌, [], List, Vec, Global, length, map, vec_capacity, vec_len}
use Rattle.std.proofs.Common.{ap, append-nil, arith, sym}
use Rattle.std.specs.Vec.Iter.{into_iter_items, into_iter_len}
use Rattle.std.specs.declared.vec.IntoIter.{IntoIter}
use Rattle.std.proofs.lemmas.List.{nil_from_length}

-- what the list has and what the others will make is what all make, and there is room for it
abbrev pub Gathers : {A B : Type 0} → (A → B) → List A → Vec B Global → List A → Type 0
Gathers make all list others =
    (list.items ++ map make others ≡ map make all) × (vec_len list + length others ≤ vec_capacity list)

-- at the end
pub gathered : {A B : Type 0} (make : A → B) (all : List A) (list : Vec B Global) (iterator : IntoIter A Global)
    → Gathers make all list (into_iter_items iterator) → into_iter_len iterator ≡ 0 → list.items ≡ map make all
gathered {A} {B} make all list iterator so_far ended =
    let none : into_iter_items iterator ≡ [] =
    nil_from_length (into_iter_items iterator) (let size = iterator.rest.ok.0 in omega arith) in
    sym (append-nil list.items) ∙ ap (λ (l : List A). list.items ++ map make l) (sym none) ∙ so_far.0
