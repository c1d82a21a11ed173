-- What is handed to the sinks of a run.
use Rattle.std.specs.Prelude.{◌≡◌, ℕ, ◌≤◌, List, [], ◌∷◌, ◌++◌, Vec, vec_capacity}
use Rattle.std.specs.declared.alloc.Global.{Global}
use Rattle.std.specs.Iterator.{Count, IsFinite, size}

-- a sink of this room takes so many items
abbrev pub HasRoomFor : Count → ℕ → Type 0
HasRoomFor room items = IsFinite room → items ≤ size room

-- a sink that is `old` was handed these items one after another, and is `new` then
abbrev pub Handed : {K A : Type 0} → (K → A → K → Type 0) → K → List A → K → Type 0
Handed takes old [] new = new ≡ old
Handed {K} takes old (item ∷ items) new = (next : K) × takes old item next × Handed takes next items new

-- the same of sinks and lists by port
abbrev pub AllHanded : {K A : Type 0} → (K → A → K → Type 0) → List K → List (List A) → List K → Type 0
AllHanded takes [] [] [] = Unit {0}
AllHanded takes (old ∷ olds) (items ∷ lists) (new ∷ news) = Handed takes old items new × AllHanded takes olds lists news
AllHanded takes _ _ _ = ⊥

-- the item stands behind those of the list, in the same room
abbrev pub Appends : {A : Type 0} → Vec A Global → A → Vec A Global → Type 0
Appends old item new = (new.items ≡ old.items ++ item ∷ []) × (vec_capacity new ≡ vec_capacity old)
