-- Which instructions of a program may follow which, and the paths through it (Linux, net/core/filter.c: jumps
-- go forward by at least one place, and both ways of a conditional jump count).
use Rattle.std.specs.Prelude.{ℕ, ◌≡◌, ◌+◌, ◌<◌, ◌⊎◌, List, [], ◌∷◌, ◌++◌, All, map, length, Option, Some, slice_get}
use Rattle.gw_insn.specs.declared.insn.Raw.{Raw}
use Rattle.gw_insn.specs.Form.{Form, LoadScratch, Store, Jump, Branch, ReturnConstant, ReturnA, form}
use Rattle.gw_insn.specs.declared.insn.Insn.{Insn}
use Rattle.gw_insn.specs.Table.{form_of}

-- decoded code: at each place its instruction, or None where the code is unknown
abbrev pub Forms : Type 0
Forms = List (Option Form)

abbrev pub forms_of : List Raw → Forms
forms_of code = map form_of code

-- a program's instructions as decoded code
abbrev pub program_forms : List Insn → Forms
program_forms code = map (λ insn. Some (form insn)) code

-- the known instruction at a place
abbrev pub HasAt : Forms → ℕ → Form → Type 0
HasAt forms i insn = slice_get forms i ≡ Some (Some insn)

-- what an instruction at place i may go on to
abbrev pub LeadsTo : Form → ℕ → ℕ → Type 0
LeadsTo (ReturnConstant k) i j = ⊥
LeadsTo ReturnA i j = ⊥
LeadsTo (Jump k) i j = j ≡ i + 1 + k
LeadsTo (Branch comparison operand jt jf) i j = (j ≡ i + 1 + jt) ⊎ (j ≡ i + 1 + jf)
LeadsTo _ i j = j ≡ i + 1

-- place j may follow place i: no place follows a return or an unknown code, and none is outside the code
pub record IsNext (forms : Forms) (i j : ℕ) : Type 0 where
  pub insn : Form
  pub here : HasAt forms i insn
  pub leads : LeadsTo insn i j
  pub inside : j < length forms

-- from place i through the places of the list, each of which may follow the one before it
abbrev pub Walks : Forms → ℕ → List ℕ → Type 0
Walks forms i [] = Unit {0}
Walks forms i (j ∷ js) = IsNext forms i j × Walks forms j js

-- a nonempty list of places of the code that begins with 0, and in which each may follow the one before it
abbrev pub IsPath : Forms → List ℕ → Type 0
IsPath forms [] = ⊥
IsPath forms (i ∷ is) = (i ≡ 0) × (0 < length forms) × Walks forms i is

-- the scratch word that an instruction stores
abbrev pub Stores : Form → ℕ → Type 0
Stores (Store register k) word = k ≡ word
Stores _ word = ⊥

-- the scratch word that an instruction loads
abbrev pub Loads : Form → ℕ → Type 0
Loads (LoadScratch register k) word = k ≡ word
Loads _ word = ⊥

-- the known instruction at place i stores the word
pub record StoresAt (forms : Forms) (i word : ℕ) : Type 0 where
  pub insn : Form
  pub here : HasAt forms i insn
  pub stores : Stores insn word

-- place j may follow place i, which does not store the word
pub record PassesBy (forms : Forms) (word i j : ℕ) : Type 0 where
  pub next : IsNext forms i j
  pub unset : ¬ StoresAt forms i word

-- the places are a path that ends at `last`, and none of them before it stores the word
pub record IsBarePathTo (forms : Forms) (places : List ℕ) (last word : ℕ) : Type 0 where
  pub earlier : List ℕ
  pub ends : places ≡ earlier ++ last ∷ []
  pub path : IsPath forms places
  pub unset : All (λ i. ¬ StoresAt forms i word) earlier

-- the places are such a path, wherever it ends
pub record IsBarePath (forms : Forms) (places : List ℕ) (word : ℕ) : Type 0 where
  pub last : ℕ
  pub to : IsBarePathTo forms places last word

-- the place is bare of the word: there is such a path to it
pub record IsBare (forms : Forms) (i word : ℕ) : Type 0 where
  pub places : List ℕ
  pub to : IsBarePathTo forms places i word
