-- The checks of a program (this project's profile of Linux's bpf_check_classic and check_load_and_stores,
-- net/core/filter.c), and which refusal comes first.
use Rattle.std.specs.Prelude.{ℕ, ◌≡◌, ◌≢◌, ◌+◌, ◌<◌, ◌≤◌, ◌⊎◌, List, [], ◌∷◌, ◌++◌, length, Some, None, slice_get}
use Rattle.gw_insn.specs.declared.insn.Raw.{Raw}
use Rattle.gw_insn.specs.Form.{Form, Load, LoadScratch, Store, Alu, Jump, Branch, ReturnConstant, ReturnA, Word, Constant, Div}
use Rattle.gw_insn.specs.Form.{Mod, Lsh, Rsh}
use Rattle.gw_verify.specs.declared.cause.Cause.{Cause}
use Rattle.gw_verify.specs.declared.cause.Cause.TheVariants.{Empty, TooLong, UnknownCode, DivideByZero, ShiftTooFar, NoSuchWord}
use Rattle.gw_verify.specs.declared.cause.Cause.TheVariants.{JumpOut, Ancillary, NoReturnAtEnd, UnsetWord, OutOfMemory}
use Rattle.gw_verify.specs.Cause.{rank}
use Rattle.gw_verify.specs.Flow.{Forms, HasAt, Loads, IsBare}

-- a division by a constant 0
abbrev pub DividesByZero : Form → Type 0
DividesByZero (Alu Div (Constant k)) = k ≡ 0
DividesByZero (Alu Mod (Constant k)) = k ≡ 0
DividesByZero _ = ⊥

-- a shift by a constant of 32 or more
abbrev pub ShiftsTooFar : Form → Type 0
ShiftsTooFar (Alu Lsh (Constant k)) = 32 ≤ k
ShiftsTooFar (Alu Rsh (Constant k)) = 32 ≤ k
ShiftsTooFar _ = ⊥

-- the number of no scratch word: there are 16 (BPF_MEMWORDS)
abbrev pub NamesNoWord : Form → Type 0
NamesNoWord (LoadScratch register k) = 16 ≤ k
NamesNoWord (Store register k) = 16 ≤ k
NamesNoWord _ = ⊥

-- a jump from place i out of a code of this length
abbrev pub JumpsOut : ℕ → ℕ → Form → Type 0
JumpsOut len i (Jump k) = len ≤ i + 1 + k
JumpsOut len i (Branch comparison operand jt jf) = (len ≤ i + 1 + jt) ⊎ (len ≤ i + 1 + jf)
JumpsOut len i _ = ⊥

-- an absolute load at one of the kernel's negative offsets, those from SKF_AD_OFF (-0x1000) on, except a word load
-- of the interface number, at SKF_AD_OFF + SKF_AD_IFINDEX (8)
abbrev pub IsAncillary : Form → Type 0
IsAncillary (Load Word k) = (0xfffff000 ≤ k) × (k ≢ 0xfffff008)
IsAncillary (Load _ k) = 0xfffff000 ≤ k
IsAncillary _ = ⊥

-- any instruction but a return
abbrev pub IsNoReturn : Form → Type 0
IsNoReturn (ReturnConstant k) = ⊥
IsNoReturn ReturnA = ⊥
IsNoReturn _ = Unit {0}

-- the known instruction at place i has the property
pub record At (forms : Forms) (i : ℕ) (P : Form → Type 0) : Type 0 where
  pub insn : Form
  pub here : HasAt forms i insn
  pub holds : P insn

-- what each cause says is wrong at place i; code has at most 4096 instructions (BPF_MAXINSNS)
abbrev pub IsFault : Forms → Cause → ℕ → Type 0
IsFault forms Empty i = (forms ≡ []) × (i ≡ 0)
IsFault forms TooLong i = (4096 < length forms) × (i ≡ 4096)
IsFault forms UnknownCode i = slice_get forms i ≡ Some None
IsFault forms DivideByZero i = At forms i DividesByZero
IsFault forms ShiftTooFar i = At forms i ShiftsTooFar
IsFault forms NoSuchWord i = At forms i NamesNoWord
IsFault forms JumpOut i = At forms i (JumpsOut (length forms) i)
IsFault forms Ancillary i = At forms i IsAncillary
IsFault forms NoReturnAtEnd i = (i + 1 ≡ length forms) × At forms i IsNoReturn
IsFault forms (UnsetWord word) i = At forms i (λ insn. Loads insn word) × IsBare forms i word
IsFault forms OutOfMemory i = ⊥

-- accepted code: no fault at any place
abbrev pub IsAccepted : Forms → Type 0
IsAccepted forms = (cause : Cause) (i : ℕ) → IsFault forms cause i → ⊥

-- a fault before which no other comes: none of a lower rank, and none of its rank at an earlier place
pub record IsFirstFault (forms : Forms) (cause : Cause) (i : ℕ) : Type 0 where
  pub fault : IsFault forms cause i
  pub rank_least : (other : Cause) (j : ℕ) → IsFault forms other j → rank cause ≤ rank other
  pub place_least : (other : Cause) (j : ℕ) → IsFault forms other j → rank other ≡ rank cause → i ≤ j

-- what a refusal says of the code: its first fault, or that it is accepted and memory ran out
abbrev pub IsRefusal : Forms → Cause → ℕ → Type 0
IsRefusal forms OutOfMemory i = IsAccepted forms × (i ≡ 0)
IsRefusal forms cause i = IsFirstFault forms cause i

-- what a refusal for an unset word says besides: it is one of the 16 words, and the code is not too long
abbrev pub IsExplainable : Cause → List Raw → Type 0
IsExplainable (UnsetWord word) code = (word < 16) × (length code ≤ 4096)
IsExplainable _ code = Unit {0}

-- the last of the places loads the word
pub record EndsAtLoad (forms : Forms) (places : List ℕ) (word : ℕ) : Type 0 where
  pub earlier : List ℕ
  pub last : ℕ
  pub ends : places ≡ earlier ++ last ∷ []
  pub load : At forms last (λ insn. Loads insn word)
