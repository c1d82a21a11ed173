-- Listings: a count and as many instructions in decimal digits (the text that Linux's bpf_asm writes, read strictly).
use Rattle.std.specs.Prelude.{ℕ, ◌≡◌, ◌+◌, ◌-◌, ◌*◌, ◌<◌, ◌≤◌, ◌⊎◌, ◌==◌, Bool, IsTrue, List, [], ◌∷◌, ◌++◌, length, fold, All}
use Rattle.std.specs.Char.{IsAsciiDigit}
use Rattle.gw_insn.specs.declared.insn.Raw.{Raw}
use Rattle.gw_insn.specs.declared.reading.ListRefusal.{ListRefusal}
use Rattle.gw_insn.specs.declared.reading.ListRefusal.TheVariants.{BadCount, BadField, Trailing, OutOfMemory}

abbrev pub comma : ℕ
comma = 44

abbrev pub space : ℕ
space = 32

-- space, tab, line feed, carriage return
abbrev pub IsWhite : ℕ → Type 0
IsWhite c = (c ≡ 32) ⊎ (c ≡ 9) ⊎ (c ≡ 10) ⊎ (c ≡ 13)

abbrev pub decimal : List ℕ → ℕ
decimal digits = fold (λ n d. 10 * n + (d - 48)) 0 digits

-- one to ten digits, and their value up to a greatest one
pub record IsNumber (most : ℕ) (digits : List ℕ) (n : ℕ) : Type 0 where
  pub some : 0 < length digits
  pub few : length digits ≤ 10
  pub ascii : All IsAsciiDigit digits
  pub value : decimal digits ≡ n
  pub fits : n ≤ most

abbrev pub StartsWithDigit : List ℕ → Type 0
StartsWithDigit [] = ⊥
StartsWithDigit (c ∷ cs) = IsAsciiDigit c

abbrev pub StartsWithComma : List ℕ → Type 0
StartsWithComma [] = ⊥
StartsWithComma (c ∷ cs) = c ≡ comma

-- the text begins with a number, which no digit follows, and the rest stands after it
pub record HasNumber (most : ℕ) (text : List ℕ) (n : ℕ) (rest : List ℕ) : Type 0 where
  pub digits : List ℕ
  pub number : IsNumber most digits n
  pub spelled : text ≡ digits ++ rest
  pub ends : StartsWithDigit rest → ⊥

-- code, jt, jf and k, with one space between two of them
pub record HasInstruction (text : List ℕ) (r : Raw) (rest : List ℕ) : Type 0 where
  pub after_code : List ℕ
  pub after_jt : List ℕ
  pub after_jf : List ℕ
  pub code : HasNumber 65535 text r.code (space ∷ after_code)
  pub jt : HasNumber 255 after_code r.jt (space ∷ after_jt)
  pub jf : HasNumber 255 after_jt r.jf (space ∷ after_jf)
  pub k : HasNumber 4294967295 after_jf r.k rest

-- the comma after an instruction, which only the last may lack
abbrev pub HasComma : Bool → List ℕ → List ℕ → Type 0
HasComma is_last text rest = (text ≡ comma ∷ rest) ⊎ (IsTrue is_last × (text ≡ rest) × (StartsWithComma text → ⊥))

-- an instruction and its comma
pub record HasItem (is_last : Bool) (text : List ℕ) (r : Raw) (rest : List ℕ) : Type 0 where
  pub end : List ℕ
  pub instruction : HasInstruction text r end
  pub closed : HasComma is_last end rest

-- the text begins with the first of n instructions
abbrev pub HasItems : ℕ → List ℕ → List Raw → List ℕ → Type 0
HasItems n text [] rest = text ≡ rest
HasItems n text (r ∷ rs) rest = (next : List ℕ) × HasItem (n == 1) text r next × HasItems (n - 1) next rs rest

-- a count and the comma after it
abbrev pub HasCount : List ℕ → ℕ → List ℕ → Type 0
HasCount text n rest = HasNumber 65535 text n (comma ∷ rest)

-- a count, as many instructions, and white space
pub record IsListing (text : List ℕ) (code : List Raw) : Type 0 where
  pub body : List ℕ
  pub after : List ℕ
  pub count : HasCount text (length code) body
  pub items : HasItems (length code) body code after
  pub blank : All IsWhite after

-- the first instruction that is not there, counted from 0
pub record LacksItem (text : List ℕ) (index : ℕ) : Type 0 where
  pub n : ℕ
  pub body : List ℕ
  pub code : List Raw
  pub after : List ℕ
  pub count : HasCount text n body
  pub inside : index < n
  pub before : length code ≡ index
  pub items : HasItems n body code after
  pub absent : (r : Raw) (rest : List ℕ) → HasItem (n == index + 1) after r rest → ⊥

-- all the instructions are there, and something other than white space follows
pub record HasMore (text : List ℕ) : Type 0 where
  pub body : List ℕ
  pub code : List Raw
  pub after : List ℕ
  pub count : HasCount text (length code) body
  pub items : HasItems (length code) body code after
  pub more : All IsWhite after → ⊥

-- which refusal comes
abbrev pub IsListRefusal : List ℕ → ListRefusal → Type 0
IsListRefusal text BadCount = (n : ℕ) (rest : List ℕ) → HasCount text n rest → ⊥
IsListRefusal text (BadField index) = LacksItem text index
IsListRefusal text Trailing = HasMore text
IsListRefusal text OutOfMemory = (code : List Raw) × IsListing text code

-- the number by which a refusal is told
abbrev pub refusal_number : ListRefusal → ℕ
refusal_number BadCount = 10
refusal_number (BadField index) = 11
refusal_number Trailing = 12
refusal_number OutOfMemory = 13
