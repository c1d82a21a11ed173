-- The instructions that the assembler reads, as a table: a word, the spellings of its operands, and the code of each
-- (Linux, Documentation/networking/filter, section "BPF engine and instruction set", in the spellings of this project).
use Rattle.std.specs.Prelude.{ℕ, ◌+◌, ◌-◌, ◌^◌, Bool, true, false, ◌&&◌, nat_le, if◌then◌else◌, List, [], ◌∷◌, ◌++◌, map, codes}
use Rattle.std.specs.Prelude.{Option, Some, None, option_map, is_some}
use Rattle.std.specs.List.{find}
use Rattle.std.specs.Str.{bytes_eq}
use Rattle.std.specs.Option.{option_and_then}
use Rattle.gw_text.specs.declared.forms.Jump.{Jump}
use Rattle.gw_text.specs.declared.forms.Jump.TheVariants.{NoJump, Always, IfTrue, IfFalse, Either}
use Rattle.gw_text.specs.AssemblerTokens.{is_word, is_number, number_value}

-- one token of an operand: spelled so, a number, a number behind `-`, this number alone, or a label
pub data Piece : Type 0 where
  spelled : List ℕ → Piece
  number : Piece
  negated : Piece
  only : ℕ → Piece
  label : Piece

-- a spelling of operands, with the code that a word has there. k is the constant, unless a number is among the pieces.
pub record Form : Type 0 where
  pub pieces : List Piece
  pub code : ℕ
  pub jump : Jump
  pub constant : ℕ

-- a word with the forms of its operands
pub record Word : Type 0 where
  pub name : List ℕ
  pub forms : List Form

-- the spellings of each kind of operand
abbrev pub mark : List ℕ → List Piece
mark text = map (λ c. spelled (c ∷ [])) text

abbrev pub immediate : List (List Piece)
immediate = (mark (codes "#") ++ number ∷ []) ∷ (mark (codes "#-") ++ negated ∷ []) ∷ []

abbrev pub register : List ℕ → List (List Piece)
register name = (spelled name ∷ []) ∷ (spelled (codes "%") ∷ spelled name ∷ []) ∷ []

abbrev pub absolute : List (List Piece)
absolute = (mark (codes "[") ++ number ∷ mark (codes "]")) ∷ []

abbrev pub indexed : List (List Piece)
indexed = map (λ x. mark (codes "[") ++ (x ++ (mark (codes "+") ++ number ∷ mark (codes "]")))) (register (codes "x"))

abbrev pub scratch : List (List Piece)
scratch = (mark (codes "M[") ++ number ∷ mark (codes "]")) ∷ []

abbrev pub hash_or_not : List ℕ → List (List Piece)
hash_or_not name = (spelled name ∷ []) ∷ (spelled (codes "#") ∷ spelled name ∷ []) ∷ []

abbrev pub nibble : List (List Piece)
nibble = (only 4 ∷ mark (codes "*([") ++ (number ∷ (mark (codes "]&") ++ (only 15 ∷ mark (codes ")"))))) ∷ []

abbrev pub bare_number : List (List Piece)
bare_number = (number ∷ []) ∷ []

abbrev pub nothing : List (List Piece)
nothing = [] ∷ []

abbrev pub comma_label : List Piece
comma_label = spelled (codes ",") ∷ label ∷ []

abbrev pub before : List (List Piece) → List Piece → List (List Piece)
before operands rest = map (λ pieces. pieces ++ rest) operands

-- the forms of some spellings
abbrev pub forms_with : ℕ → ℕ → Jump → List (List Piece) → List Form
forms_with constant code jump operands = map (λ pieces. record { pieces = pieces; code = code; jump = jump; constant = constant })
    operands

abbrev pub jumping : ℕ → Jump → List (List Piece) → List Form
jumping = forms_with 0

abbrev pub plain : ℕ → List (List Piece) → List Form
plain code operands = jumping code NoJump operands

-- `#k` with the code, and `x` with the code that names the index register (BPF_X, 8)
abbrev pub number_or_x : ℕ → List Form
number_or_x code = plain code immediate ++ plain (code + 8) (register (codes "x"))

abbrev pub compared : ℕ → Jump → List Piece → List Form
compared code jump labels = jumping code jump (before immediate labels)
    ++ jumping (code + 8) jump (before (register (codes "x")) labels)

-- `, L, L`, or one label with the other branch falling through
abbrev pub branch : ℕ → List Form
branch code = compared code Either (comma_label ++ comma_label) ++ compared code IfTrue comma_label

-- the comparison turned round: the label is that of the branch where it fails
abbrev pub branch_unless : ℕ → List Form
branch_unless code = compared code IfFalse comma_label

-- the offset that Linux gives the interface number (SKF_AD_OFF + SKF_AD_IFINDEX): here the ingress port
abbrev pub ingress_port : ℕ
ingress_port = 0xfffff008

abbrev pub word : List ℕ → List Form → Word
word name forms = record { name = name; forms = forms }

abbrev pub loads : List Word
loads =
    word (codes "ld")
    (plain 0x20 absolute ++ plain 0x40 indexed ++ plain 0x60 scratch ++ plain 0x00 immediate
    ++ plain 0x80 (hash_or_not (codes "len"))
    ++ forms_with ingress_port 0x20 NoJump (hash_or_not (codes "ifidx")))
    ∷ word (codes "ldi") (plain 0x00 (immediate ++ bare_number))
    ∷ word (codes "ldh") (plain 0x28 absolute ++ plain 0x48 indexed)
    ∷ word (codes "ldb") (plain 0x30 absolute ++ plain 0x50 indexed)
    ∷ word (codes "ldx") (plain 0x61 scratch ++ plain 0x01 immediate ++ plain 0x81 (hash_or_not (codes "len"))
    ++ plain 0xb1 nibble)
    ∷ word (codes "ldxi") (plain 0x01 (immediate ++ bare_number))
    ∷ word (codes "ldxb") (plain 0xb1 nibble)
    ∷ word (codes "st") (plain 0x02 scratch)
    ∷ word (codes "stx") (plain 0x03 scratch)
    ∷ []

abbrev pub jumps : List Word
jumps =
    word (codes "jmp") (jumping 0x05 Always ((label ∷ []) ∷ []))
    ∷ word (codes "ja") (jumping 0x05 Always ((label ∷ []) ∷ []))
    ∷ word (codes "jeq") (branch 0x15)
    ∷ word (codes "jgt") (branch 0x25)
    ∷ word (codes "jge") (branch 0x35)
    ∷ word (codes "jset") (branch 0x45)
    ∷ word (codes "jneq") (branch_unless 0x15)
    ∷ word (codes "jne") (branch_unless 0x15)
    ∷ word (codes "jlt") (branch_unless 0x35)
    ∷ word (codes "jle") (branch_unless 0x25)
    ∷ []

abbrev pub arithmetic : List Word
arithmetic =
    word (codes "add") (number_or_x 0x04)
    ∷ word (codes "sub") (number_or_x 0x14)
    ∷ word (codes "mul") (number_or_x 0x24)
    ∷ word (codes "div") (number_or_x 0x34)
    ∷ word (codes "mod") (number_or_x 0x94)
    ∷ word (codes "or") (number_or_x 0x44)
    ∷ word (codes "and") (number_or_x 0x54)
    ∷ word (codes "xor") (number_or_x 0xa4)
    ∷ word (codes "lsh") (number_or_x 0x64)
    ∷ word (codes "rsh") (number_or_x 0x74)
    ∷ []

abbrev pub others : List Word
others =
    word (codes "neg") (plain 0x84 nothing)
    ∷ word (codes "tax") (plain 0x07 nothing)
    ∷ word (codes "txa") (plain 0x87 nothing)
    ∷ word (codes "ret") (plain 0x06 immediate ++ plain 0x16 (register (codes "a")))
    ∷ []

-- the whole table
abbrev pub words : List Word
words = loads ++ (jumps ++ (arithmetic ++ others))

abbrev pub same_text : List ℕ → List ℕ → Bool
same_text = bytes_eq

abbrev pub is_named : List ℕ → Word → Bool
is_named token w = same_text w.name token

-- the forms of the word that a token spells
abbrev pub forms_among : List Word → List ℕ → Option (List Form)
forms_among ws token = option_map (λ w. w.forms) (find (is_named token) ws)

abbrev pub forms_of : List ℕ → Option (List Form)
forms_of token = forms_among words token

abbrev pub is_known_word : List ℕ → Bool
is_known_word token = is_some (forms_of token)

abbrev pub fits_piece : Piece → List ℕ → Bool
fits_piece (spelled text) token = same_text text token
fits_piece number token = is_number token
fits_piece negated token = is_number token
fits_piece (only n) token = is_number token
fits_piece label token = is_word token

abbrev pub fits : List Piece → List (List ℕ) → Bool
fits [] [] = true
fits (p ∷ ps) (t ∷ ts) = fits_piece p t && fits ps ts
fits [] (t ∷ ts) = false
fits (p ∷ ps) [] = false

-- the form that operands are spelled in (no operands fit two forms of a word)
abbrev pub form_among : List Form → List (List ℕ) → Option Form
form_among forms operands = find (λ form. fits form.pieces operands) forms

abbrev pub form_of : List ℕ → List (List ℕ) → Option Form
form_of token operands = option_and_then (λ forms. form_among forms operands) (forms_of token)

abbrev pub within : ℕ → ℕ → ℕ → Option ℕ
within low high n = if nat_le low n && nat_le n high then Some n else None

-- the field k as far as one piece tells: it stays, or it is the number there, and None is a number that is malformed or out of
-- range
abbrev pub k_at : Piece → List ℕ → ℕ → Option ℕ
k_at (spelled text) token k = Some k
k_at label token k = Some k
k_at number token k = option_and_then (within 0 0xffffffff) (number_value token)
k_at negated token k = option_map (λ n. 2 ^ 32 - n) (option_and_then (within 1 0x80000000) (number_value token))
k_at (only n) token k = option_map (λ m. k) (option_and_then (within n n) (number_value token))

-- the field k of operands
abbrev pub k_of : List Piece → List (List ℕ) → ℕ → Option ℕ
k_of (p ∷ ps) (t ∷ ts) k = option_and_then (k_of ps ts) (k_at p t k)
k_of _ _ k = Some k

-- the labels among operands
abbrev pub label_at : Piece → List ℕ → List (List ℕ)
label_at label token = token ∷ []
label_at _ token = []

abbrev pub labels_at : List Piece → List (List ℕ) → List (List ℕ)
labels_at (p ∷ ps) (t ∷ ts) = label_at p t ++ labels_at ps ts
labels_at _ _ = []
