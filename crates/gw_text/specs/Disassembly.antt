-- The text of a program, one line for each instruction: its label, a tab and the instruction.
use Rattle.std.specs.Prelude.{ℕ, ◌+◌, ◌^◌, ◌<◌, ◌≤◌, ◌==◌, if◌then◌else◌, false, List, [], ◌∷◌, ◌++◌, codes, decimal, unwrap_or}
use Rattle.std.specs.Prelude.{option_map}
use Rattle.std.specs.List.{flat_map, enumerate_from, find}
use Rattle.std.specs.Fmt.{digits}
use Rattle.gw_insn.specs.declared.insn.Raw.{Raw}
use Rattle.gw_text.specs.AssemblerForms.{ingress_port}

-- the fields that a text shows are of their types
pub record FieldsFit (raw : Raw) : Type 0 where
  pub jt : raw.jt ≤ 255
  pub jf : raw.jf ≤ 255
  pub k : raw.k < 2 ^ 32

-- what stands behind an instruction's word
pub data Operand : Type 0 where
  nothing : Operand
  fixed : List ℕ → Operand
  bracket : Operand
  bracket_x : Operand
  scratch : Operand
  number : Operand
  header_length : Operand
  target : Operand
  targets : List ℕ → Operand
  targets_number : Operand

pub record Text : Type 0 where
  pub code : ℕ
  pub word : List ℕ
  pub operand : Operand

abbrev pub text : ℕ → List ℕ → Operand → Text
text code word operand = record { code = code; word = word; operand = operand }

abbrev pub both : ℕ → List ℕ → List Text
both code word = text code word number ∷ text (code + 8) word (fixed (codes "x")) ∷ []

abbrev pub both_targets : ℕ → List ℕ → List Text
both_targets code word = text code word targets_number ∷ text (code + 8) word (targets (codes "x")) ∷ []

-- the 49 codes
abbrev pub texts : List Text
texts =
    text 0x20 (codes "ld") bracket ∷ text 0x28 (codes "ldh") bracket ∷ text 0x30 (codes "ldb") bracket
    ∷ text 0x40 (codes "ld") bracket_x ∷ text 0x48 (codes "ldh") bracket_x ∷ text 0x50 (codes "ldb") bracket_x
    ∷ text 0x80 (codes "ld") (fixed (codes "len")) ∷ text 0x81 (codes "ldx") (fixed (codes "len"))
    ∷ text 0x00 (codes "ld") number ∷ text 0x01 (codes "ldx") number ∷ text 0x60 (codes "ld") scratch
    ∷ text 0x61 (codes "ldx") scratch
    ∷ text 0x02 (codes "st") scratch ∷ text 0x03 (codes "stx") scratch ∷ text 0xb1 (codes "ldx") header_length
    ∷ (both 0x04 (codes "add") ++ both 0x14 (codes "sub") ++ both 0x24 (codes "mul") ++ both 0x34 (codes "div")
    ++ both 0x94 (codes "mod")
    ++ both 0x44 (codes "or") ++ both 0x54 (codes "and") ++ both 0xa4 (codes "xor") ++ both 0x64 (codes "lsh")
    ++ both 0x74 (codes "rsh"))
    ++ text 0x84 (codes "neg") nothing ∷ text 0x05 (codes "jmp") target
    ∷ (both_targets 0x15 (codes "jeq") ++ both_targets 0x25 (codes "jgt") ++ both_targets 0x35 (codes "jge")
    ++ both_targets 0x45 (codes "jset"))
    ++ text 0x06 (codes "ret") number ∷ text 0x16 (codes "ret") (fixed (codes "a")) ∷ text 0x07 (codes "tax") nothing
    ∷ text 0x87 (codes "txa") nothing ∷ []

abbrev pub label : ℕ → List ℕ
label place = codes "l" ++ decimal place

abbrev pub hexadecimal : ℕ → List ℕ
hexadecimal n = codes "#0x" ++ digits 16 false n

abbrev pub branches_at : ℕ → ℕ → ℕ → List ℕ
branches_at place jt jf = codes ", l" ++ (decimal (place + 1 + jt) ++ (codes ", l" ++ decimal (place + 1 + jf)))

abbrev pub branches : ℕ → Raw → List ℕ
branches place raw = branches_at place raw.jt raw.jf

abbrev pub operand_text : Operand → ℕ → Raw → List ℕ
operand_text nothing place raw = []
operand_text (fixed word) place raw = codes " " ++ word
operand_text bracket place raw = codes " [" ++ (decimal raw.k ++ codes "]")
operand_text bracket_x place raw = codes " [x + " ++ (decimal raw.k ++ codes "]")
operand_text scratch place raw = codes " M[" ++ (decimal raw.k ++ codes "]")
operand_text number place raw = codes " " ++ hexadecimal raw.k
operand_text header_length place raw = codes " 4*([" ++ (decimal raw.k ++ codes "]&0xf)")
operand_text target place raw = codes " " ++ label (place + 1 + raw.k)
operand_text (targets word) place raw = codes " " ++ (word ++ branches place raw)
operand_text targets_number place raw = codes " " ++ (hexadecimal raw.k ++ branches place raw)

-- a word load at the offset of the ingress port is `ld ifidx`
abbrev pub instruction_text : ℕ → Raw → List ℕ
instruction_text place raw =
    if raw.code == 0x20 then (if raw.k == ingress_port then codes "ld ifidx" else plain) else plain
  where
    plain : List ℕ
    plain = unwrap_or (option_map (λ t. t.word ++ operand_text t.operand place raw) (find (λ t. t.code == raw.code) texts)) []

-- the line of an instruction at its place
abbrev pub line_of : ℕ × Raw → List ℕ
line_of i = label i.0 ++ (codes ":\t" ++ (instruction_text i.0 i.1 ++ 10 ∷ []))

abbrev pub disassembly : List Raw → List ℕ
disassembly code = flat_map line_of (enumerate_from 0 code)
