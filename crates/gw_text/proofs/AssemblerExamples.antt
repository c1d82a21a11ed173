use Rattle.std.proofs.Common.{◌≡◌, ℕ, List, [], ◌∷◌, ◌++◌, codes, Some, None, refl, replicate, length}
use Rattle.std.specs.List.{flat_map}
use Rattle.gw_insn.specs.declared.insn.Raw.{Raw}
use Rattle.gw_text.specs.declared.refusal.AsmRefusal.TheVariants.{BadToken, UnknownWord, BadOperand, BadNumber, LabelTwice}
use Rattle.gw_text.specs.declared.refusal.AsmRefusal.TheVariants.{NoSuchLabel, Backward, TooFar}
use Rattle.gw_text.specs.AssemblerForms.{words}
use Rattle.gw_text.specs.Assembly.{first_refusal, Assembles}

abbrev lines : List (List ℕ) → List ℕ
lines ls = flat_map (λ l. l ++ 10 ∷ []) ls

abbrev insn : ℕ → ℕ → ℕ → ℕ → Raw
insn code jt jf k = record { code = code; jt = jt; jf = jf; k = k }

row1 : Assembles (lines (codes "ldh [12]" ∷ codes "jne #0x806, drop" ∷ codes "ret #-1" ∷ codes "drop: ret #0" ∷ []))
    (insn 40 0 0 12 ∷ insn 21 0 1 2054 ∷ insn 6 0 0 4294967295 ∷ insn 6 0 0 0 ∷ [])
row1 = record { faultless = refl; means = refl }

row5 : Assembles (lines (codes "jeq #0, L1, L2" ∷ codes "L1: st M[3]" ∷ codes "L2: ld M[3]" ∷ codes "ret a" ∷ []))
    (insn 21 0 1 0 ∷ insn 2 0 0 3 ∷ insn 96 0 0 3 ∷ insn 22 0 0 0 ∷ [])
row5 = record { faultless = refl; means = refl }

row6 : Assembles (lines (codes "ja L" ∷ codes "ld M[3]" ∷ codes "L: ret #1" ∷ []))
    (insn 5 0 0 1 ∷ insn 96 0 0 3 ∷ insn 6 0 0 1 ∷ [])
row6 = record { faultless = refl; means = refl }

a0 : Assembles [] []
a0 = record { faultless = refl; means = refl }

a1 : first_refusal (codes "ld $") ≡ Some (BadToken 1)
a1 = refl

a2 : first_refusal (codes "foo #1") ≡ Some (UnknownWord 1)
a2 = refl

a3 : first_refusal (codes "ret x") ≡ Some (BadOperand 1)
a3 = refl

a4 : first_refusal (codes "ld #08") ≡ Some (BadNumber 1)
a4 = refl

a5 : first_refusal (codes "ld #4294967296") ≡ Some (BadNumber 1)
a5 = refl

a6 : first_refusal (codes "ld #-0") ≡ Some (BadNumber 1)
a6 = refl

a7 : first_refusal (lines (codes "a: ret #0" ∷ codes "a: ret #1" ∷ [])) ≡ Some (LabelTwice 2)
a7 = refl

a8 : first_refusal (lines (codes "jmp Z" ∷ codes "ret #0" ∷ [])) ≡ Some (NoSuchLabel 1)
a8 = refl

a9 : first_refusal (codes "b: jmp b") ≡ Some (Backward 1)
a9 = refl

a10 : Assembles (codes "ldx 4*([14]&0xf)\nret %a ; end") (insn 177 0 0 14 ∷ insn 22 0 0 0 ∷ [])
a10 = record { faultless = refl; means = refl }

a11 : Assembles (codes "ldi 010\n/* two\nlines */ ret #0b11") (insn 0 0 0 8 ∷ insn 6 0 0 3 ∷ [])
a11 = record { faultless = refl; means = refl }

a12 : Assembles (codes "jlt x, L\nret #0\nL: ret #1") (insn 61 0 1 0 ∷ insn 6 0 0 0 ∷ insn 6 0 0 1 ∷ [])
a12 = record { faultless = refl; means = refl }

a13 : Assembles (codes "ld #ifidx\nret a") (insn 32 0 0 4294963208 ∷ insn 22 0 0 0 ∷ [])
a13 = record { faultless = refl; means = refl }

a14 : first_refusal (codes "ret #0\n/* open") ≡ Some (BadToken 2)
a14 = refl

a15 : first_refusal (codes "ld #0\na: ret #0\nb: jmp b\na: ret #1\nld #09") ≡ Some (BadNumber 5)
a15 = refl

-- each spelling of an instruction is a form
how_many : length (flat_map (λ w. w.forms) words) ≡ 128
how_many = refl

far : ℕ → List ℕ
far n = lines ((codes "jeq #0, far" ∷ replicate n (codes "ld #0")) ++ codes "far: ret #0" ∷ [])

b1 : first_refusal (far 256) ≡ Some (TooFar 1)
unfolding far
b1 = refl

b2 : first_refusal (far 255) ≡ None
unfolding far
b2 = refl
