-- Each of the 49 instructions reads back from its line, and a program from its text.
use Rattle.std.proofs.Common.{◌≡◌, ℕ, suc, zero, ◌+◌, ◌^◌, ◌<◌, ◌≤◌, ◌==◌, Bool, true, false, List, [], ◌∷◌, ◌++◌, map, flat_map}
use Rattle.std.proofs.Common.{length, codes, Some, get_or, ⊎_elim, refl, sym, ap, ◌∙◌, arith}
use Rattle.std.proofs.Common.{subst, append_assoc}
use Rattle.std.specs.List.{enumerate_from, list_all}
use Rattle.std.specs.Fmt.{decimal}
use Rattle.std.proofs.lemmas.Bool.{cases_lt}
use Rattle.std.proofs.lemmas.Bool.Decides.{nat_tests}
use Rattle.gw_insn.specs.declared.insn.Insn.{Insn}
use Rattle.gw_insn.specs.declared.insn.Insn.TheVariants.{LoadWord, LoadHalf, LoadByte, LoadWordIndexed, LoadHalfIndexed}
use Rattle.gw_insn.specs.declared.insn.Insn.TheVariants.{LoadByteIndexed, LoadLengthA, LoadLengthX, LoadConstantA, LoadConstantX}
use Rattle.gw_insn.specs.declared.insn.Insn.TheVariants.{LoadScratchA, LoadScratchX, StoreA, StoreX, LoadNibble, AddConstant}
use Rattle.gw_insn.specs.declared.insn.Insn.TheVariants.{AddIndex, SubConstant, SubIndex, MulConstant, MulIndex, DivConstant}
use Rattle.gw_insn.specs.declared.insn.Insn.TheVariants.{DivIndex, ModConstant, ModIndex, OrConstant, OrIndex, AndConstant}
use Rattle.gw_insn.specs.declared.insn.Insn.TheVariants.{AndIndex, XorConstant, XorIndex, LshConstant, LshIndex, RshConstant}
use Rattle.gw_insn.specs.declared.insn.Insn.TheVariants.{RshIndex, Negate, Jump, JumpEqualConstant, JumpEqualIndex}
use Rattle.gw_insn.specs.declared.insn.Insn.TheVariants.{JumpGreaterConstant, JumpGreaterIndex, JumpAtLeastConstant}
use Rattle.gw_insn.specs.declared.insn.Insn.TheVariants.{JumpAtLeastIndex, JumpSharesBitConstant, JumpSharesBitIndex}
use Rattle.gw_insn.specs.declared.insn.Insn.TheVariants.{ReturnConstant, ReturnA, Tax, Txa}
use Rattle.gw_insn.specs.Form.{Form as Instruction, form}
use Rattle.gw_insn.specs.Table.{raw_of, fields}
use Rattle.gw_verify.specs.Flow.{program_forms, HasAt}
use Rattle.gw_verify.specs.Orderly.{IsOrderly, StaysBelow}
use Rattle.gw_text.specs.declared.forms.Jump.TheVariants.{NoJump}
use Rattle.gw_text.specs.AssemblerTokens.{is_digit, is_name_character, lines_of, tokens_of}
use Rattle.gw_text.specs.AssemblerForms.{form_of, number, only, spelled, mark, ingress_port}
use Rattle.gw_text.specs.Assembly.{Written, Assembles}
use Rattle.gw_text.specs.Disassembly.{FieldsFit, label, line_of, disassembly, instruction_text}
use Rattle.gw_text.proofs.TokenLemmas.{tokens-mark}
use Rattle.gw_text.proofs.PlainLines.{lines_before}
use Rattle.gw_text.proofs.RoundTrip.{AllRead, assembles_back}
use Rattle.gw_text.proofs.InstructionReads.{ReadsAlone, line_text, no_colon, reads_line}
use Rattle.gw_text.proofs.KindsRead.{plain_form, reads_fixed, reads_number, reads_decimal, reads_branch}
use Rattle.gw_text.proofs.KindsRead.{reads_branch_x, reads_jump}

-- some words, operands and an instruction as written to which a line reads back
pub record ReadsSome (n s : ℕ) (insn : Insn) : Type 0 where
  pub word : List ℕ
  pub operands : List (List ℕ)
  pub w : Written
  pub reads : ReadsAlone n s insn word operands w

some : {n s : ℕ} {insn : Insn} {word : List ℕ} {operands : List (List ℕ)} {w : Written} → ReadsAlone n s insn word operands w
    → ReadsSome n s insn
some r = record { word = _; operands = _; w = _; reads = r }

-- `[k]`
absolute : (n s k : ℕ) (i : Insn) (c : ℕ) (cs : List ℕ) (code : ℕ) → s < 2 ^ 32 → k < 2 ^ 32 → fields code 0 0 k ≡ raw_of i
    → instruction_text s (raw_of i) ≡ (c ∷ cs) ++ (32 ∷ 91 ∷ (decimal k ++ codes "]")) → list_all is_name_character (c ∷ cs)
    ≡ true
    → ((d : ℕ) (ds : List ℕ) → is_digit d ≡ true → form_of (c ∷ cs) (codes "[" ∷ (d ∷ ds) ∷ codes "]" ∷ [])
    ≡ Some (plain_form code (mark (codes "[") ++ number ∷ mark (codes "]"))))
    → ReadsSome n s i
absolute n s k i c cs code small fits raw text names form =
    some (reads_decimal n s k i c cs code (codes "[") (codes "]") (codes "[" ∷ []) (codes "]" ∷ []) (mark (codes "[") ++ number
    ∷ mark (codes "]")) small fits raw text names refl refl
    (λ rest. tokens-mark 91 rest refl refl) refl refl (λ t. no_colon (c ∷ cs) (codes "[") refl) form (λ t h. rw h) (λ t. refl))

-- `[x + k]`
indexed : (n s k : ℕ) (i : Insn) (c : ℕ) (cs : List ℕ) (code : ℕ) → s < 2 ^ 32 → k < 2 ^ 32 → fields code 0 0 k ≡ raw_of i
    → instruction_text s (raw_of i) ≡ (c ∷ cs) ++ (32 ∷ (codes "[x + " ++ (decimal k ++ codes "]")))
    → list_all is_name_character (c ∷ cs) ≡ true
    → ((d : ℕ) (ds : List ℕ) → is_digit d ≡ true
    → form_of (c ∷ cs) (codes "[" ∷ codes "x" ∷ codes "+" ∷ (d ∷ ds) ∷ codes "]" ∷ [])
    ≡ Some (plain_form code (mark (codes "[x+") ++ number ∷ mark (codes "]"))))
    → ReadsSome n s i
indexed n s k i c cs code small fits raw text names form =
    some (reads_decimal n s k i c cs code (codes "[x + ") (codes "]") (codes "[" ∷ codes "x" ∷ codes "+" ∷ []) (codes "]" ∷ [])
    (mark (codes "[x+") ++ number ∷ mark (codes "]"))
    small fits raw text names refl refl (λ rest. refl) refl refl (λ t. no_colon (c ∷ cs) (codes "[") refl) form (λ t h. rw h)
    (λ t. refl))

-- `M[k]`
scratch : (n s k : ℕ) (i : Insn) (c : ℕ) (cs : List ℕ) (code : ℕ) → s < 2 ^ 32 → k < 2 ^ 32 → fields code 0 0 k ≡ raw_of i
    → instruction_text s (raw_of i) ≡ (c ∷ cs) ++ (32 ∷ (codes "M[" ++ (decimal k ++ codes "]")))
    → list_all is_name_character (c ∷ cs) ≡ true
    → ((d : ℕ) (ds : List ℕ) → is_digit d ≡ true → form_of (c ∷ cs) (codes "M" ∷ codes "[" ∷ (d ∷ ds) ∷ codes "]" ∷ [])
    ≡ Some (plain_form code (mark (codes "M[") ++ number ∷ mark (codes "]"))))
    → ReadsSome n s i
scratch n s k i c cs code small fits raw text names form =
    some (reads_decimal n s k i c cs code (codes "M[") (codes "]") (codes "M" ∷ codes "[" ∷ []) (codes "]" ∷ [])
    (mark (codes "M[") ++ number ∷ mark (codes "]"))
    small fits raw text names refl refl (λ rest. ap (λ ts. codes "M" ∷ ts) (tokens-mark 91 rest refl refl)) refl refl
    (λ t. no_colon (c ∷ cs) (codes "M") refl) form (λ t h. rw h) (λ t. refl))

-- the tokens of `4*([` are those of its marks
nibble_front : (rest : List ℕ) → tokens_of (codes "4*([" ++ rest) ≡ (codes "4" ∷ codes "*" ∷ codes "(" ∷ codes "[" ∷ [])
    ++ tokens_of rest
nibble_front rest = ap (λ ts. codes "4" ∷ codes "*" ∷ codes "(" ∷ ts) (tokens-mark 91 rest refl refl)

-- `ld [k]`, or `ld ifidx`
word_load : (n s k : ℕ) (b : Bool) → (k == ingress_port) ≡ b → s < 2 ^ 32 → k < 2 ^ 32 → ReadsSome n s (LoadWord k)
word_load n s k true port small fits =
    let same : ingress_port ≡ k = grind (arith, nat_tests) in
    subst (λ k. ReadsSome n s (LoadWord k)) same
    (some (reads_fixed n s ingress_port (LoadWord ingress_port) (codes "ld") (codes "ifidx" ∷ [])
    (record { pieces = spelled (codes "ifidx") ∷ []; code = 0x20; jump = NoJump; constant = ingress_port }) small refl refl refl
    refl refl refl refl refl))
word_load n s k false other small fits = absolute n s k (LoadWord k) 108 (codes "d") 0x20 small fits refl (rw other) refl
    (λ d ds h. rw h)

-- every instruction that stays below n reads back
pub reads : (n s : ℕ) (insn : Insn) → s < 2 ^ 32 → FieldsFit (raw_of insn) → StaysBelow n s (form insn) → ReadsSome n s insn
reads n s (LoadWord k) small fits stays = word_load n s k (k == ingress_port) refl small fits.k
reads n s (LoadHalf k) small fits stays = absolute n s k (LoadHalf k) 108 (codes "dh") 0x28 small fits.k refl refl refl
    (λ d ds h. rw h)
reads n s (LoadByte k) small fits stays = absolute n s k (LoadByte k) 108 (codes "db") 0x30 small fits.k refl refl refl
    (λ d ds h. rw h)
reads n s (LoadWordIndexed k) small fits stays = indexed n s k (LoadWordIndexed k) 108 (codes "d") 0x40 small fits.k refl refl
    refl (λ d ds h. rw h)
reads n s (LoadHalfIndexed k) small fits stays = indexed n s k (LoadHalfIndexed k) 108 (codes "dh") 0x48 small fits.k refl refl
    refl (λ d ds h. rw h)
reads n s (LoadByteIndexed k) small fits stays = indexed n s k (LoadByteIndexed k) 108 (codes "db") 0x50 small fits.k refl refl
    refl (λ d ds h. rw h)
reads n s (LoadScratchA k) small fits stays = scratch n s k (LoadScratchA k) 108 (codes "d") 0x60 small fits.k refl refl refl
    (λ d ds h. rw h)
reads n s (LoadScratchX k) small fits stays = scratch n s k (LoadScratchX k) 108 (codes "dx") 0x61 small fits.k refl refl refl
    (λ d ds h. rw h)
reads n s (StoreA k) small fits stays = scratch n s k (StoreA k) 115 (codes "t") 0x02 small fits.k refl refl refl (λ d ds h. rw h)
reads n s (StoreX k) small fits stays = scratch n s k (StoreX k) 115 (codes "tx") 0x03 small fits.k refl refl refl
    (λ d ds h. rw h)
reads n s (LoadNibble k) small fits stays =
    some (reads_decimal n s k (LoadNibble k) 108 (codes "dx") 0xb1 (codes "4*([") (codes "]&0xf)") (codes "4" ∷ codes "*"
    ∷ codes "(" ∷ codes "[" ∷ [])
    (codes "]" ∷ codes "&" ∷ codes "0xf" ∷ codes ")" ∷ []) (only 4 ∷ mark (codes "*([")
    ++ (number ∷ (mark (codes "]&") ++ (only 15 ∷ mark (codes ")")))))
    small fits.k refl refl refl refl refl nibble_front refl refl (λ t. refl) (λ d ds h. rw h) (λ t h. rw h) (λ t. refl))
reads n s (LoadConstantA k) small fits stays =
    some (reads_number n s k (LoadConstantA k) 108 (codes "d") 0x00 small fits.k refl refl refl refl)
reads n s (LoadConstantX k) small fits stays =
    some (reads_number n s k (LoadConstantX k) 108 (codes "dx") 0x01 small fits.k refl refl refl refl)
reads n s (ReturnConstant k) small fits stays =
    some (reads_number n s k (ReturnConstant k) 114 (codes "et") 0x06 small fits.k refl refl refl refl)
reads n s (AddConstant k) small fits stays =
    some (reads_number n s k (AddConstant k) 97 (codes "dd") 0x04 small fits.k refl refl refl refl)
reads n s (SubConstant k) small fits stays =
    some (reads_number n s k (SubConstant k) 115 (codes "ub") 0x14 small fits.k refl refl refl refl)
reads n s (MulConstant k) small fits stays =
    some (reads_number n s k (MulConstant k) 109 (codes "ul") 0x24 small fits.k refl refl refl refl)
reads n s (DivConstant k) small fits stays =
    some (reads_number n s k (DivConstant k) 100 (codes "iv") 0x34 small fits.k refl refl refl refl)
reads n s (ModConstant k) small fits stays =
    some (reads_number n s k (ModConstant k) 109 (codes "od") 0x94 small fits.k refl refl refl refl)
reads n s (OrConstant k) small fits stays =
    some (reads_number n s k (OrConstant k) 111 (codes "r") 0x44 small fits.k refl refl refl refl)
reads n s (AndConstant k) small fits stays =
    some (reads_number n s k (AndConstant k) 97 (codes "nd") 0x54 small fits.k refl refl refl refl)
reads n s (XorConstant k) small fits stays =
    some (reads_number n s k (XorConstant k) 120 (codes "or") 0xa4 small fits.k refl refl refl refl)
reads n s (LshConstant k) small fits stays =
    some (reads_number n s k (LshConstant k) 108 (codes "sh") 0x64 small fits.k refl refl refl refl)
reads n s (RshConstant k) small fits stays =
    some (reads_number n s k (RshConstant k) 114 (codes "sh") 0x74 small fits.k refl refl refl refl)
reads n s AddIndex small fits stays =
    some (reads_fixed n s 0 AddIndex (codes "add") (codes "x" ∷ []) (plain_form 0x0c (spelled (codes "x") ∷ [])) small refl refl
    refl refl refl refl refl refl)
reads n s SubIndex small fits stays =
    some (reads_fixed n s 0 SubIndex (codes "sub") (codes "x" ∷ []) (plain_form 0x1c (spelled (codes "x") ∷ [])) small refl refl
    refl refl refl refl refl refl)
reads n s MulIndex small fits stays =
    some (reads_fixed n s 0 MulIndex (codes "mul") (codes "x" ∷ []) (plain_form 0x2c (spelled (codes "x") ∷ [])) small refl refl
    refl refl refl refl refl refl)
reads n s DivIndex small fits stays =
    some (reads_fixed n s 0 DivIndex (codes "div") (codes "x" ∷ []) (plain_form 0x3c (spelled (codes "x") ∷ [])) small refl refl
    refl refl refl refl refl refl)
reads n s ModIndex small fits stays =
    some (reads_fixed n s 0 ModIndex (codes "mod") (codes "x" ∷ []) (plain_form 0x9c (spelled (codes "x") ∷ [])) small refl refl
    refl refl refl refl refl refl)
reads n s OrIndex small fits stays =
    some (reads_fixed n s 0 OrIndex (codes "or") (codes "x" ∷ []) (plain_form 0x4c (spelled (codes "x") ∷ [])) small refl refl
    refl refl refl refl refl refl)
reads n s AndIndex small fits stays =
    some (reads_fixed n s 0 AndIndex (codes "and") (codes "x" ∷ []) (plain_form 0x5c (spelled (codes "x") ∷ [])) small refl refl
    refl refl refl refl refl refl)
reads n s XorIndex small fits stays =
    some (reads_fixed n s 0 XorIndex (codes "xor") (codes "x" ∷ []) (plain_form 0xac (spelled (codes "x") ∷ [])) small refl refl
    refl refl refl refl refl refl)
reads n s LshIndex small fits stays =
    some (reads_fixed n s 0 LshIndex (codes "lsh") (codes "x" ∷ []) (plain_form 0x6c (spelled (codes "x") ∷ [])) small refl refl
    refl refl refl refl refl refl)
reads n s RshIndex small fits stays =
    some (reads_fixed n s 0 RshIndex (codes "rsh") (codes "x" ∷ []) (plain_form 0x7c (spelled (codes "x") ∷ [])) small refl refl
    refl refl refl refl refl refl)
reads n s LoadLengthA small fits stays =
    some (reads_fixed n s 0 LoadLengthA (codes "ld") (codes "len" ∷ []) (plain_form 0x80 (spelled (codes "len") ∷ [])) small refl
    refl refl refl refl refl refl refl)
reads n s LoadLengthX small fits stays =
    some (reads_fixed n s 0 LoadLengthX (codes "ldx") (codes "len" ∷ []) (plain_form 0x81 (spelled (codes "len") ∷ [])) small refl
    refl refl refl refl refl refl refl)
reads n s ReturnA small fits stays =
    some (reads_fixed n s 0 ReturnA (codes "ret") (codes "a" ∷ []) (plain_form 0x16 (spelled (codes "a") ∷ [])) small refl refl
    refl refl refl refl refl refl)
reads n s Negate small fits stays =
    some (reads_fixed n s 0 Negate (codes "neg") ([]) (plain_form 0x84 ([])) small refl refl refl refl refl refl refl refl)
reads n s Tax small fits stays =
    some (reads_fixed n s 0 Tax (codes "tax") ([]) (plain_form 0x07 ([])) small refl refl refl refl refl refl refl refl)
reads n s Txa small fits stays =
    some (reads_fixed n s 0 Txa (codes "txa") ([]) (plain_form 0x87 ([])) small refl refl refl refl refl refl refl refl)
reads n s (Jump k) small fits stays = some (reads_jump n s k small fits.k stays)
reads n s (JumpEqualConstant jt jf k) small fits stays =
    some (reads_branch n s jt jf k (JumpEqualConstant jt jf k) 106 (codes "eq") 0x15 small fits.k fits.jt fits.jf stays.0 stays.1
    refl refl refl refl)
reads n s (JumpEqualIndex jt jf) small fits stays =
    some (reads_branch_x n s jt jf (JumpEqualIndex jt jf) 106 (codes "eq") 0x1d small fits.jt fits.jf stays.0 stays.1 refl refl
    refl refl)
reads n s (JumpGreaterConstant jt jf k) small fits stays =
    some (reads_branch n s jt jf k (JumpGreaterConstant jt jf k) 106 (codes "gt") 0x25 small fits.k fits.jt fits.jf stays.0
    stays.1 refl refl refl refl)
reads n s (JumpGreaterIndex jt jf) small fits stays =
    some (reads_branch_x n s jt jf (JumpGreaterIndex jt jf) 106 (codes "gt") 0x2d small fits.jt fits.jf stays.0 stays.1 refl refl
    refl refl)
reads n s (JumpAtLeastConstant jt jf k) small fits stays =
    some (reads_branch n s jt jf k (JumpAtLeastConstant jt jf k) 106 (codes "ge") 0x35 small fits.k fits.jt fits.jf stays.0
    stays.1 refl refl refl refl)
reads n s (JumpAtLeastIndex jt jf) small fits stays =
    some (reads_branch_x n s jt jf (JumpAtLeastIndex jt jf) 106 (codes "ge") 0x3d small fits.jt fits.jf stays.0 stays.1 refl refl
    refl refl)
reads n s (JumpSharesBitConstant jt jf k) small fits stays =
    some (reads_branch n s jt jf k (JumpSharesBitConstant jt jf k) 106 (codes "set") 0x45 small fits.k fits.jt fits.jf stays.0
    stays.1 refl refl refl refl)
reads n s (JumpSharesBitIndex jt jf) small fits stays =
    some (reads_branch_x n s jt jf (JumpSharesBitIndex jt jf) 106 (codes "set") 0x4d small fits.jt fits.jf stays.0 stays.1 refl
    refl refl refl)

-- the fields of each instruction are of their types
abbrev pub AllFit : List Insn → Type 0
AllFit [] = Unit {0}
AllFit (i ∷ is) = FieldsFit (raw_of i) × AllFit is

-- so do those of the first i
abbrev pub FitBefore : ℕ → List Insn → Type 0
FitBefore i is = (j : ℕ) (d : Insn) → j < i → FieldsFit (raw_of (get_or is j d))

same_item : (is : List Insn) (i : ℕ) (d e : Insn) → i < length is → get_or is i d ≡ get_or is i e
same_item [] i d e lt = absurd (omega arith)
same_item (x ∷ xs) zero d e lt = refl
same_item (x ∷ xs) (suc i) d e lt = same_item xs i d e (omega arith)

-- those of the first i and of the next one
pub fit_more : (is : List Insn) (i : ℕ) (d : Insn) → i < length is → FieldsFit (raw_of (get_or is i d)) → FitBefore i is
    → FitBefore (i + 1) is
fit_more is i d lt here before = λ j e less. ⊎_elim
    (λ earlier. before j e earlier)
    (λ last.
    let same : i ≡ j = omega arith in
    subst (λ n. FieldsFit (raw_of (get_or is n e))) same (subst (λ x. FieldsFit (raw_of x)) (same_item is i d e lt) here))
    (cases_lt j i)

-- those of all
pub all_fit : (is : List Insn) → FitBefore (length is) is → AllFit is
all_fit [] h = tt
all_fit (i ∷ is) h = (h 0 i (omega arith), all_fit is (λ j d lt. h (suc j) d (omega arith)))

-- the lines of a program
abbrev pub line_texts : ℕ → List Insn → List (List ℕ)
line_texts s [] = []
line_texts s (i ∷ is) = line_text s i ∷ line_texts (s + 1) is

record AllBack (n s : ℕ) (is : List Insn) : Type 0 where
  pub ws : List Written
  pub read : AllRead n s is (line_texts s is) ws

all_back : (n s : ℕ) (is : List Insn) → s + length is ≤ 4096 → AllFit is
    → ((j : ℕ) (f : Instruction) → HasAt (program_forms is) j f → StaysBelow n (s + j) f) → AllBack n s is
all_back n s [] few fits stays = record { ws = []; read = tt }
all_back n s (i ∷ is) few fits stays =
    let here : StaysBelow n s (form i) = subst (λ p. StaysBelow n p (form i)) (omega arith) (stays 0 (form i) refl) in
    let one : ReadsSome n s i = reads n s i (omega arith) fits.0 here in
    let rest : AllBack n (s + 1) is =
    all_back n (s + 1) is (omega arith) fits.1 (λ j f h. subst (λ p. StaysBelow n p f) (omega arith) (stays (suc j) f h)) in
    record { ws = one.w ∷ rest.ws; read = (reads_line n s i one.word one.operands one.w one.reads, rest.read) }

ended : (s : ℕ) (i : Insn) (rest : List ℕ) → line_of (s, raw_of i) ++ rest ≡ line_text s i ++ 10 ∷ rest
ended s i rest =
    let text = instruction_text s (raw_of i) in
    append_assoc (label s) (codes ":\t" ++ (text ++ 10 ∷ [])) rest
    ∙ ap (λ xs. label s ++ (codes ":\t" ++ xs)) (append_assoc text (10 ∷ []) rest)
    ∙ sym (append_assoc (label s) (codes ":\t" ++ text) (10 ∷ rest))

written_lines : (n s : ℕ) (is : List Insn) (ws : List Written) → AllRead n s is (line_texts s is) ws
    → lines_of (flat_map line_of (enumerate_from s (map raw_of is))) ≡ line_texts s is ++ [] ∷ []
written_lines n s [] ws h = refl
written_lines n s (i ∷ is) [] h = absurd h
written_lines n s (i ∷ is) (w ∷ ws) h =
    let rest : List ℕ = flat_map line_of (enumerate_from (s + 1) (map raw_of is)) in
    ap lines_of (ended s i rest) ∙ lines_before (line_text s i) rest h.0.chars
    ∙ ap (λ ls. line_text s i ∷ ls) (written_lines n (s + 1) is ws h.1)

-- the text of an accepted program assembles to the program
pub round_trip : (is : List Insn) → AllFit is → IsOrderly (program_forms is) → length (program_forms is) ≡ length is
    → Assembles (disassembly (map raw_of is)) (map raw_of is)
round_trip is fits orderly long =
    let n = length is in
    let all : AllBack n 0 is =
    all_back n 0 is (omega (arith, orderly.short)) fits
    (λ j f h. subst (λ p. StaysBelow p (0 + j) f) long (subst (λ p. StaysBelow (length (program_forms is)) p f) (omega arith)
    (orderly.stays j f h))) in
    assembles_back (disassembly (map raw_of is)) is (line_texts 0 is) all.ws (omega (arith, orderly.short))
    (written_lines n 0 is all.ws all.read) all.read
