-- What the commands `asm` and `list` answer and refuse.
use Rattle.std.specs.Prelude.{◌≡◌, ◌≢◌, ℕ, List, [], ◌∷◌, ◌++◌, map, Some}
use Rattle.std.specs.Str.{IsUtf8}
use Rattle.gw_insn.specs.declared.insn.Raw.{Raw}
use Rattle.gw_insn.specs.declared.insn.Insn.{Insn}
use Rattle.gw_insn.specs.Table.{raw_of}
use Rattle.gw_insn.specs.Spelling.{plain_listing}
use Rattle.gw_text.specs.Assembly.{Assembles, first_refusal}
use Rattle.gw_text.specs.Disassembly.{disassembly}
use Rattle.gw_text.specs.declared.refusal.AsmRefusal.TheVariants as asm
use Rattle.gw_answers.specs.declared.answer.Answer.{Answer}
use Rattle.gw_answers.specs.declared.answer.Answer.TheVariants.{Text}
use Rattle.gw_answers.specs.declared.refusal.Refusal.{Refusal}
use Rattle.gw_answers.specs.declared.refusal.Refusal.TheVariants.{Assembler, NotUtf8, OutOfMemory}
use Rattle.gw_input.specs.Programs.{NamesProgram}
use Rattle.gw_answers.specs.Texts.{IsProgramRefusal}

-- the listing of the code that the text means, and a line feed
abbrev pub AnswersAsm : List ℕ → Answer → Type 0
AnswersAsm input (Text line) = (code : List Raw) × IsUtf8 input × Assembles input code
    × (line.items ≡ plain_listing code ++ 10 ∷ [])
AnswersAsm input _ = ⊥

-- the text's first refusal; 49 may stand in place of any, and 100 comes for the listing of a text's code alone
abbrev pub RefusesAsm : List ℕ → Refusal → Type 0
RefusesAsm input NotUtf8 = IsUtf8 input → ⊥
RefusesAsm input (Assembler why text) = IsUtf8 input × (why ≢ asm.OutOfMemory → first_refusal input ≡ Some why)
RefusesAsm input OutOfMemory = (code : List Raw) × IsUtf8 input × Assembles input code
RefusesAsm input _ = ⊥

-- the text of the accepted program of a listing
abbrev pub AnswersList : List ℕ → Answer → Type 0
AnswersList input (Text text) = (program : List Insn) × NamesProgram input program
    × (text.items ≡ disassembly (map raw_of program))
AnswersList input _ = ⊥

-- memory may be wanting for the text of an accepted program
abbrev pub RefusesList : List ℕ → Refusal → Type 0
RefusesList input OutOfMemory = (program : List Insn) × NamesProgram input program
RefusesList input refusal = IsProgramRefusal input refusal
