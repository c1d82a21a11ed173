-- The code that an assembler text means, and the first refusal of a text that means none.
use Rattle.std.specs.Prelude.{◌≡◌, ℕ, ◌+◌, ◌-◌, Bool, true, false, not, ◌&&◌, nat_lt, nat_le, if◌then◌else◌}
use Rattle.std.specs.Prelude.{List, [], ◌∷◌, ◌++◌, map, codes, Option, Some, None, unwrap_or, option_to_list}
use Rattle.std.specs.List.{find, filter_map, list_any, list_all, enumerate_from, slice_get, flat_map}
use Rattle.std.specs.Option.{option_map, option_map_or}
use Rattle.gw_insn.specs.declared.insn.Raw.{Raw}
use Rattle.gw_text.specs.declared.refusal.AsmRefusal.{AsmRefusal}
use Rattle.gw_text.specs.declared.refusal.AsmRefusal.TheVariants.{BadToken, UnknownWord, BadOperand, BadNumber, LabelTwice}
use Rattle.gw_text.specs.declared.refusal.AsmRefusal.TheVariants.{NoSuchLabel, Backward, TooFar, TooMany, OutOfMemory}
use Rattle.gw_text.specs.declared.forms.Jump.{Jump}
use Rattle.gw_text.specs.declared.forms.Jump.TheVariants.{NoJump, Always, IfTrue, IfFalse, Either}
use Rattle.gw_text.specs.AssemblerTokens.{lines_of, tokens_of, is_token_character, is_word}
use Rattle.gw_text.specs.AssemblerForms.{Form, form_of, k_of, labels_at, is_known_word, same_text}

-- the numbers of the refusals
abbrev pub refusal_number : AsmRefusal → ℕ
refusal_number (BadToken line) = 40
refusal_number (UnknownWord line) = 41
refusal_number (BadOperand line) = 42
refusal_number (BadNumber line) = 43
refusal_number (LabelTwice line) = 44
refusal_number (NoSuchLabel line) = 45
refusal_number (Backward line) = 46
refusal_number (TooFar line) = 47
refusal_number (TooMany line) = 48
refusal_number OutOfMemory = 49

-- the line that a refusal is about
abbrev pub refusal_line : AsmRefusal → Option ℕ
refusal_line (BadToken line) = Some line
refusal_line (UnknownWord line) = Some line
refusal_line (BadOperand line) = Some line
refusal_line (BadNumber line) = Some line
refusal_line (LabelTwice line) = Some line
refusal_line (NoSuchLabel line) = Some line
refusal_line (Backward line) = Some line
refusal_line (TooFar line) = Some line
refusal_line (TooMany line) = Some line
refusal_line OutOfMemory = None

-- the labels that a line begins with, and what follows them
abbrev pub is_label : List ℕ → List ℕ → Bool
is_label token next = is_word token && same_text next (codes ":")

-- tokens begin with a label
abbrev pub starts_with_label : List (List ℕ) → Bool
starts_with_label (token ∷ next ∷ rest) = is_label token next
starts_with_label _ = false

abbrev pub line_labels : List (List ℕ) → List (List ℕ)
line_labels (token ∷ next ∷ rest) = if is_label token next then token ∷ line_labels rest else []
line_labels _ = []

abbrev pub after_labels : List (List ℕ) → List (List ℕ)
after_labels (token ∷ next ∷ rest) = if is_label token next then after_labels rest else token ∷ next ∷ rest
after_labels tokens = tokens

-- a line of the text with its number
pub record Line : Type 0 where
  pub number : ℕ
  pub text : List ℕ

abbrev pub with_number : ℕ × List ℕ → Line
with_number n = record { number = n.0; text = n.1 }

abbrev pub lines_from : ℕ → List (List ℕ) → List Line
lines_from number lines = map with_number (enumerate_from number lines)

abbrev pub numbered : List ℕ → List Line
numbered text = lines_from 1 (lines_of text)

abbrev pub labels_on : Line → List (List ℕ)
labels_on line = line_labels (tokens_of line.text)

abbrev pub instruction_on : Line → List (List ℕ)
instruction_on line = after_labels (tokens_of line.text)

-- what is wrong with a line by itself: its word, its operands, or a number among them
abbrev pub number_fault : ℕ → List (List ℕ) → Form → Option AsmRefusal
number_fault line operands form = option_map_or (λ k. None) (k_of form.pieces operands form.constant) (Some (BadNumber line))

abbrev pub operand_fault : ℕ → List ℕ → List (List ℕ) → Option AsmRefusal
operand_fault line word operands = option_map_or (number_fault line operands) (form_of word operands) (Some (BadOperand line))

abbrev pub instruction_fault : ℕ → List (List ℕ) → Option AsmRefusal
instruction_fault line [] = None
instruction_fault line (word ∷ operands) =
    if is_known_word word then operand_fault line word operands else Some (UnknownWord line)

abbrev pub line_fault : Line → Option AsmRefusal
line_fault line =
    if list_all is_token_character line.text then instruction_fault line.number (instruction_on line)
    else Some (BadToken line.number)

-- an instruction as it is written
pub record Written : Type 0 where
  pub line : ℕ
  pub code : ℕ
  pub jump : Jump
  pub k : ℕ
  pub targets : List (List ℕ)

abbrev pub written_in : ℕ → List (List ℕ) → Form → Written
written_in line operands form = record {
  line = line;
  code = form.code;
  jump = form.jump;
  k = unwrap_or (k_of form.pieces operands form.constant) 0;
  targets = labels_at form.pieces operands;
}

abbrev pub written_as : ℕ → List (List ℕ) → Option Written
written_as line [] = None
written_as line (word ∷ operands) = option_map (written_in line operands) (form_of word operands)

abbrev pub written_on : Line → Option Written
written_on line = written_as line.number (instruction_on line)

abbrev pub instructions : List Line → List Written
instructions lines = filter_map written_on lines

-- a label names the place of the next instruction
pub record Definition : Type 0 where
  pub name : List ℕ
  pub place : ℕ
  pub line : ℕ

abbrev pub defined_at : ℕ → ℕ → List (List ℕ) → List Definition
defined_at place line names = map (λ name. record { name = name; place = place; line = line }) names

abbrev pub defined_on : ℕ → Line → List Definition
defined_on place line = defined_at place line.number (labels_on line)

-- the place of what follows a line that may have an instruction
abbrev pub place_after : ℕ → Option Written → ℕ
place_after place None = place
place_after place (Some w) = place + 1

abbrev pub definitions_from : ℕ → List Line → List Definition
definitions_from place [] = []
definitions_from place (line ∷ lines) = defined_on place line ++ definitions_from (place_after place (written_on line)) lines

abbrev pub definitions : List Line → List Definition
definitions lines = definitions_from 0 lines

-- the first definition of a name that was defined before
abbrev pub defined_again : List (List ℕ) → List Definition → Option Definition
defined_again names [] = None
defined_again names (d ∷ ds) = if list_any (same_text d.name) names then Some d else defined_again (d.name ∷ names) ds

-- labels as a map from names to places
abbrev pub Labels : Type 0
Labels = List ℕ → Option ℕ

abbrev pub place_of : List Definition → Labels
place_of definitions name = option_map (λ d. d.place) (find (λ d. same_text d.name name) definitions)

abbrev pub is_always : Jump → Bool
is_always Always = true
is_always _ = false

-- what is wrong with a target of the instruction at a place
abbrev pub distance_fault : ℕ → Written → ℕ → Option AsmRefusal
distance_fault place w target =
    if nat_le target place then Some (Backward w.line)
    else if not (is_always w.jump) && nat_lt 255 (target - (place + 1)) then Some (TooFar w.line) else None

abbrev pub target_fault : Labels → ℕ → Written → List ℕ → Option AsmRefusal
target_fault labels place w name = option_map_or (distance_fault place w) (labels name) (Some (NoSuchLabel w.line))

abbrev pub first_of : List AsmRefusal → Option AsmRefusal
first_of [] = None
first_of (r ∷ rs) = Some r

-- the faults of a text, in this order: of a line by itself, of a label's definition, of a target, of the number of instructions
abbrev pub line_faults : List Line → List AsmRefusal
line_faults lines = filter_map line_fault lines

abbrev pub label_twice : Definition → AsmRefusal
label_twice d = LabelTwice d.line

abbrev pub twice : List Definition → List AsmRefusal
twice definitions = option_to_list (option_map label_twice (defined_again [] definitions))

abbrev pub target_faults : Labels → ℕ × Written → List AsmRefusal
target_faults labels w = filter_map (target_fault labels w.0 w.1) w.1.targets

abbrev pub all_target_faults : Labels → List Written → List AsmRefusal
all_target_faults labels ws = flat_map (target_faults labels) (enumerate_from 0 ws)

-- the 4097th instruction
abbrev pub too_many : List Written → List AsmRefusal
too_many ws = option_to_list (option_map (λ w. TooMany w.line) (slice_get ws 4096))

abbrev pub faults : List Line → List AsmRefusal
faults lines =
    line_faults lines
    ++ (twice (definitions lines) ++ (all_target_faults (place_of (definitions lines)) (instructions lines)
    ++ too_many (instructions lines)))

-- the refusal of a text is its first fault
abbrev pub first_refusal : List ℕ → Option AsmRefusal
first_refusal text = first_of (faults (numbered text))

-- how far an instruction at a place jumps to a label
abbrev pub distance : Labels → ℕ → List ℕ → ℕ
distance labels place name = unwrap_or (labels name) 0 - (place + 1)

-- the four fields, where the targets are as many as the jump has
abbrev pub encoded : Labels → ℕ → Jump → Written → List (List ℕ) → Raw
encoded labels place NoJump w targets = record { code = w.code; jt = 0; jf = 0; k = w.k }
encoded labels place Always w (target ∷ rest) = record { code = w.code; jt = 0; jf = 0; k = distance labels place target }
encoded labels place IfTrue w (target ∷ rest) = record { code = w.code; jt = distance labels place target; jf = 0; k = w.k }
encoded labels place IfFalse w (target ∷ rest) = record { code = w.code; jt = 0; jf = distance labels place target; k = w.k }
encoded labels place Either w (target ∷ other ∷ rest) =
    record { code = w.code; jt = distance labels place target; jf = distance labels place other; k = w.k }
encoded labels place jump w targets = record { code = w.code; jt = 0; jf = 0; k = w.k }

abbrev pub raw_at : Labels → ℕ × Written → Raw
raw_at labels w = encoded labels w.0 w.1.jump w.1 w.1.targets

abbrev pub code_of : List Line → List Raw
code_of lines = map (raw_at (place_of (definitions lines))) (enumerate_from 0 (instructions lines))

-- the text means this code
pub record Assembles (text : List ℕ) (code : List Raw) : Type 0 where
  pub faultless : first_refusal text ≡ None
  pub means : code ≡ code_of (numbered text)
