-- The labels and instructions of a text, one line after another.
use Rattle.std.proofs.Common.{◌≡◌, ℕ, ◌+◌, ◌<◌, ◌≤◌, Bool, true, false, List, [], ◌∷◌, ◌++◌, map, length, drop, get_or, Option}
use Rattle.std.proofs.Common.{Some, None, option_map, option_to_list, unwrap_or, refl, sym, ap, ◌∙◌, arith, append-nil}
use Rattle.std.proofs.Common.{append_assoc, length-append}
use Rattle.std.specs.Borrow.{Bor}
use Rattle.std.proofs.lemmas.List.{drop_more, map-append}
use Rattle.gw_text.specs.declared.refusal.AsmRefusal.{AsmRefusal}
use Rattle.gw_text.specs.declared.line.Instruction.{Instruction}
use Rattle.gw_text.specs.AssemblerForms.{same_text}
use Rattle.gw_text.specs.Assembly.{Line, Written, Definition, lines_from, line_fault, line_faults, first_of, labels_on}
use Rattle.gw_text.specs.Assembly.{written_on, instructions, defined_at, defined_on, definitions_from, place_after, place_of}
use Rattle.gw_text.specs.Sources.{instruction_view}

-- the line of index i, whose number is one more
abbrev pub line_at : ℕ → List ℕ → Line
line_at i text = record { number = i + 1; text = text }

-- the lines from index i on
abbrev pub rest_from : ℕ → List (Bor (List ℕ)) → List Line
rest_from i lines = lines_from (i + 1) (map (λ t. t.now) (drop i lines))

-- the line of index i stands before the others
pub cut_line : (lines : List (Bor (List ℕ))) (i : ℕ) (d : Bor (List ℕ)) → i < length lines
    → rest_from i lines ≡ line_at i (get_or lines i d).now ∷ rest_from (i + 1) lines
cut_line lines i d lt = ap (λ ls. lines_from (i + 1) (map (λ (t : Bor (List ℕ)). t.now) ls)) (drop_more lines i d lt)

fault_first : (line : Line) (rest : List Line) (e : AsmRefusal) → line_fault line ≡ Some e → first_of (line_faults (line ∷ rest))
    ≡ Some e
fault_first line rest e h = rw h

no_fault_first : (line : Line) (rest : List Line) → line_fault line ≡ None → line_faults (line ∷ rest) ≡ line_faults rest
no_fault_first line rest h = rw h

-- the first line with a fault
pub line_refused : (lines : List (Bor (List ℕ))) (i : ℕ) (d : Bor (List ℕ)) (e : AsmRefusal) (whole : List AsmRefusal)
    → i < length lines
    → line_fault (line_at i (get_or lines i d).now) ≡ Some e → line_faults (rest_from i lines) ≡ whole → first_of whole ≡ Some e
line_refused lines i d e whole lt h so =
    sym (ap first_of so) ∙ ap (λ ls. first_of (line_faults ls)) (cut_line lines i d lt)
    ∙ fault_first (line_at i (get_or lines i d).now) (rest_from (i + 1) lines) e h

-- a line without a fault
pub faults_behind : (lines : List (Bor (List ℕ))) (i : ℕ) (d : Bor (List ℕ)) (whole : List AsmRefusal) → i < length lines
    → line_fault (line_at i (get_or lines i d).now) ≡ None → line_faults (rest_from i lines) ≡ whole
    → line_faults (rest_from (i + 1) lines) ≡ whole
faults_behind lines i d whole lt h so =
    sym (ap line_faults (cut_line lines i d lt) ∙ no_fault_first (line_at i (get_or lines i d).now) (rest_from (i + 1) lines) h)
    ∙ so

add_labels : (line : Line) (rest : List Line) (place : ℕ) (had now whole : List Definition) (old new : List Instruction)
    (o : Option Instruction)
    → now ≡ had ++ defined_on place line → place ≡ length old → new ≡ old ++ option_to_list o → option_map instruction_view o
    ≡ written_on line
    → had ++ definitions_from place (line ∷ rest) ≡ whole → now ++ definitions_from (length new) rest ≡ whole
add_labels line rest place had now whole old new o adds here pushed reads so =
    let next : length new ≡ place_after place (written_on line) = ap length pushed ∙ count o ∙ ap (place_after place) reads in
    ap (λ ds. ds ++ definitions_from (length new) rest) adds
    ∙ append_assoc had (defined_on place line) (definitions_from (length new) rest)
    ∙ ap (λ p. had ++ (defined_on place line ++ definitions_from p rest)) next ∙ so
  where
    count : (o : Option Instruction) → length (old ++ option_to_list o) ≡ place_after place (option_map instruction_view o)
    count None = ap length (append-nil old) ∙ sym here
    count (Some i) = length-append old (i ∷ []) ∙ ap (λ n. n + 1) (sym here)

-- the labels with those of one line more
pub labels_behind : (lines : List (Bor (List ℕ))) (i : ℕ) (d : Bor (List ℕ)) (place : ℕ) (had now whole : List Definition)
    (names : List (List ℕ)) (old new : List Instruction) (o : Option Instruction)
    → i < length lines → now ≡ had ++ defined_at place (i + 1) names → names ≡ labels_on (line_at i (get_or lines i d).now)
    → place ≡ length old → new ≡ old ++ option_to_list o
    → option_map instruction_view o ≡ written_on (line_at i (get_or lines i d).now)
    → had ++ definitions_from (length old) (rest_from i lines) ≡ whole
    → now ++ definitions_from (length new) (rest_from (i + 1) lines) ≡ whole
labels_behind lines i d place had now whole names old new o lt adds on here pushed reads so =
    add_labels (line_at i (get_or lines i d).now) (rest_from (i + 1) lines) place had now whole old new o (adds
    ∙ ap (λ ns. had ++ defined_at place (i + 1) ns) on) here pushed reads
    (sym (ap (λ ls. had ++ definitions_from place ls) (cut_line lines i d lt))
    ∙ ap (λ p. had ++ definitions_from p (rest_from i lines)) here ∙ so)

option_first : (line : Line) (rest : List Line) (o : Option Written) → o ≡ written_on line → option_to_list o ++ instructions rest
    ≡ instructions (line ∷ rest)
option_first line rest None h = rw (← h)
option_first line rest (Some w) h = rw (← h)

viewed : (o : Option Instruction) → map instruction_view (option_to_list o) ≡ option_to_list (option_map instruction_view o)
viewed None = refl
viewed (Some i) = refl

-- the instructions with that of one line more
pub instructions_behind : (lines : List (Bor (List ℕ))) (i : ℕ) (d : Bor (List ℕ)) (old new : List Instruction)
    (o : Option Instruction) (whole : List Written)
    → i < length lines → new ≡ old ++ option_to_list o → option_map instruction_view o
    ≡ written_on (line_at i (get_or lines i d).now)
    → map instruction_view old ++ instructions (rest_from i lines) ≡ whole → map instruction_view new
    ++ instructions (rest_from (i + 1) lines) ≡ whole
instructions_behind lines i d old new o whole lt pushed reads so =
    let line : Line = line_at i (get_or lines i d).now in
    let rest : List Line = rest_from (i + 1) lines in
    ap (λ is. map instruction_view is ++ instructions rest) pushed
    ∙ ap (λ ws. ws ++ instructions rest) (map-append instruction_view old (option_to_list o))
    ∙ append_assoc (map instruction_view old) (map instruction_view (option_to_list o)) (instructions rest)
    ∙ ap (λ ws. map instruction_view old ++ (ws ++ instructions rest)) (viewed o)
    ∙ ap (λ ws. map instruction_view old ++ ws) (option_first line rest (option_map instruction_view o) reads)
    ∙ sym (ap (λ ls. map instruction_view old ++ instructions ls) (cut_line lines i d lt)) ∙ so

-- no label stands behind the last instruction
one_bound : (name n : List ℕ) (place most : ℕ) (more : List Definition) (line : ℕ) (b : Bool) → same_text n name ≡ b
    → place ≤ most → unwrap_or (place_of more name) 0 ≤ most
    → unwrap_or (place_of (record { name = n; place = place; line = line } ∷ more) name) 0 ≤ most
one_bound name n place most more line true e here behind = rw e here
one_bound name n place most more line false e here behind = rw e behind

bound : (name : List ℕ) (names : List (List ℕ)) (ds : List Definition) (place line most : ℕ) → place ≤ most
    → unwrap_or (place_of ds name) 0 ≤ most
    → unwrap_or (place_of (defined_at place line names ++ ds) name) 0 ≤ most
bound name [] ds place line most here behind = behind
bound name (n ∷ ns) ds place line most here behind =
    one_bound name n place most (defined_at place line ns ++ ds) line (same_text n name) refl here
    (bound name ns ds place line most here behind)

line_bound : (name : List ℕ) (place : ℕ) (line : Line) (ls : List Line) (o : Option Written) → written_on line ≡ o
    → unwrap_or (place_of (definitions_from (place_after place o) ls) name) 0 ≤ place_after place o + length (instructions ls)
    → unwrap_or (place_of (definitions_from place (line ∷ ls)) name) 0 ≤ place + length (instructions (line ∷ ls))
line_bound name place line ls None e more =
    rw e (bound name (labels_on line) (definitions_from place ls) place line.number (place + length (instructions ls))
    (omega arith) more)
line_bound name place line ls (Some w) e more =
    rw e (bound name (labels_on line) (definitions_from (place + 1) ls) place line.number (place + length (w ∷ instructions ls))
    (omega arith) (omega arith))

-- a label names a place of the instructions, or the one behind them
pub places_inside : (name : List ℕ) (place : ℕ) (ls : List Line) → unwrap_or (place_of (definitions_from place ls) name) 0 ≤ place
    + length (instructions ls)
places_inside name place [] = omega arith
places_inside name place (line ∷ ls) =
    line_bound name place line ls (written_on line) refl (places_inside name (place_after place (written_on line)) ls)
