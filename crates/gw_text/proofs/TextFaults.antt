-- The first fault of a text from those of its parts, in their order.
use Rattle.std.proofs.Common.{◌≡◌, ℕ, ◌+◌, ◌==◌, ◌<◌, ◌≤◌, List, [], ◌++◌, map, length, Option, Some, None, option_map}
use Rattle.std.proofs.Common.{option_to_list, unwrap_or, get_or, refl, sym, ap, ◌∙◌, arith}
use Rattle.std.specs.Borrow.{Bor}
use Rattle.std.specs.List.{slice_get, slice_split, enumerate_from}
use Rattle.std.proofs.lemmas.List.{length-map}
use Rattle.std.proofs.lemmas.Option.{slice_get_past, slice_get_read, slice_get-map}
use Rattle.gw_insn.specs.declared.insn.Raw.{Raw}
use Rattle.gw_text.specs.declared.refusal.AsmRefusal.{AsmRefusal}
use Rattle.gw_text.specs.declared.refusal.AsmRefusal.TheVariants.{TooMany}
use Rattle.gw_text.specs.declared.line.Instruction.{Instruction}
use Rattle.gw_text.specs.declared.comments.LexState.TheVariants.{Text}
use Rattle.gw_text.specs.AssemblerTokens.{without_comments}
use Rattle.gw_text.specs.Assembly.{Line, Written, Labels, lines_from, numbered, line_faults, twice, label_twice, defined_again}
use Rattle.gw_text.specs.Assembly.{definitions, instructions, all_target_faults, too_many, place_of, faults, first_of}
use Rattle.gw_text.specs.Assembly.{first_refusal, raw_at, code_of, Assembles}
use Rattle.gw_text.specs.Sources.{instruction_view}
use Rattle.gw_text.proofs.FirstFaults.{first_here, first_behind}
use Rattle.gw_text.proofs.SourceLines.{places_inside}

of_option : (o : Option AsmRefusal) → first_of (option_to_list o) ≡ o
of_option (Some e) = refl
of_option None = refl

-- the lines of a text, by the steps that find them
pub lines_are : (text bytes blanked shown : List ℕ) (lines seen : List (Bor (List ℕ))) → bytes ≡ text
    → blanked ≡ without_comments Text bytes → shown ≡ blanked
    → map (λ t. t.now) lines ≡ slice_split (λ c. c == 10) shown → seen ≡ lines
    → numbered text ≡ lines_from 1 (map (λ t. t.now) seen)
lines_are text bytes blanked shown lines seen is clear same split seen_lines =
    sym (ap (λ ls. lines_from 1 (map (λ (t : Bor (List ℕ)). t.now) ls)) seen_lines
    ∙ ap (lines_from 1) (split ∙ ap (slice_split (λ c. c == 10)) (same ∙ clear ∙ ap (without_comments Text) is)))

-- what stands behind the faults of the lines, and behind those of the definitions
abbrev behind_lines : List Line → List AsmRefusal
behind_lines ls = twice (definitions ls) ++ (all_target_faults (place_of (definitions ls)) (instructions ls)
    ++ too_many (instructions ls))

abbrev behind_labels : List Line → List AsmRefusal
behind_labels ls = all_target_faults (place_of (definitions ls)) (instructions ls) ++ too_many (instructions ls)

-- the first fault of a line refuses the text
pub refused_line : (text : List ℕ) (ls : List Line) (e : AsmRefusal) → numbered text ≡ ls → first_of (line_faults ls) ≡ Some e
    → first_refusal text ≡ Some e
refused_line text ls e all h = ap (λ l. first_of (faults l)) all ∙ first_here (line_faults ls) (behind_lines ls) e h

past_lines : (text : List ℕ) (ls : List Line) → numbered text ≡ ls → line_faults ls ≡ []
    → first_refusal text ≡ first_of (behind_lines ls)
past_lines text ls all none = ap (λ l. first_of (faults l)) all
    ∙ first_behind (line_faults ls) (behind_lines ls) (ap first_of none)

-- where no line has a fault, a label that is defined again does
pub refused_label : (text : List ℕ) (ls : List Line) (e : AsmRefusal) → numbered text ≡ ls → line_faults ls ≡ []
    → option_map label_twice (defined_again [] (definitions ls)) ≡ Some e → first_refusal text ≡ Some e
refused_label text ls e all none h =
    past_lines text ls all none
    ∙ first_here (twice (definitions ls)) (behind_labels ls) e
    (of_option (option_map label_twice (defined_again [] (definitions ls))) ∙ h)

past_labels : (text : List ℕ) (ls : List Line) → numbered text ≡ ls → line_faults ls ≡ [] → defined_again [] (definitions ls)
    ≡ None
    → first_refusal text ≡ first_of (behind_labels ls)
past_labels text ls all none once =
    past_lines text ls all none
    ∙ first_behind (twice (definitions ls)) (behind_labels ls)
    (of_option (option_map label_twice (defined_again [] (definitions ls))) ∙ ap (option_map label_twice) once)

-- a map that answers as the definitions do is the map of the definitions
same_labels : (labels : Labels) (ls : List Line) → ((name : List ℕ) → labels name ≡ place_of (definitions ls) name)
    → labels ≡ place_of (definitions ls)
same_labels labels ls h = λ i name. h name i

-- where no label is defined again either, the first fault of a target does
pub refused_target : (text : List ℕ) (ls : List Line) (labels : Labels) (ws : List Written) (e : AsmRefusal) → numbered text ≡ ls
    → line_faults ls ≡ []
    → defined_again [] (definitions ls) ≡ None → ((name : List ℕ) → labels name ≡ place_of (definitions ls) name)
    → ws ≡ instructions ls
    → first_of (all_target_faults labels ws) ≡ Some e → first_refusal text ≡ Some e
refused_target text ls labels ws e all none once same written h =
    past_labels text ls all none once
    ∙ first_here (all_target_faults (place_of (definitions ls)) (instructions ls)) (too_many (instructions ls)) e
    (sym (ap (λ l. first_of (all_target_faults l (instructions ls))) (same_labels labels ls same)
    ∙ refl) ∙ ap (λ v. first_of (all_target_faults labels v)) (sym written) ∙ h)

past_targets : (text : List ℕ) (ls : List Line) (labels : Labels) (ws : List Written) → numbered text ≡ ls → line_faults ls ≡ []
    → defined_again [] (definitions ls) ≡ None → ((name : List ℕ) → labels name ≡ place_of (definitions ls) name)
    → ws ≡ instructions ls
    → first_of (all_target_faults labels ws) ≡ None → first_refusal text ≡ first_of (too_many (instructions ls))
past_targets text ls labels ws all none once same written h =
    past_labels text ls all none once
    ∙ first_behind (all_target_faults (place_of (definitions ls)) (instructions ls)) (too_many (instructions ls))
    (sym (ap (λ l. first_of (all_target_faults l (instructions ls))) (same_labels labels ls same))
    ∙ ap (λ v. first_of (all_target_faults labels v)) (sym written) ∙ h)

-- the 4097th instruction, where nothing else is wrong
pub refused_length : (text : List ℕ) (ls : List Line) (labels : Labels) (is : List Instruction) (i : Instruction)
    → numbered text ≡ ls → line_faults ls ≡ []
    → defined_again [] (definitions ls) ≡ None → ((name : List ℕ) → labels name ≡ place_of (definitions ls) name)
    → map instruction_view is ≡ instructions ls
    → first_of (all_target_faults labels (map instruction_view is)) ≡ None → 4096 < length is → i ≡ get_or is 4096 i
    → first_refusal text ≡ Some (TooMany i.line)
refused_length text ls labels is i all none once same written h long here =
    let there : slice_get (instructions ls) 4096 ≡ Some (instruction_view i) =
    ap (λ ws. slice_get ws 4096) (sym written) ∙ slice_get-map instruction_view is 4096
    ∙ ap (option_map instruction_view) (slice_get_read is (length is) 4096 i refl long here) in
    past_targets text ls labels (map instruction_view is) all none once same written h ∙ rw there

-- a text without a fault
pub faultless_text : (text : List ℕ) (ls : List Line) (labels : Labels) (is : List Instruction) (code : List Raw)
    → numbered text ≡ ls → line_faults ls ≡ []
    → defined_again [] (definitions ls) ≡ None → ((name : List ℕ) → labels name ≡ place_of (definitions ls) name)
    → map instruction_view is ≡ instructions ls
    → first_of (all_target_faults labels (map instruction_view is)) ≡ None → length is ≤ 4096
    → code ≡ map (raw_at labels) (enumerate_from 0 (map instruction_view is)) → Assembles text code
faultless_text text ls labels is code all none once same written h short made =
    let few : length (instructions ls) ≤ 4096 = let e : length (map instruction_view is) ≡ length (instructions ls) =
    ap length written in
    let m : length (map instruction_view is) ≡ length is = length-map is instruction_view in omega arith in
    record {
      faultless = past_targets text ls labels (map instruction_view is) all none once same written h
          ∙ rw (slice_get_past (instructions ls) 4096 few);
      means =
          made ∙ ap (λ ws. map (raw_at labels) (enumerate_from 0 ws)) written
          ∙ ap (λ l. map (raw_at l) (enumerate_from 0 (instructions ls))) (same_labels labels ls same)
          ∙ sym (ap code_of all);
    }

-- no label stands behind the last of at most 4096 instructions
pub all_inside : (ls : List Line) (labels : Labels) (is : List Instruction)
    → ((name : List ℕ) → labels name ≡ place_of (definitions ls) name)
    → map instruction_view is ≡ instructions ls → length is ≤ 4096 → (name : List ℕ) → unwrap_or (labels name) 0 ≤ 4096
all_inside ls labels is same written short name =
    let e : length (map instruction_view is) ≡ length (instructions ls) = ap length written in
    let m : length (map instruction_view is) ≡ length is = length-map is instruction_view in
    let inside : unwrap_or (place_of (definitions ls) name) 0 ≤ 0 + length (instructions ls) = places_inside name 0 ls in
    let here : unwrap_or (labels name) 0 ≡ unwrap_or (place_of (definitions ls) name) 0 = ap (λ p. unwrap_or p 0) (same name) in
    omega arith
