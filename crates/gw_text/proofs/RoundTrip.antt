-- A text whose lines read back assembles to its program.
use Rattle.std.proofs.Common.{◌≡◌, ℕ, suc, ◌+◌, ◌<◌, ◌≤◌, true, List, [], ◌∷◌, ◌++◌, map, length}
use Rattle.std.proofs.Common.{flat_map, Some, None, refl, sym, ap, ◌∙◌, arith}
use Rattle.std.specs.List.{enumerate_from, slice_get, list_all}
use Rattle.std.proofs.lemmas.Option.{slice_get_past}
use Rattle.gw_insn.specs.declared.insn.Insn.{Insn}
use Rattle.gw_insn.specs.Table.{raw_of}
use Rattle.gw_text.specs.AssemblerTokens.{lines_of, is_token_character}
use Rattle.gw_text.specs.Assembly.{Line, Written, Labels, numbered, lines_from, line_fault, line_faults, labels_on}
use Rattle.gw_text.specs.Assembly.{written_on, instructions, definitions, definitions_from, place_of, target_faults, encoded}
use Rattle.gw_text.specs.Assembly.{raw_at, Assembles, defined_again}
use Rattle.gw_text.specs.Disassembly.{label}
use Rattle.gw_text.proofs.PrintedLabels.{labels_from, place_found, defined_once}

-- the labels of the places below n are found there
abbrev pub Finds : ℕ → Labels → Type 0
Finds n labels = (t : ℕ) → t < n → labels (label t) ≡ Some t

-- the line of the instruction at place s reads back, in code of length n
pub record Reads (n s : ℕ) (insn : Insn) (text : List ℕ) (w : Written) : Type 0 where
  pub chars : list_all is_token_character text ≡ true
  pub faultless : line_fault (record { number = s + 1; text = text }) ≡ None
  pub labelled : labels_on (record { number = s + 1; text = text }) ≡ label s ∷ []
  pub written : written_on (record { number = s + 1; text = text }) ≡ Some w
  pub leads : (labels : Labels) → Finds n labels → target_faults labels (s, w) ≡ []
  pub encodes : (labels : Labels) → Finds n labels → encoded labels s w.jump w w.targets ≡ raw_of insn

-- the lines of the instructions from place s on read back, one by one
abbrev pub AllRead : ℕ → ℕ → List Insn → List (List ℕ) → List Written → Type 0
AllRead n s [] [] [] = Unit {0}
AllRead n s (i ∷ is) (t ∷ ts) (w ∷ ws) = Reads n s i t w × AllRead n (s + 1) is ts ws
AllRead n s _ _ _ = ⊥

-- the lines of the text, with the empty one behind the last line end
abbrev pub all_lines : ℕ → List (List ℕ) → List Line
all_lines s [] = record { number = s + 1; text = [] } ∷ []
all_lines s (t ∷ ts) = record { number = s + 1; text = t } ∷ all_lines (s + 1) ts

numbered_lines : (s : ℕ) (ts : List (List ℕ)) → lines_from (s + 1) (ts ++ [] ∷ []) ≡ all_lines s ts
numbered_lines s [] = refl
numbered_lines s (t ∷ ts) = ap (λ ls. record { number = s + 1; text = t } ∷ ls) (numbered_lines (s + 1) ts)

no_line_faults : (n s : ℕ) (is : List Insn) (ts : List (List ℕ)) (ws : List Written) → AllRead n s is ts ws
    → line_faults (all_lines s ts) ≡ []
no_line_faults n s [] [] [] h = refl
no_line_faults n s (i ∷ is) (t ∷ ts) (w ∷ ws) h = rw (h.0.faultless) (no_line_faults n (s + 1) is ts ws h.1)
no_line_faults n s [] [] (w ∷ ws) h = absurd h
no_line_faults n s [] (t ∷ ts) ws h = absurd h
no_line_faults n s (i ∷ is) [] ws h = absurd h
no_line_faults n s (i ∷ is) (t ∷ ts) [] h = absurd h

defines : (n s : ℕ) (is : List Insn) (ts : List (List ℕ)) (ws : List Written) → AllRead n s is ts ws
    → definitions_from s (all_lines s ts) ≡ labels_from s (length is)
defines n s [] [] [] h = refl
defines n s (i ∷ is) (t ∷ ts) (w ∷ ws) h =
    rw (h.0.labelled, h.0.written) (ap (λ ds. record { name = label s; place = s; line = s + 1 } ∷ ds)
    (defines n (s + 1) is ts ws h.1))
defines n s [] [] (w ∷ ws) h = absurd h
defines n s [] (t ∷ ts) ws h = absurd h
defines n s (i ∷ is) [] ws h = absurd h
defines n s (i ∷ is) (t ∷ ts) [] h = absurd h

writes : (n s : ℕ) (is : List Insn) (ts : List (List ℕ)) (ws : List Written) → AllRead n s is ts ws
    → instructions (all_lines s ts) ≡ ws
writes n s [] [] [] h = refl
writes n s (i ∷ is) (t ∷ ts) (w ∷ ws) h = rw (h.0.written) (ap (λ vs. w ∷ vs) (writes n (s + 1) is ts ws h.1))
writes n s [] [] (w ∷ ws) h = absurd h
writes n s [] (t ∷ ts) ws h = absurd h
writes n s (i ∷ is) [] ws h = absurd h
writes n s (i ∷ is) (t ∷ ts) [] h = absurd h

no_target_faults : (n s : ℕ) (is : List Insn) (ts : List (List ℕ)) (ws : List Written) (labels : Labels) → Finds n labels
    → AllRead n s is ts ws
    → flat_map (target_faults labels) (enumerate_from s ws) ≡ []
no_target_faults n s [] [] [] labels f h = refl
no_target_faults n s (i ∷ is) (t ∷ ts) (w ∷ ws) labels f h =
    rw (h.0.leads labels f) (no_target_faults n (s + 1) is ts ws labels f h.1)
no_target_faults n s [] [] (w ∷ ws) labels f h = absurd h
no_target_faults n s [] (t ∷ ts) ws labels f h = absurd h
no_target_faults n s (i ∷ is) [] ws labels f h = absurd h
no_target_faults n s (i ∷ is) (t ∷ ts) [] labels f h = absurd h

codes_back : (n s : ℕ) (is : List Insn) (ts : List (List ℕ)) (ws : List Written) (labels : Labels) → Finds n labels
    → AllRead n s is ts ws
    → map (raw_at labels) (enumerate_from s ws) ≡ map raw_of is
codes_back n s [] [] [] labels f h = refl
codes_back n s (i ∷ is) (t ∷ ts) (w ∷ ws) labels f h =
    rw (h.0.encodes labels f) (ap (λ rs. raw_of i ∷ rs) (codes_back n (s + 1) is ts ws labels f h.1))
codes_back n s [] [] (w ∷ ws) labels f h = absurd h
codes_back n s [] (t ∷ ts) ws labels f h = absurd h
codes_back n s (i ∷ is) [] ws labels f h = absurd h
codes_back n s (i ∷ is) (t ∷ ts) [] labels f h = absurd h

as_many : (n s : ℕ) (is : List Insn) (ts : List (List ℕ)) (ws : List Written) → AllRead n s is ts ws → length ws ≡ length is
as_many n s [] [] [] h = refl
as_many n s (i ∷ is) (t ∷ ts) (w ∷ ws) h = ap suc (as_many n (s + 1) is ts ws h.1)
as_many n s [] [] (w ∷ ws) h = absurd h
as_many n s [] (t ∷ ts) ws h = absurd h
as_many n s (i ∷ is) [] ws h = absurd h
as_many n s (i ∷ is) (t ∷ ts) [] h = absurd h

not_there : {X : Type 0} (xs : List X) (i : ℕ) → length xs ≤ i → slice_get xs i ≡ None
not_there xs i h = slice_get_past xs i h

-- a text whose lines all read back means the code
pub assembles_back : (text : List ℕ) (is : List Insn) (ts : List (List ℕ)) (ws : List Written) → length is ≤ 4096
    → lines_of text ≡ ts ++ [] ∷ []
    → AllRead (length is) 0 is ts ws → Assembles text (map raw_of is)
assembles_back text is ts ws short lines h =
    let n = length is in
    let all : numbered text ≡ all_lines 0 ts = ap (lines_from 1) lines ∙ numbered_lines 0 ts in
    let labels : definitions (all_lines 0 ts) ≡ labels_from 0 n = defines n 0 is ts ws h in
    let finds : Finds n (place_of (labels_from 0 n)) = λ t lt. place_found n 0 t (omega arith) (omega arith) (omega arith) in
    let once : defined_again [] (labels_from 0 n) ≡ None = defined_once n 0 [] (omega arith) (λ t low high. refl) in
    let some : instructions (all_lines 0 ts) ≡ ws = writes n 0 is ts ws h in
    let many : length ws ≡ n = as_many n 0 is ts ws h in
    record {
      faultless = rw (
        all,
        no_line_faults n 0 is ts ws h,
        labels,
        some,
        once,
        no_target_faults n 0 is ts ws (place_of (labels_from 0 n)) finds h,
        not_there ws 4096 (omega arith),
      );
      means = sym (rw (all, labels, some) (codes_back n 0 is ts ws (place_of (labels_from 0 n)) finds h));
    }
