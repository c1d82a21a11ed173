-- What is left to show of one instruction, for its line to be read back.
use Rattle.std.proofs.Common.{◌≡◌, ℕ, ◌+◌, ◌-◌, ◌^◌, ◌<◌, ◌≤◌, Bool, true, false, ◌&&◌, nat_le, nat_lt}
use Rattle.std.proofs.Common.{List, [], ◌∷◌, ◌++◌, codes, Option, Some, None, refl, sym, ap, ◌∙◌, arith}
use Rattle.std.specs.List.{list_all}
use Rattle.std.specs.Fmt.{decimal}
use Rattle.std.proofs.lemmas.Bool.Decides.{nat_tests}
use Rattle.gw_insn.specs.declared.insn.Insn.{Insn}
use Rattle.gw_insn.specs.Table.{raw_of}
use Rattle.gw_text.specs.AssemblerTokens.{is_name_character, is_token_character, is_word, starts_as, tokens_of}
use Rattle.gw_text.specs.AssemblerForms.{Form, form_of, forms_of, is_known_word, k_of, labels_at, same_text}
use Rattle.gw_text.specs.Assembly.{Written, Labels, is_label, starts_with_label, line_labels, after_labels, instruction_fault}
use Rattle.gw_text.specs.Assembly.{written_as, target_fault, target_faults, distance, encoded, is_always}
use Rattle.gw_text.specs.Disassembly.{label, instruction_text}
use Rattle.gw_text.proofs.Printed.{IsPrinted, printed_decimal, name_token}
use Rattle.gw_text.proofs.RoundTrip.{Reads, Finds}

-- the line of an instruction at place s
abbrev pub line_text : ℕ → Insn → List ℕ
line_text s insn = label s ++ (codes ":\t" ++ instruction_text s (raw_of insn))

-- one text of token characters behind another is such a text
pub both_chars : (xs ys : List ℕ) → list_all is_token_character xs ≡ true → list_all is_token_character ys ≡ true
    → list_all is_token_character (xs ++ ys) ≡ true
both_chars [] ys h k = k
both_chars (c ∷ cs) ys h k =
    let first : is_token_character c ≡ true = grind (arith, nat_tests) in
    let more : list_all is_token_character cs ≡ true = grind (arith, nat_tests) in
    rw (first, both_chars cs ys more k)

-- the characters of names are token characters
pub name_chars : (xs : List ℕ) → list_all is_name_character xs ≡ true → list_all is_token_character xs ≡ true
name_chars [] h = refl
name_chars (c ∷ cs) h =
    let first : is_name_character c ≡ true = grind (arith, nat_tests) in
    let more : list_all is_name_character cs ≡ true = grind (arith, nat_tests) in
    rw (first, name_chars cs more)

-- a label has token characters alone
pub label_chars : (n : ℕ) → n < 2 ^ 64 → list_all is_token_character (label n) ≡ true
label_chars n small =
    let p : IsPrinted n (decimal n) = printed_decimal n small in
    name_chars (label n) (rw p.spelled p.name)

-- a label is one token
pub label_token : (n : ℕ) (rest : List ℕ) → n < 2 ^ 64 → starts_as is_name_character rest ≡ false → tokens_of (label n ++ rest)
    ≡ label n ∷ tokens_of rest
label_token n rest small ends =
    let p : IsPrinted n (decimal n) = printed_decimal n small in
    let names : list_all is_name_character (decimal n) ≡ true = rw p.spelled p.name in
    name_token 108 (decimal n) rest names ends

-- the instruction at place s of code of length n, whose text is a word and operands
pub record ReadsAlone (n s : ℕ) (insn : Insn) (word : List ℕ) (operands : List (List ℕ)) (w : Written) : Type 0 where
  pub small : s < 2 ^ 32
  pub chars : list_all is_token_character (instruction_text s (raw_of insn)) ≡ true
  pub split : tokens_of (instruction_text s (raw_of insn)) ≡ word ∷ operands
  pub unlabelled : starts_with_label (word ∷ operands) ≡ false
  pub faultless : instruction_fault (s + 1) (word ∷ operands) ≡ None
  pub written : written_as (s + 1) (word ∷ operands) ≡ Some w
  pub leads : (labels : Labels) → Finds n labels → target_faults labels (s, w) ≡ []
  pub encodes : (labels : Labels) → Finds n labels → encoded labels s w.jump w w.targets ≡ raw_of insn

after_label : (rest : List ℕ) → tokens_of (58 ∷ 9 ∷ rest) ≡ codes ":" ∷ tokens_of rest
after_label rest = refl

no_labels : (ts : List (List ℕ)) → starts_with_label ts ≡ false → line_labels ts ≡ []
no_labels [] h = refl
no_labels (t ∷ []) h = refl
no_labels (t ∷ u ∷ ts) h = rw h

all_stay : (ts : List (List ℕ)) → starts_with_label ts ≡ false → after_labels ts ≡ ts
all_stay [] h = refl
all_stay (t ∷ []) h = refl
all_stay (t ∷ u ∷ ts) h = rw h

-- a line whose word and operands read as an instruction reads as it, behind its label
pub reads_line : (n s : ℕ) (insn : Insn) (word : List ℕ) (operands : List (List ℕ)) (w : Written)
    → ReadsAlone n s insn word operands w → Reads n s insn (line_text s insn) w
reads_line n s insn word operands w r =
    let text = instruction_text s (raw_of insn) in
    let split : tokens_of (line_text s insn) ≡ label s ∷ codes ":" ∷ word ∷ operands =
    label_token s (codes ":\t" ++ text) (omega (arith, r.small)) refl
    ∙ ap (λ ts. label s ∷ ts) (after_label text ∙ ap (λ ts. codes ":" ∷ ts) r.split) in
    let chars : list_all is_token_character (line_text s insn) ≡ true =
    both_chars (label s) (codes ":\t" ++ text) (label_chars s (omega (arith, r.small))) r.chars in
    let stay : after_labels (word ∷ operands) ≡ word ∷ operands = all_stay (word ∷ operands) r.unlabelled in
    record {
      chars = chars;
      faultless = rw (chars, split, stay) r.faultless;
      labelled = rw (split, no_labels (word ∷ operands) r.unlabelled);
      written = rw (split, stay) r.written;
      leads = r.leads;
      encodes = r.encodes;
    }

-- operands that fit a form of their word, and whose number is k, have no fault and are the instruction of the form
pub known : (word : List ℕ) (operands : List (List ℕ)) (form : Form) → form_of word operands ≡ Some form
    → is_known_word word ≡ true
known word operands form h = go (forms_of word) refl
  where
    go : (fs : Option (List Form)) → forms_of word ≡ fs → is_known_word word ≡ true
    go (Some fs) e = rw e
    go None e = absurd (let no : None ≡ Some form = sym (rw e) ∙ h in cc)

-- such a line has no fault
pub fits_faultless : (line : ℕ) (word : List ℕ) (operands : List (List ℕ)) (form : Form) (k : ℕ)
    → form_of word operands ≡ Some form
    → k_of form.pieces operands form.constant ≡ Some k → instruction_fault line (word ∷ operands) ≡ None
fits_faultless line word operands form k fits number = rw (known word operands form fits, fits, number)

-- such a line is written as the code of the form
pub fits_written : (line : ℕ) (word : List ℕ) (operands : List (List ℕ)) (form : Form) (k : ℕ) → form_of word operands ≡ Some form
    → k_of form.pieces operands form.constant ≡ Some k
    → written_as line (word ∷ operands)
    ≡ Some (record { line = line; code = form.code; jump = form.jump; k = k; targets = labels_at form.pieces operands })
fits_written line word operands form k fits number = rw (fits, number)

-- a word and a token that is no colon are no label
pub no_colon : (word next : List ℕ) → same_text next (codes ":") ≡ false → is_label word next ≡ false
no_colon word next h = go (is_word word)
  where
    go : (b : Bool) → (b && same_text next (codes ":")) ≡ false
    go true = h
    go false = refl

-- a conditional jump's label is ahead, and at most 255 instructions are between
pub target_right : (n s d : ℕ) (w : Written) (labels : Labels) → Finds n labels → is_always w.jump ≡ false → s + 1 + d < n
    → d ≤ 255
    → target_fault labels s w (label (s + 1 + d)) ≡ None
target_right n s d w labels f cond inside near =
    let ahead : nat_le (s + 1 + d) s ≡ false = grind (arith, nat_tests) in
    let close : nat_lt 255 (s + 1 + d - (s + 1)) ≡ false = grind (arith, nat_tests) in
    rw (f (s + 1 + d) inside, ahead, cond, close)

-- the label of a jump is ahead
pub jump_right : (n s d : ℕ) (w : Written) (labels : Labels) → Finds n labels → is_always w.jump ≡ true → s + 1 + d < n
    → target_fault labels s w (label (s + 1 + d)) ≡ None
jump_right n s d w labels f always inside =
    let ahead : nat_le (s + 1 + d) s ≡ false = grind (arith, nat_tests) in
    rw (f (s + 1 + d) inside, ahead, always)

-- how many instructions stand before that label
pub distance_right : (n s d : ℕ) (labels : Labels) → Finds n labels → s + 1 + d < n → distance labels s (label (s + 1 + d)) ≡ d
distance_right n s d labels f inside = rw (f (s + 1 + d) inside) (omega arith)
