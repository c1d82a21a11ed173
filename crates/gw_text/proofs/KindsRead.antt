-- Each kind of operand, as the disassembler writes it, is read back.
use Rattle.std.proofs.Common.{◌≡◌, ℕ, ◌+◌, ◌^◌, ◌<◌, ◌≤◌, true, false, nat_le, List, [], ◌∷◌, ◌++◌}
use Rattle.std.proofs.Common.{codes, Some, refl, sym, ap, ◌∙◌, arith, append-nil}
use Rattle.std.specs.List.{list_all}
use Rattle.std.specs.Fmt.{digits, decimal}
use Rattle.std.proofs.lemmas.Bool.Decides.{nat_tests}
use Rattle.gw_insn.specs.declared.insn.Insn.{Insn}
use Rattle.gw_insn.specs.declared.insn.Insn.TheVariants as insn
use Rattle.gw_insn.specs.Table.{raw_of, fields}
use Rattle.gw_text.specs.declared.forms.Jump.TheVariants.{NoJump, Always, Either}
use Rattle.gw_text.specs.AssemblerTokens.{is_name_character, is_token_character, is_digit, starts_as, tokens_of, number_value}
use Rattle.gw_text.specs.AssemblerForms.{Piece, number, mark, comma_label, spelled, Form, form_of, k_at, k_of, labels_at}
use Rattle.gw_text.specs.Assembly.{Written, Labels, starts_with_label, target_faults}
use Rattle.gw_text.specs.Disassembly.{label, branches_at, instruction_text}
use Rattle.gw_text.proofs.Printed.{IsPrinted, hex_names, printed_hex, printed_decimal, name_token}
use Rattle.gw_text.proofs.RoundTrip.{Finds}
use Rattle.gw_text.proofs.InstructionReads.{ReadsAlone, both_chars, name_chars, label_chars, label_token, fits_faultless}
use Rattle.gw_text.proofs.InstructionReads.{fits_written, no_colon, target_right, jump_right, distance_right}

-- a number as the disassembler writes it: `0x` and its digits
abbrev pub hex : ℕ → List ℕ
hex n = 48 ∷ 120 ∷ digits 16 false n

-- a form without labels
abbrev pub plain_form : ℕ → List Piece → Form
plain_form code pieces = record { pieces = pieces; code = code; jump = NoJump; constant = 0 }

-- an instruction without labels
abbrev pub written : ℕ → ℕ → ℕ → Written
written s code k = record { line = s + 1; code = code; jump = NoJump; k = k; targets = [] }

-- a number's token gives the field k
pub number_piece : (token : List ℕ) (n : ℕ) → number_value token ≡ Some n → n < 2 ^ 32 → k_at number token 0 ≡ Some n
number_piece token n value small =
    let fits : nat_le n 0xffffffff ≡ true = grind (arith, nat_tests) in
    let low : nat_le 0 n ≡ true = grind (arith, nat_tests) in
    rw (value, low, fits) refl

-- the value of such a number
pub hex_value : (k : ℕ) → k < 2 ^ 32 → number_value (hex k) ≡ Some k
hex_value k fits = let p : IsPrinted k (hex k) = printed_hex k fits in ap number_value p.spelled ∙ p.value

-- an instruction whose text is the same at every place
pub reads_fixed : (n s k : ℕ) (i : Insn) (word : List ℕ) (operands : List (List ℕ)) (form : Form) → s < 2 ^ 32
    → list_all is_token_character (instruction_text s (raw_of i)) ≡ true → tokens_of (instruction_text s (raw_of i)) ≡ word
    ∷ operands
    → starts_with_label (word ∷ operands) ≡ false → form_of word operands ≡ Some form → k_of form.pieces operands form.constant
    ≡ Some k
    → form.jump ≡ NoJump → labels_at form.pieces operands ≡ [] → fields form.code 0 0 k ≡ raw_of i
    → ReadsAlone n s i word operands (written s form.code k)
reads_fixed n s k i word operands form small chars split unlabelled fits field plain none raw = record {
  small = small;
  chars = chars;
  split = split;
  unlabelled = unlabelled;
  faultless = fits_faultless (s + 1) word operands form k fits field;
  written = fits_written (s + 1) word operands form k fits field ∙ rw (plain, none);
  leads = λ labels f. refl;
  encodes = λ labels f. raw;
}

-- `#0x` and a number
pub reads_number : (n s k : ℕ) (i : Insn) (c : ℕ) (cs : List ℕ) (code : ℕ) → s < 2 ^ 32 → k < 2 ^ 32
    → fields code 0 0 k ≡ raw_of i → instruction_text s (raw_of i) ≡ (c ∷ cs) ++ (32 ∷ 35 ∷ hex k)
    → list_all is_name_character (c ∷ cs) ≡ true
    → form_of (c ∷ cs) (codes "#" ∷ hex k ∷ []) ≡ Some (plain_form code (mark (codes "#") ++ number ∷ []))
    → ReadsAlone n s i (c ∷ cs) (codes "#" ∷ hex k ∷ []) (written s code k)
reads_number n s k i c cs code small fits raw text names form =
    let operands : List (List ℕ) = codes "#" ∷ hex k ∷ [] in
    let value : k_of (mark (codes "#") ++ number ∷ []) operands 0 ≡ Some k =
    rw (number_piece (hex k) k (hex_value k fits) fits) refl in
    let token : tokens_of (hex k) ≡ hex k ∷ [] =
    ap tokens_of (sym (append-nil (hex k))) ∙ name_token 48 (120 ∷ digits 16 false k) [] (hex_names k fits) refl in
    record {
      small = small;
      chars = rw text (both_chars (c ∷ cs) (32 ∷ 35 ∷ hex k) (name_chars (c ∷ cs) names)
          (name_chars (digits 16 false k) (hex_names k fits)));
      split =
          ap tokens_of text ∙ name_token c cs (32 ∷ 35 ∷ hex k) names refl ∙ ap (λ ts. (c ∷ cs) ∷ codes "#" ∷ ts) token;
      unlabelled = no_colon (c ∷ cs) (codes "#") refl;
      faultless = fits_faultless (s + 1) (c ∷ cs) operands _ k form value;
      written = fits_written (s + 1) (c ∷ cs) operands _ k form value;
      leads = λ labels f. refl;
      encodes = λ labels f. raw;
    }

-- a decimal number with marks before and behind it
pub reads_decimal : (n s k : ℕ) (i : Insn) (c : ℕ) (cs : List ℕ) (code : ℕ) (front behind : List ℕ) (pre post : List (List ℕ))
    (pieces : List Piece)
    → s < 2 ^ 32 → k < 2 ^ 32 → fields code 0 0 k ≡ raw_of i → instruction_text s (raw_of i) ≡ (c ∷ cs)
    ++ (32 ∷ (front ++ (decimal k ++ behind)))
    → list_all is_name_character (c ∷ cs) ≡ true → list_all is_token_character front ≡ true → list_all is_token_character behind
    ≡ true
    → ((rest : List ℕ) → tokens_of (front ++ rest) ≡ pre ++ tokens_of rest) → starts_as is_name_character behind ≡ false
    → tokens_of behind ≡ post
    → ((t : List ℕ) → starts_with_label ((c ∷ cs) ∷ (pre ++ t ∷ post)) ≡ false)
    → ((d : ℕ) (ds : List ℕ) → is_digit d ≡ true → form_of (c ∷ cs) (pre ++ (d ∷ ds) ∷ post) ≡ Some (plain_form code pieces))
    → ((t : List ℕ) → k_at number t 0 ≡ Some k → k_of pieces (pre ++ t ∷ post) 0 ≡ Some k)
    → ((t : List ℕ) → labels_at pieces (pre ++ t ∷ post) ≡ [])
    → ReadsAlone n s i (c ∷ cs) (pre ++ decimal k ∷ post) (written s code k)
reads_decimal n s k i c cs code front behind pre post pieces small fits raw text names front_chars behind_chars front_read ends
    behind_read unlabelled form value none =
    let p : IsPrinted k (decimal k) = printed_decimal k (omega arith) in
    let digits_names : list_all is_name_character (decimal k) ≡ true = rw p.spelled p.name in
    let operands : List (List ℕ) = pre ++ decimal k ∷ post in
    let fits_form : form_of (c ∷ cs) operands ≡ Some (plain_form code pieces) =
    ap (λ t. form_of (c ∷ cs) (pre ++ t ∷ post)) p.spelled ∙ form p.first p.more p.digit in
    let is_k : k_of pieces operands 0 ≡ Some k =
    value (decimal k) (number_piece (decimal k) k (ap number_value p.spelled ∙ p.value) fits) in
    let token : tokens_of (decimal k ++ behind) ≡ decimal k ∷ tokens_of behind =
    rw p.spelled (name_token p.first p.more behind p.name ends) in
    record {
      small = small;
      chars =
          rw text (both_chars (c ∷ cs) (32 ∷ (front ++ (decimal k ++ behind))) (name_chars (c ∷ cs) names)
          (both_chars front (decimal k ++ behind) front_chars (both_chars (decimal k) behind (name_chars (decimal k) digits_names)
          behind_chars)));
      split =
          ap tokens_of text ∙ name_token c cs (32 ∷ (front ++ (decimal k ++ behind))) names refl
          ∙ ap (λ ts. (c ∷ cs) ∷ ts) (front_read (decimal k ++ behind)
          ∙ ap (λ ts. pre ++ ts) (token ∙ ap (λ ts. decimal k ∷ ts) behind_read));
      unlabelled = unlabelled (decimal k);
      faultless = fits_faultless (s + 1) (c ∷ cs) operands _ k fits_form is_k;
      written =
          fits_written (s + 1) (c ∷ cs) operands _ k fits_form is_k
          ∙ ap (λ ts. Some (record { line = s + 1; code = code; jump = NoJump; k = k; targets = ts })) (none (decimal k));
      leads = λ labels f. refl;
      encodes = λ labels f. raw;
    }

-- the two labels of a conditional jump
abbrev pub branch_tokens : ℕ → ℕ → ℕ → List (List ℕ)
branch_tokens s jt jf = codes "," ∷ label (s + 1 + jt) ∷ codes "," ∷ label (s + 1 + jf) ∷ []

comma_space : (rest : List ℕ) → tokens_of (44 ∷ 32 ∷ rest) ≡ codes "," ∷ tokens_of rest
comma_space rest = refl

branches_read : (s jt jf : ℕ) → s + 1 + jt < 2 ^ 64 → s + 1 + jf < 2 ^ 64 → tokens_of (branches_at s jt jf)
    ≡ branch_tokens s jt jf
branches_read s jt jf one other =
    let la = label (s + 1 + jt) in
    let lb = label (s + 1 + jf) in
    let last : tokens_of lb ≡ lb ∷ [] = ap tokens_of (sym (append-nil lb)) ∙ label_token (s + 1 + jf) [] other refl in
    let first : tokens_of (la ++ (codes ", " ++ lb)) ≡ la ∷ codes "," ∷ lb ∷ [] =
    label_token (s + 1 + jt) (codes ", " ++ lb) one refl ∙ ap (λ ts. la ∷ codes "," ∷ ts) last in
    let all : tokens_of (branches_at s jt jf) ≡ codes "," ∷ tokens_of (la ++ (codes ", " ++ lb)) =
    comma_space (la ++ (codes ", " ++ lb)) in
    all ∙ ap (λ ts. codes "," ∷ ts) first

branches_chars : (s jt jf : ℕ) → s + 1 + jt < 2 ^ 64 → s + 1 + jf < 2 ^ 64 → list_all is_token_character (branches_at s jt jf)
    ≡ true
branches_chars s jt jf one other =
    both_chars (label (s + 1 + jt)) (codes ", " ++ label (s + 1 + jf)) (label_chars (s + 1 + jt) one)
    (label_chars (s + 1 + jf) other)

-- a conditional jump with both labels
abbrev pub branching : ℕ → ℕ → ℕ → ℕ → ℕ → Written
branching s code jt jf k = record {
  line = s + 1;
  code = code;
  jump = Either;
  k = k;
  targets =
      label (s + 1 + jt) ∷ label (s + 1 + jf) ∷ [];
}

-- a form with both labels
abbrev pub branch_form : ℕ → List Piece → Form
branch_form code pieces = record { pieces = pieces ++ (comma_label ++ comma_label); code = code; jump = Either; constant = 0 }

-- both targets of a conditional jump
branch_leads : (n s code jt jf k : ℕ) (labels : Labels) → Finds n labels → jt ≤ 255 → jf ≤ 255 → s + 1 + jt < n → s + 1 + jf < n
    → target_faults labels (s, branching s code jt jf k) ≡ []
branch_leads n s code jt jf k labels f near other inside last =
    rw (
      target_right n s jt (branching s code jt jf k) labels f refl inside near,
      target_right n s jf (branching s code jt jf k) labels f refl last other,
    )

-- a conditional jump on a number
pub reads_branch : (n s jt jf k : ℕ) (i : Insn) (c : ℕ) (cs : List ℕ) (code : ℕ) → s < 2 ^ 32 → k < 2 ^ 32 → jt ≤ 255 → jf ≤ 255
    → s + 1 + jt < n → s + 1 + jf < n
    → fields code jt jf k ≡ raw_of i → instruction_text s (raw_of i) ≡ (c ∷ cs) ++ (32 ∷ 35 ∷ (hex k ++ branches_at s jt jf))
    → list_all is_name_character (c ∷ cs) ≡ true
    → form_of (c ∷ cs) (codes "#" ∷ hex k ∷ branch_tokens s jt jf) ≡ Some (branch_form code (mark (codes "#") ++ number ∷ []))
    → ReadsAlone n s i (c ∷ cs) (codes "#" ∷ hex k ∷ branch_tokens s jt jf) (branching s code jt jf k)
reads_branch n s jt jf k i c cs code small fits near other inside last raw text names form =
    let operands : List (List ℕ) = codes "#" ∷ hex k ∷ branch_tokens s jt jf in
    let value : k_of (mark (codes "#") ++ (number ∷ (comma_label ++ comma_label))) operands 0 ≡ Some k =
    rw (number_piece (hex k) k (hex_value k fits) fits) refl in
    let token : tokens_of (hex k ++ branches_at s jt jf) ≡ hex k ∷ branch_tokens s jt jf =
    name_token 48 (120 ∷ digits 16 false k) (branches_at s jt jf) (hex_names k fits) refl
    ∙ ap (λ ts. hex k ∷ ts) (branches_read s jt jf (omega arith) (omega arith)) in
    record {
      small = small;
      chars =
          rw text (both_chars (c ∷ cs) (32 ∷ 35 ∷ (hex k ++ branches_at s jt jf)) (name_chars (c ∷ cs) names)
          (both_chars (digits 16 false k) (branches_at s jt jf) (name_chars (digits 16 false k) (hex_names k fits))
          (branches_chars s jt jf (omega arith) (omega arith))));
      split =
          ap tokens_of text ∙ name_token c cs (32 ∷ 35 ∷ (hex k ++ branches_at s jt jf)) names refl
          ∙ ap (λ ts. (c ∷ cs) ∷ codes "#" ∷ ts) token;
      unlabelled = no_colon (c ∷ cs) (codes "#") refl;
      faultless = fits_faultless (s + 1) (c ∷ cs) operands _ k form value;
      written = fits_written (s + 1) (c ∷ cs) operands _ k form value;
      leads = λ labels f. branch_leads n s code jt jf k labels f near other inside last;
      encodes = λ labels f. rw (distance_right n s jt labels f inside, distance_right n s jf labels f last) raw;
    }

-- a conditional jump on the index register
pub reads_branch_x : (n s jt jf : ℕ) (i : Insn) (c : ℕ) (cs : List ℕ) (code : ℕ) → s < 2 ^ 32 → jt ≤ 255 → jf ≤ 255
    → s + 1 + jt < n → s + 1 + jf < n
    → fields code jt jf 0 ≡ raw_of i → instruction_text s (raw_of i) ≡ (c ∷ cs) ++ (32 ∷ 120 ∷ branches_at s jt jf)
    → list_all is_name_character (c ∷ cs) ≡ true
    → form_of (c ∷ cs) (codes "x" ∷ branch_tokens s jt jf) ≡ Some (branch_form code (spelled (codes "x") ∷ []))
    → ReadsAlone n s i (c ∷ cs) (codes "x" ∷ branch_tokens s jt jf) (branching s code jt jf 0)
reads_branch_x n s jt jf i c cs code small near other inside last raw text names form =
    let operands : List (List ℕ) = codes "x" ∷ branch_tokens s jt jf in
    record {
      small = small;
      chars =
          rw text (both_chars (c ∷ cs) (32 ∷ 120 ∷ branches_at s jt jf) (name_chars (c ∷ cs) names)
          (branches_chars s jt jf (omega arith) (omega arith)));
      split =
          ap tokens_of text ∙ name_token c cs (32 ∷ 120 ∷ branches_at s jt jf) names refl
          ∙ ap (λ ts. (c ∷ cs) ∷ codes "x" ∷ ts) (branches_read s jt jf (omega arith) (omega arith));
      unlabelled = no_colon (c ∷ cs) (codes "x") refl;
      faultless = fits_faultless (s + 1) (c ∷ cs) operands _ 0 form refl;
      written = fits_written (s + 1) (c ∷ cs) operands _ 0 form refl;
      leads = λ labels f. branch_leads n s code jt jf 0 labels f near other inside last;
      encodes = λ labels f. rw (distance_right n s jt labels f inside, distance_right n s jf labels f last) raw;
    }

-- a jump
pub reads_jump : (n s k : ℕ) → s < 2 ^ 32 → k < 2 ^ 32 → s + 1 + k < n
    → ReadsAlone n s (insn.Jump k) (codes "jmp") (label (s + 1 + k) ∷ []) (record {
      line = s + 1;
      code = 0x05;
      jump = Always;
      k =
          0;
      targets = label (s + 1 + k) ∷ [];
    })
reads_jump n s k small fits inside = record {
  small = small;
  chars = label_chars (s + 1 + k) (omega arith);
  split =
      name_token 106 (codes "mp") (32 ∷ label (s + 1 + k)) refl refl
      ∙ ap (λ ts. codes "jmp" ∷ ts) (ap tokens_of (sym (append-nil (label (s + 1 + k))))
      ∙ label_token (s + 1 + k) [] (omega arith) refl);
  unlabelled = refl;
  faultless = refl;
  written = refl;
  leads = λ labels f. rw (jump_right n s k (record {
    line = s + 1;
    code = 0x05;
    jump = Always;
    k = 0;
    targets =
        label (s + 1 + k) ∷ [];
  }) labels f refl inside);
  encodes = λ labels f. rw (distance_right n s k labels f inside);
}
