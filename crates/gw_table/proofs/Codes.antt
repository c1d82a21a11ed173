-- Instructions and their fields.
use Rattle.std.proofs.Common.{◌≡◌, ℕ, ◌+◌, ◌<◌, List, [], ◌∷◌, ◌++◌, length, map, take, get_or, Some, refl, sym, ap, ◌∙◌}
use Rattle.std.proofs.Common.{add-one, append-nil}
use Rattle.std.specs.List.{flat_map}
use Rattle.std.proofs.Math.Seq.{take-suc}
use Rattle.std.proofs.lemmas.Grind.{flat_map-append}
use Rattle.std.proofs.lemmas.List.{append_assoc, map-append}
use Rattle.gw_insn.specs.declared.insn.Raw.{Raw}
use Rattle.gw_insn.specs.declared.insn.Insn.{Insn}
use Rattle.gw_insn.specs.Table.{insn_of, raw_of}
use Rattle.gw_insn.proofs.Callers.{insn_of-raw_of}
use Rattle.gw_verify.specs.Flow.{forms_of, program_forms}
use Rattle.gw_table.specs.declared.table.Rule.{Rule}
use Rattle.gw_table.specs.Emission.{rule_code, body, group_code}

-- the fields of instructions, decoded
pub forms_of-map : (code : List Insn) → forms_of (map raw_of code) ≡ program_forms code
forms_of-map [] = refl
forms_of-map (insn ∷ rest) = rw (insn_of-raw_of insn, forms_of-map rest)

-- one instruction more
pub insn_pushed : (insns : List Insn) (i : ℕ) (d : Insn) (start now new : List Raw) (raw : Raw) → i < length insns
    → now ≡ start ++ map raw_of (take i insns) → raw ≡ raw_of (get_or insns i d) → new ≡ now ++ raw ∷ []
    → new ≡ start ++ map raw_of (take (i + 1) insns)
insn_pushed insns i d start now new raw within so_far is pushed =
    pushed ∙ ap (λ code. code ++ raw ∷ []) so_far ∙ append_assoc start (map raw_of (take i insns)) (raw ∷ [])
    ∙ ap (λ r. start ++ (map raw_of (take i insns) ++ r ∷ [])) is
    ∙ ap (λ code. start ++ code) (sym (map-append raw_of (take i insns) (get_or insns i d ∷ [])))
    ∙ ap (λ more. start ++ map raw_of more) (sym (ap (λ n. take n insns) (add-one i) ∙ take-suc insns i d within))

-- the code of one rule more
pub rule_pushed : (rules : List Rule) (i : ℕ) (d : Rule) (start now new : List Raw) → i < length rules
    → now ≡ start ++ map raw_of (body (take i rules)) → new ≡ now ++ map raw_of (rule_code (get_or rules i d))
    → new ≡ start ++ map raw_of (body (take (i + 1) rules))
rule_pushed rules i d start now new within so_far pushed =
    let rule = get_or rules i d in
    let before = body (take i rules) in
    let more : body (take (i + 1) rules) ≡ before ++ rule_code rule =
    ap body (ap (λ n. take n rules) (add-one i) ∙ take-suc rules i d within)
    ∙ flat_map-append rule_code (take i rules) (rule ∷ []) ∙ ap (λ code. before ++ code) (append-nil (rule_code rule)) in
    pushed ∙ ap (λ code. code ++ map raw_of (rule_code rule)) so_far
    ∙ append_assoc start (map raw_of before) (map raw_of (rule_code rule))
    ∙ ap (λ code. start ++ code) (sym (map-append raw_of before (rule_code rule)) ∙ ap (map raw_of) (sym more))

-- code that goes on with a group, once the group is there
pub group_pushed : (before after whole : List Raw) (rules : List Rule) (groups : List (List Rule)) (last : List Insn)
    → after ≡ before ++ map raw_of (group_code rules)
    → before ++ map raw_of (flat_map group_code (rules ∷ groups) ++ last) ≡ whole
    → after ++ map raw_of (flat_map group_code groups ++ last) ≡ whole
group_pushed before after whole rules groups last pushed goes_on =
    ap (λ code. code ++ map raw_of (flat_map group_code groups ++ last)) pushed
    ∙ append_assoc before (map raw_of (group_code rules)) (map raw_of (flat_map group_code groups ++ last))
    ∙ ap (λ code. before ++ code) (sym (map-append raw_of (group_code rules) (flat_map group_code groups ++ last)))
    ∙ ap (λ code. before ++ map raw_of code) (sym (append_assoc (group_code rules) (flat_map group_code groups) last))
    ∙ goes_on

-- decoded code, beside the instructions that it was encoded from
same_insns : (xs ys : List Insn) → map Some xs ≡ map Some ys → xs ≡ ys
same_insns [] [] e = refl
same_insns [] (y ∷ ys) e = absurd (cc)
same_insns (x ∷ xs) [] e = absurd (cc)
same_insns (x ∷ xs) (y ∷ ys) e =
    let first : x ≡ y = cc in
    let later : xs ≡ ys = same_insns xs ys (cc) in
    λ i. first i ∷ later i

insns_of-map : (code : List Insn) → map insn_of (map raw_of code) ≡ map Some code
insns_of-map [] = refl
insns_of-map (insn ∷ rest) = rw (insn_of-raw_of insn, insns_of-map rest) refl

-- a program that decodes the fields of a code is that code
pub program_of : (program code : List Insn) (raws : List Raw) → raws ≡ map raw_of code → map Some program ≡ map insn_of raws
    → program ≡ code
program_of program code raws e decoded = same_insns program code (decoded ∙ ap (map insn_of) e ∙ insns_of-map code)
