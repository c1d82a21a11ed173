-- An emission is accepted code.
use Rattle.std.proofs.Common.{◌≡◌, ℕ, zero, suc, ◌*◌, ◌<◌, ◌≤◌, Bool, true, false, ◌&&◌, ◌||◌, not, List, [], ◌∷◌, ◌++◌, length}
use Rattle.std.proofs.Common.{inl, inr, refl, sym, ap, subst, arith, nat_le, nat_eq, leb-true}
use Rattle.std.specs.Prelude.{if◌then◌else◌}
use Rattle.std.specs.List.{flat_map}
use Rattle.std.proofs.lemmas.List.{length-append, append_assoc}
use Rattle.std.proofs.lemmas.Bool.{and_parts}
use Rattle.gw_insn.specs.declared.insn.Insn.{Insn}
use Rattle.gw_insn.specs.declared.insn.Insn.TheVariants.{LoadWord, LoadScratchA}
use Rattle.gw_insn.specs.Form.{form}
use Rattle.gw_verify.specs.declared.cause.Cause.{Cause}
use Rattle.gw_verify.specs.declared.cause.Cause.TheVariants.{OutOfMemory}
use Rattle.gw_verify.specs.Flow.{Forms, Loads, IsBare, program_forms}
use Rattle.gw_verify.specs.Accepted.{At, IsAccepted, IsRefusal}
use Rattle.gw_table.specs.declared.table.Action.{Action}
use Rattle.gw_table.specs.declared.table.Span.{Span}
use Rattle.gw_table.specs.declared.table.Rule.{Rule}
use Rattle.gw_table.specs.Table.{Meaning}
use Rattle.gw_table.specs.Emission.{return_of, prologue, is_whole, tests, tests_unless_whole, from_part, destination_part}
use Rattle.gw_table.specs.Emission.{rule_code, groups_of, body, head, group_code, emission}
use Rattle.gw_table.proofs.Groups.{all_of, all_of-groups_of}
use Rattle.gw_table.proofs.Unset.{no_bare_load}
use Rattle.gw_table.proofs.Fine.{IsFine, AllFine, accepted}

-- fine code that is not empty, so that what stands before it may lead to it
record Continues (code : List Insn) : Type 0 where
  fine : AllFine code
  some : 0 < length code

-- a load of a word or of the port
abbrev IsLoad : Insn → Type 0
IsLoad insn = (after : ℕ) → 0 < after → IsFine after (form insn)

-- what each part of an emission is made of is fine, from the tests to the whole
longer : {A : Type 0} (xs ys : List A) → 0 < length ys → length xs < length (xs ++ ys)
longer xs ys some = omega (arith, length-append xs ys)

tests_fine : (load : Insn) (span : Span) (skipped rest : List Insn) → IsLoad load → AllFine (skipped ++ rest) → Continues rest
    → Continues (tests load span (length skipped) ++ (skipped ++ rest))
tests_fine load span skipped rest is_load all goes =
    let long = longer skipped rest goes.some in
    record {
      fine = (is_load _ (omega arith), ((omega arith, omega arith), ((omega arith, omega arith), all)));
      some =
          omega arith;
    }

part_fine : (load : Insn) (span : Span) (skipped rest : List Insn) → IsLoad load → Continues (skipped ++ rest)
    → Continues rest → Continues ((tests_unless_whole load span (length skipped) ++ skipped) ++ rest)
part_fine load span skipped rest is_load within goes = by (is_whole 255 span)
  where
    by : (whole : Bool) → Continues (((if whole then [] else tests load span (length skipped)) ++ skipped) ++ rest)
    by true = within
    by false = tests_fine load span skipped rest is_load within.fine goes

rule_fine : (rule : Rule) (rest : List Insn) → Continues rest → Continues (rule_code rule ++ rest)
rule_fine rule rest goes =
    let from = part_fine (LoadWord 0xfffff008) rule.from (return_of rule.action ∷ []) rest (λ after l. (l, inr refl))
    (record { fine = (tt, goes.fine); some = omega arith }) goes in
    let destination = part_fine (LoadScratchA 2) rule.destination (from_part rule) rest (λ after l. (l, omega arith)) from goes in
    part_fine (LoadScratchA 1) rule.source (destination_part rule) rest (λ after l. (l, omega arith)) destination goes

body_fine : (rules : List Rule) (rest : List Insn) → Continues rest → Continues (body rules ++ rest)
body_fine [] rest goes = goes
body_fine (rule ∷ rules) rest goes =
    subst Continues (sym (append_assoc (rule_code rule) (body rules) rest))
    (rule_fine rule (body rules ++ rest) (body_fine rules rest goes))

head_fine : (rule : Rule) (rules : List Rule) (rest : List Insn) → Continues (body (rule ∷ rules) ++ rest) → Continues rest
    → Continues ((head (rule ∷ rules) ++ body (rule ∷ rules)) ++ rest)
head_fine rule [] rest within goes = tests_fine (LoadScratchA 0) rule.pgn (body (rule ∷ [])) rest (λ after l. (l, omega arith))
    within.fine goes
head_fine rule (next ∷ rules) rest within goes =
    let long = longer (body (rule ∷ next ∷ rules)) rest goes.some in
    record {
      fine = (
        (omega arith, omega arith),
        ((omega arith, omega arith), ((omega arith, omega arith), (omega arith, within.fine))),
      );
      some = omega arith;
    }

group_fine : (rules : List Rule) (rest : List Insn) → Continues rest → Continues (group_code rules ++ rest)
group_fine [] rest goes = goes
group_fine (rule ∷ rules) rest goes = by (is_whole 262143 rule.pgn)
  where
    by : (whole : Bool) → Continues (((if whole then [] else head (rule ∷ rules)) ++ body (rule ∷ rules)) ++ rest)
    by true = body_fine (rule ∷ rules) rest goes
    by false = head_fine rule rules rest (body_fine (rule ∷ rules) rest goes) goes

groups_fine : (groups : List (List Rule)) (rest : List Insn) → Continues rest → Continues (flat_map group_code groups ++ rest)
groups_fine [] rest goes = goes
groups_fine (group ∷ groups) rest goes =
    subst Continues (sym (append_assoc (group_code group) (flat_map group_code groups) rest))
    (group_fine group (flat_map group_code groups ++ rest) (groups_fine groups rest goes))

prologue_fine : (other : Action) (rest : List Insn) → Continues rest → AllFine (prologue other ++ rest)
prologue_fine other rest goes = (
  (omega arith, inl (omega arith)),
  (
    omega arith,
    (
      (omega arith, omega arith),
      (
        tt,
        (
          (omega arith, omega arith),
          (
            (omega arith, omega arith),
            (
              (omega arith, omega arith),
              (
                (omega arith, omega arith),
                (
                  (omega arith, omega arith),
                  (
                    (omega arith, omega arith),
                    (
                      (omega arith, inl (omega arith)),
                      (
                        (omega arith, omega arith),
                        (
                          omega arith,
                          (
                            (omega arith, omega arith),
                            (
                              omega arith,
                              (
                                omega arith,
                                (
                                  (omega arith, omega arith),
                                  (
                                    (omega arith, inl (omega arith)),
                                    (
                                      (omega arith, omega arith),
                                      (
                                        omega arith,
                                        ((omega arith, omega arith), goes.fine),
                                      ),
                                    ),
                                  ),
                                ),
                              ),
                            ),
                          ),
                        ),
                      ),
                    ),
                  ),
                ),
              ),
            ),
          ),
        ),
      ),
    ),
  ),
)

emission_fine : (table : Meaning) → AllFine (emission table)
emission_fine table =
    prologue_fine table.other (flat_map group_code (groups_of table.rules) ++ return_of table.otherwise ∷ [])
    (groups_fine (groups_of table.rules) (return_of table.otherwise ∷ []) (record { fine = (tt, tt); some = omega arith }))

-- how long the parts of an emission are, from the tests to the whole
tests_length : (load : Insn) (span : Span) (leave : ℕ) → length (tests_unless_whole load span leave) ≤ 3
tests_length load span leave = by (is_whole 255 span)
  where
    by : (whole : Bool) → length (if whole then [] else tests load span leave) ≤ 3
    by true = omega arith
    by false = omega arith

rule_length : (rule : Rule) → length (rule_code rule) ≤ 10
rule_length rule =
    let from = tests_length (LoadWord 0xfffff008) rule.from 1 in
    let destination = tests_length (LoadScratchA 2) rule.destination (length (from_part rule)) in
    let source = tests_length (LoadScratchA 1) rule.source (length (destination_part rule)) in
    let one = length-append (tests_unless_whole (LoadWord 0xfffff008) rule.from 1) (return_of rule.action ∷ []) in
    let two = length-append (tests_unless_whole (LoadScratchA 2) rule.destination (length (from_part rule))) (from_part rule) in
    let three = length-append (tests_unless_whole (LoadScratchA 1) rule.source (length (destination_part rule)))
    (destination_part rule) in
    omega arith

body_length : (rules : List Rule) → length (body rules) ≤ 10 * length rules
body_length [] = omega arith
body_length (rule ∷ rules) = omega (arith, length-append (rule_code rule) (body rules), rule_length rule, body_length rules)

head_length : (rule : Rule) (rules : List Rule) → length (head (rule ∷ rules) ++ body (rule ∷ rules)) ≤ 13 * length (rule ∷ rules)
head_length rule [] = omega (arith, body_length (rule ∷ []))
head_length rule (next ∷ rules) = omega (arith, body_length (rule ∷ next ∷ rules))

group_length : (rules : List Rule) → length (group_code rules) ≤ 13 * length rules
group_length [] = omega arith
group_length (rule ∷ rules) = by (is_whole 262143 rule.pgn)
  where
    by : (whole : Bool) → length ((if whole then [] else head (rule ∷ rules)) ++ body (rule ∷ rules)) ≤ 13 * length (rule ∷ rules)
    by true = omega (arith, body_length (rule ∷ rules))
    by false = head_length rule rules

groups_length : (groups : List (List Rule)) → length (flat_map group_code groups) ≤ 13 * length (all_of groups)
groups_length [] = omega arith
groups_length (group ∷ groups) =
    omega (
      arith,
      length-append (group_code group) (flat_map group_code groups),
      group_length group,
      groups_length groups,
      length-append group (all_of groups),
    )

pub emission_length : (table : Meaning) → length table.rules ≤ 256 → length (emission table) ≤ 3350
emission_length table few =
    let rules = groups_of table.rules in
    omega (
      arith,
      length-append (flat_map group_code rules) (return_of table.otherwise ∷ []),
      groups_length rules,
      ap length (all_of-groups_of table.rules),
    )

-- an emission is accepted
at_most : (n most : ℕ) (more : Bool) → (nat_le n most && more) ≡ true → n ≤ most
at_most n most more e = leb-true n most (and_parts (nat_le n most) more e).0

-- the prologue stores words 0, 1 and 2 on each way through it
no_bare_word : (other : Action) (rest : List Insn) (word i : ℕ) → word < 3
    → At (program_forms (prologue other ++ rest)) i (λ insn. Loads insn word)
    → IsBare (program_forms (prologue other ++ rest)) i word → ⊥
no_bare_word other rest zero i l at bare =
    no_bare_load (λ n. nat_le n 20 && not (nat_eq n 14)) 0 (program_forms (prologue other)) (program_forms rest) refl refl
    (λ n e. omega (arith, at_most n 20 _ e)) i at.insn at.here at.holds bare
no_bare_word other rest (suc zero) i l at bare =
    no_bare_load (λ n. nat_le n 5) 1 (program_forms (prologue other)) (program_forms rest) refl refl
    (λ n e. omega (arith, leb-true n 5 e)) i at.insn at.here at.holds bare
no_bare_word other rest (suc (suc zero)) i l at bare =
    no_bare_load (λ n. nat_le n 16 && (nat_le n 9 || nat_le 15 n)) 2 (program_forms (prologue other)) (program_forms rest) refl
    refl (λ n e. omega (arith, at_most n 16 _ e)) i at.insn at.here at.holds bare
no_bare_word other rest (suc (suc (suc word))) i l at bare = omega arith

pub emission_accepted : (table : Meaning) → length table.rules ≤ 256 → IsAccepted (program_forms (emission table))
emission_accepted table few =
    let length = emission_length table few in
    accepted (emission table) (emission_fine table) (omega arith) (omega arith)
    (λ word i l at bare. no_bare_word table.other (flat_map group_code (groups_of table.rules) ++ return_of table.otherwise
    ∷ []) word i l at bare)

-- accepted code is refused for want of memory alone
pub refused_for_memory : (forms : Forms) (why : Cause) (i : ℕ) → IsAccepted forms → IsRefusal forms why i → why ≡ OutOfMemory
refused_for_memory forms OutOfMemory i accepted refusal = refl
refused_for_memory forms why i accepted refusal = absurd (accepted why i refusal.fault)
