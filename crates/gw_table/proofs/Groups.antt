-- The groups of rules: together they are the rules, and each has one parameter group span.
use Rattle.std.proofs.Common.{◌≡◌, ℕ, suc, ◌-◌, get_or, Bool, true, false, ◌+◌, List, [], ◌∷◌, ◌++◌, length, sum_by, refl, sym}
use Rattle.std.proofs.Common.{ap, subst, ◌∙◌, ◌<◌, arith, eqb-true}
use Rattle.std.specs.Prelude.{if◌then◌else◌, ◌==◌}
use Rattle.std.specs.List.{flat_map, AllByRecursion, IsChunkByPrefix}
use Rattle.std.proofs.lemmas.Bool.{and_parts}
use Rattle.std.proofs.lemmas.List.{length-append}
use Rattle.std.proofs.lemmas.List.Sums.{sum_by-cons}
use Rattle.gw_table.specs.declared.table.Span.{Span}
use Rattle.gw_table.specs.declared.table.Rule.{Rule}
use Rattle.gw_table.specs.Emission.{same_span, rule_code, body, joins, groups_of}

-- rules of one parameter group span
abbrev pub IsGroup : List Rule → Type 0
IsGroup [] = Unit {0}
IsGroup (rule ∷ rules) = AllByRecursion (λ next. next.pgn ≡ rule.pgn) rules

-- the rules of all groups
abbrev pub all_of : List (List Rule) → List Rule
all_of groups = flat_map (λ group. group) groups

-- spans that the code compares are equal where it says so
pub same_span-true : (a b : Span) → same_span a b ≡ true → a ≡ b
same_span-true a b same =
    let parts = and_parts (a.low == b.low) (a.high == b.high) same in
    let low = eqb-true a.low b.low parts.0 in
    let high = eqb-true a.high b.high parts.1 in
    λ i. record { low = low i; high = high i }

-- groups have the rules that they were made of, in their order
joins-all : (rule : Rule) (groups : List (List Rule)) → all_of (joins rule groups) ≡ rule ∷ all_of groups
joins-all rule [] = refl
joins-all rule ([] ∷ groups) = refl
joins-all rule ((next ∷ group) ∷ groups) = by (same_span rule.pgn next.pgn)
  where
    by : (same : Bool)
        → all_of (if same then (rule ∷ next ∷ group) ∷ groups else (rule ∷ []) ∷ (next ∷ group) ∷ groups) ≡ rule
        ∷ all_of ((next ∷ group) ∷ groups)
    by true = refl
    by false = refl

pub all_of-groups_of : (rules : List Rule) → all_of (groups_of rules) ≡ rules
all_of-groups_of [] = refl
all_of-groups_of (rule ∷ rules) = joins-all rule (groups_of rules) ∙ ap (λ rest. rule ∷ rest) (all_of-groups_of rules)

-- the rules of a group have one parameter group span
alike_along : (a b : Span) (rules : List Rule) → a ≡ b → AllByRecursion (λ rule. rule.pgn ≡ b) rules
    → AllByRecursion (λ rule. rule.pgn ≡ a) rules
alike_along a b [] e alike = tt
alike_along a b (rule ∷ rules) e alike = (alike.0 ∙ sym e, alike_along a b rules e alike.1)

joins_groups : (rule : Rule) (groups : List (List Rule)) → AllByRecursion IsGroup groups
    → AllByRecursion IsGroup (joins rule groups)
joins_groups rule [] alike = (tt, tt)
joins_groups rule ([] ∷ groups) alike = (tt, alike.1)
joins_groups rule ((next ∷ group) ∷ groups) alike = by (same_span rule.pgn next.pgn) refl
  where
    by : (same : Bool) → same_span rule.pgn next.pgn ≡ same
        → AllByRecursion IsGroup (if same then (rule ∷ next ∷ group) ∷ groups else (rule ∷ []) ∷ (next ∷ group) ∷ groups)
    by true e =
        let span = same_span-true rule.pgn next.pgn e in
        ((sym span, alike_along rule.pgn next.pgn group span alike.0), alike.1)
    by false e = (tt, alike)

pub groups_alike : (rules : List Rule) → AllByRecursion IsGroup (groups_of rules)
groups_alike [] = tt
groups_alike (rule ∷ rules) = joins_groups rule (groups_of rules) (groups_alike rules)

-- a group's body is as long as its rules together
pub length-body : (rules : List Rule) → length (body rules) ≡ sum_by (λ rule. length (rule_code rule)) rules
length-body [] = refl
length-body (rule ∷ rules) =
    rw (length-append (rule_code rule) (body rules), length-body rules)
    (sym (sum_by-cons (λ next. length (rule_code next)) rule rules))

-- the groups of rules begin with the first of them
begins_with : (rule : Rule) (rules : List Rule)
    → (group : List Rule) × (groups : List (List Rule)) × (groups_of (rule ∷ rules) ≡ (rule ∷ group) ∷ groups)
begins_with rule rules = by (groups_of rules)
  where
    by : (groups : List (List Rule))
        → (group : List Rule) × (later : List (List Rule)) × (joins rule groups ≡ (rule ∷ group) ∷ later)
    by [] = ([], [], refl)
    by ([] ∷ groups) = ([], groups, refl)
    by ((next ∷ group) ∷ groups) = choose (same_span rule.pgn next.pgn)
      where
        choose : (same : Bool)
            → (first : List Rule) × (later : List (List Rule))
            × ((if same then (rule ∷ next ∷ group) ∷ groups else (rule ∷ []) ∷ (next ∷ group) ∷ groups) ≡ (rule ∷ first)
            ∷ later)
        choose true = (next ∷ group, groups, refl)
        choose false = ([], (next ∷ group) ∷ groups, refl)

-- what a rule is joined to: groups of another span, or of its own
joins-other : (rule next : Rule) (group : List Rule) (groups : List (List Rule)) → same_span rule.pgn next.pgn ≡ false
    → joins rule ((next ∷ group) ∷ groups) ≡ (rule ∷ []) ∷ (next ∷ group) ∷ groups
joins-other rule next group groups e = rw e

joins-same : (rule next : Rule) (group : List Rule) (groups : List (List Rule)) → same_span rule.pgn next.pgn ≡ true
    → joins rule ((next ∷ group) ∷ groups) ≡ (rule ∷ next ∷ group) ∷ groups
joins-same rule next group groups e = rw e

-- whether two rules belong together
abbrev pub is_same_group : Rule → Rule → Bool
is_same_group a b = same_span a.pgn b.pgn

-- a longest run of rules of one span at the front is the first group
groups_of-run : (rule : Rule) (group later : List Rule)
    → IsChunkByPrefix is_same_group (rule ∷ group ++ later) (length (rule ∷ group))
    → groups_of (rule ∷ group ++ later) ≡ (rule ∷ group) ∷ groups_of later
groups_of-run rule [] [] run = refl
groups_of-run rule [] (next ∷ later) run =
    let b = begins_with next later in
    let apart : same_span rule.pgn next.pgn ≡ false = run.1 (omega arith) rule in
    ap (joins rule) b.2 ∙ joins-other rule next b.0 b.1 apart ∙ ap (λ groups. (rule ∷ []) ∷ groups) (sym b.2)
groups_of-run rule (next ∷ group) later run =
    let same : same_span rule.pgn next.pgn ≡ true = run.0 0 rule (omega arith) in
    ap (joins rule) (groups_of-run next group later (along, ends)) ∙ joins-same rule next group (groups_of later) same
  where
    along : (k : ℕ) (d : Rule) → k + 1 < length (next ∷ group)
        → is_same_group (get_or (next ∷ group ++ later) k d) (get_or (next ∷ group ++ later) (k + 1) d) ≡ true
    along k d l =
        let on : suc k + 1 ≡ suc (k + 1) = omega arith in
        subst (λ n. is_same_group (get_or (next ∷ group ++ later) k d) (get_or (rule ∷ next ∷ group ++ later) n d) ≡ true) on
        (run.0 (suc k) d (omega arith))

    ends : length (next ∷ group) < length (next ∷ group ++ later) → (d : Rule)
        → is_same_group (get_or (next ∷ group ++ later) (length (next ∷ group) - 1) d)
        (get_or (next ∷ group ++ later) (length (next ∷ group)) d) ≡ false
    ends l d =
        let on : length (rule ∷ next ∷ group) - 1 ≡ suc (length (next ∷ group) - 1) = omega arith in
        subst (λ n. is_same_group (get_or (rule ∷ next ∷ group ++ later) n d) (get_or (group ++ later) (length group) d) ≡ false)
        on (run.1 (omega arith) d)

pub groups_of-chunk : (rules group later : List Rule) → rules ≡ group ++ later → 0 < length group
    → IsChunkByPrefix is_same_group rules (length group) → groups_of rules ≡ group ∷ groups_of later
groups_of-chunk rules [] later e some run = absurd (omega arith)
groups_of-chunk rules (rule ∷ group) later e some run =
    ap groups_of e ∙ groups_of-run rule group later (subst (λ xs. IsChunkByPrefix is_same_group xs (length (rule ∷ group))) e run)
