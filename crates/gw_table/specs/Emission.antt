-- The classic BPF program that a table is compiled to. Scratch word 0 has a frame's parameter group number, word 1 its
-- source address, word 2 its destination address.
use Rattle.std.specs.Prelude.{ℕ, ◌+◌, Bool, ◌==◌, ◌&&◌, if◌then◌else◌, List, [], ◌∷◌, ◌++◌, length}
use Rattle.std.specs.List.{flat_map}
use Rattle.gw_insn.specs.declared.insn.Insn.{Insn}
use Rattle.gw_insn.specs.declared.insn.Insn.TheVariants.{LoadWord, LoadByte, LoadConstantA, LoadScratchA, StoreA, AndConstant}
use Rattle.gw_insn.specs.declared.insn.Insn.TheVariants.{RshConstant, Jump, JumpEqualConstant, JumpGreaterConstant}
use Rattle.gw_insn.specs.declared.insn.Insn.TheVariants.{JumpAtLeastConstant, ReturnConstant}
use Rattle.gw_table.specs.declared.table.Action.{Action}
use Rattle.gw_table.specs.declared.table.Action.TheVariants.{Pass, Block}
use Rattle.gw_table.specs.declared.table.Span.{Span}
use Rattle.gw_table.specs.declared.table.Rule.{Rule}
use Rattle.gw_table.specs.Table.{Meaning, greatest_group, greatest_octet}

-- any answer but 0 passes the frame
abbrev pub answer_for : Action → ℕ
answer_for Pass = 1
answer_for Block = 0

abbrev pub return_of : Action → Insn
return_of action = ReturnConstant (answer_for action)

-- the fields of an extended data frame's identifier into the scratch words; every other frame gets `other`
abbrev pub prologue : Action → List Insn
prologue other =
    LoadWord 0 ∷ AndConstant 0xe0000000 ∷ JumpEqualConstant 1 0 0x80000000 ∷ return_of other
    ∷ LoadByte 3 ∷ StoreA 1 ∷ LoadByte 1 ∷ JumpAtLeastConstant 7 0 0xf0
    ∷ LoadByte 2 ∷ StoreA 2 ∷ LoadWord 0 ∷ RshConstant 8 ∷ AndConstant 0x3ff00 ∷ StoreA 0 ∷ Jump 6
    ∷ LoadConstantA 0xff ∷ StoreA 2 ∷ LoadWord 0 ∷ RshConstant 8 ∷ AndConstant 0x3ffff ∷ StoreA 0 ∷ []

-- the span is that of every number of a field, whose greatest is `most`
abbrev pub is_whole : ℕ → Span → Bool
is_whole most span = (span.low == 0) && (span.high == most)

-- a load and two tests: outside the span, leave over so many instructions behind them
abbrev pub tests : Insn → Span → ℕ → List Insn
tests load span leave = load ∷ JumpAtLeastConstant 0 (leave + 1) span.low ∷ JumpGreaterConstant leave 0 span.high ∷ []

abbrev pub tests_unless_whole : Insn → Span → ℕ → List Insn
tests_unless_whole load span leave = if is_whole greatest_octet span then [] else tests load span leave

-- a rule behind its group's head, from its last part to its first: each part leaves over what follows it
abbrev pub from_part : Rule → List Insn
from_part rule = tests_unless_whole (LoadWord 0xfffff008) rule.from 1 ++ return_of rule.action ∷ []

abbrev pub destination_part : Rule → List Insn
destination_part rule = tests_unless_whole (LoadScratchA 2) rule.destination (length (from_part rule)) ++ from_part rule

abbrev pub rule_code : Rule → List Insn
rule_code rule = tests_unless_whole (LoadScratchA 1) rule.source (length (destination_part rule)) ++ destination_part rule

abbrev pub same_span : Span → Span → Bool
same_span a b = (a.low == b.low) && (a.high == b.high)

-- a rule before groups: in the first of them where the spans are equal, else a group of its own (no group is empty)
abbrev pub joins : Rule → List (List Rule) → List (List Rule)
joins rule [] = (rule ∷ []) ∷ []
joins rule ([] ∷ groups) = (rule ∷ []) ∷ groups
joins rule ((next ∷ group) ∷ groups) =
    if same_span rule.pgn next.pgn then (rule ∷ next ∷ group) ∷ groups else (rule ∷ []) ∷ (next ∷ group) ∷ groups

-- the longest runs of rules next to each other with equal parameter group spans
abbrev pub groups_of : List Rule → List (List Rule)
groups_of [] = []
groups_of (rule ∷ rules) = joins rule (groups_of rules)

-- the rules of a group behind its head
abbrev pub body : List Rule → List Insn
body rules = flat_map rule_code rules

-- a group's head, which leaves over the body: three instructions for one rule, four for more
abbrev pub head : List Rule → List Insn
head [] = []
head (rule ∷ []) = tests (LoadScratchA 0) rule.pgn (length (body (rule ∷ [])))
head (rule ∷ rules) =
    LoadScratchA 0 ∷ JumpAtLeastConstant 0 1 rule.pgn.low ∷ JumpGreaterConstant 0 1 rule.pgn.high
    ∷ Jump (length (body (rule ∷ rules))) ∷ []

-- a group has a head unless its span is that of every parameter group
abbrev pub group_code : List Rule → List Insn
group_code [] = []
group_code (rule ∷ rules) = (if is_whole greatest_group rule.pgn then [] else head (rule ∷ rules)) ++ body (rule ∷ rules)

abbrev pub emission : Meaning → List Insn
emission table = prologue table.other ++ (flat_map group_code (groups_of table.rules) ++ return_of table.otherwise ∷ [])
