-- The emissions of worked examples.
use Rattle.std.proofs.Common.{◌≡◌, ℕ, List, [], ◌∷◌, ◌++◌, refl, replicate, length, drop}
use Rattle.std.specs.Prelude.{map}
use Rattle.gw_insn.specs.declared.insn.Raw.{Raw}
use Rattle.gw_insn.specs.Table.{fields, raw_of}
use Rattle.gw_table.specs.declared.table.Action.{Action}
use Rattle.gw_table.specs.declared.table.Action.TheVariants.{Pass, Block}
use Rattle.gw_table.specs.declared.table.Span.{Span}
use Rattle.gw_table.specs.declared.table.Rule.{Rule}
use Rattle.gw_table.specs.Table.{Meaning}
use Rattle.gw_table.specs.Emission.{emission}

abbrev span : ℕ → ℕ → Span
span low high = record { low = low; high = high }

abbrev all : Span
all = span 0 255

abbrev every : Span
every = span 0 262143

abbrev rule : Action → Span → Span → Span → Span → Rule
rule action pgn source destination from =
    record { action = action; pgn = pgn; source = source; destination = destination; from = from }

abbrev table : Action → Action → List Rule → Meaning
table otherwise other rules = record { otherwise = otherwise; other = other; rules = rules }

abbrev listing : Meaning → List Raw
listing meaning = map raw_of (emission meaning)

-- the table of no rules, which blocks everything
empty_table : listing (table Block Block []) ≡
    fields 32 0 0 0 ∷ fields 84 0 0 3758096384 ∷ fields 21 1 0 2147483648 ∷ fields 6 0 0 0
    ∷ fields 48 0 0 3 ∷ fields 2 0 0 1 ∷ fields 48 0 0 1 ∷ fields 53 7 0 240
    ∷ fields 48 0 0 2 ∷ fields 2 0 0 2 ∷ fields 32 0 0 0 ∷ fields 116 0 0 8 ∷ fields 84 0 0 261888 ∷ fields 2 0 0 0
    ∷ fields 5 0 0 6
    ∷ fields 0 0 0 255 ∷ fields 2 0 0 2 ∷ fields 32 0 0 0 ∷ fields 116 0 0 8 ∷ fields 84 0 0 262143 ∷ fields 2 0 0 0
    ∷ fields 6 0 0 0 ∷ []
empty_table = refl

-- two rules of one parameter group: the head leads behind both, the first rule's tests to the second rule
shared_head : drop 21
    (listing (table Pass Block (rule Pass (span 61184 61184) (span 1 1) all all ∷ rule Block (span 61184 61184) all all all
    ∷ []))) ≡
    fields 96 0 0 0 ∷ fields 53 0 1 61184 ∷ fields 37 0 1 61184 ∷ fields 5 0 0 5
    ∷ fields 96 0 0 1 ∷ fields 53 0 2 1 ∷ fields 37 1 0 1 ∷ fields 6 0 0 1 ∷ fields 6 0 0 0 ∷ fields 6 0 0 1 ∷ []
shared_head = refl

-- frames taken at port 1 pass
from_one : drop 21 (listing (table Block Block (rule Pass every all all (span 1 1) ∷ []))) ≡
    fields 32 0 0 4294963208 ∷ fields 53 0 2 1 ∷ fields 37 1 0 1 ∷ fields 6 0 0 1 ∷ fields 6 0 0 0 ∷ []
from_one = refl

many_rules : length (emission (table Block Pass (replicate 255 (rule Block every (span 1 1) all all)
    ++ rule Pass (span 61184 61458) all all all ∷ []))) ≡ 1046
many_rules = refl

one_head : length (emission (table Pass Block (replicate 256 (rule Pass (span 5 9) all all all)))) ≡ 282
one_head = refl

one_head_with_tests : length (emission (table Pass Block (replicate 256 (rule Pass (span 5 9) (span 1 2) (span 3 4) all)))) ≡ 1818
one_head_with_tests = refl
