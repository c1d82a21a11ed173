-- What the assembler keeps of a text, as the words of the definition.
use Rattle.std.specs.Prelude.{ℕ, ◌≡◌, List, map, Option}
use Rattle.std.specs.Ordering.{nat_cmp}
use Rattle.std.specs.Cmp.Lexicographic.{slice_cmp}
use Rattle.std.specs.BTreeMap.{BTreeMap, get_by}
use Rattle.std.specs.Borrow.{Bor}
use Rattle.gw_text.specs.declared.line.Instruction.{Instruction}
use Rattle.gw_text.specs.declared.source.Label.{Label}
use Rattle.gw_text.specs.Assembly.{Written, Definition, place_of}

abbrev pub instruction_view : Instruction → Written
instruction_view i = record { line = i.line; code = i.code; jump = i.jump; k = i.k; targets = map (λ t. t.now) i.targets.items }

abbrev pub label_view : Label → Definition
label_view l = record { name = l.name.now; place = l.place; line = l.line }

-- the place that the map has for a name
abbrev pub place_in : BTreeMap (Bor (List ℕ)) ℕ → List ℕ → Option ℕ
place_in map name = get_by (λ k. slice_cmp nat_cmp name k.now) map

-- the map has the place of each label, and of no other name
abbrev pub Places : BTreeMap (Bor (List ℕ)) ℕ → List Definition → Type 0
Places map labels = (name : List ℕ) → place_in map name ≡ place_of labels name
