-- Lines of the worked examples.
use Rattle.std.proofs.Common.{◌≡◌, [], ◌∷◌, true, false, Some, refl}
use Rattle.std.specs.Prelude.{codes}
use Rattle.std.specs.Fmt.{digits}
use Rattle.gw_commands.specs.Checks.{path_line}
use Rattle.gw_table.specs.declared.table.Part.TheVariants.{Default, Other}
use Rattle.gw_commands.specs.ClaimLines.{name_digits, holder_line}
use Rattle.gw_commands.specs.declared.stated.StatedTable.{StatedTable}
use Rattle.gw_commands.specs.Differences.{frames_line, side_text}
use Rattle.gw_commands.specs.GroupNames.{group_name}
use Rattle.gw_commands.specs.Shown.{groups_text, numbers_text}
use Rattle.gw_input.specs.Lines.{lines_of}
use Rattle.gw_input.specs.RuleLines.{rule_lines, rule_name}

path_of_three : path_line (0 ∷ 1 ∷ 2 ∷ []) ≡ codes "path 0 1 2\n"
unfolding digits
path_of_three = refl

rule_2_of_line_14 : rule_name (1 ∷ 8 ∷ 14 ∷ []) 2 ≡ codes "rule 2 (line 14)"
unfolding digits
rule_2_of_line_14 = refl

rule_of_no_line : rule_name [] 2 ≡ codes "rule 2"
unfolding digits
rule_of_no_line = refl

default_passes : (stated : StatedTable) → side_text stated Default true ≡ codes "default passes"
default_passes stated = refl

other_blocks : (stated : StatedTable) → side_text stated Other false ≡ codes "other blocks"
other_blocks stated = refl

-- a range that holds of every address is not told
requests_of_a_tool : frames_line (Some (record {
  pgn = Some (record { low = 59904; high = 59904 });
  source = Some (record { low = 249; high = 250 });
  destination = Some (record { low = 0; high = 255 });
  from = Some (record { low = 1; high = 1 });
})) ≡ codes "    these and no others: extended data frames, pgn 59904 (request), sources 249 to 250 (2), from port 1\n"
unfolding digits groups_text group_name numbers_text
requests_of_a_tool = refl

name_5 : name_digits 5 ≡ codes "0000000000000005"
unfolding digits
name_5 = refl

greatest_name : name_digits 18446744073709551615 ≡ codes "ffffffffffffffff"
unfolding digits
greatest_name = refl

address_128 : holder_line 128 5 ≡ codes "128 0000000000000005\n"
unfolding digits
address_128 = refl

-- a carriage return is dropped before a line feed alone
three_lines : lines_of (codes "a\r\n\r\nb\r") ≡ codes "a" ∷ [] ∷ codes "b\r" ∷ []
three_lines = refl

empty_last_line : lines_of (codes "a\n") ≡ codes "a" ∷ [] ∷ []
empty_last_line = refl

-- a line in which other characters stand before begins no rule
two_rules : rule_lines (codes "# [[rule]]\n[[rule]]\npgn = 0\n\t[[rule]] # the rest\n") ≡ 2 ∷ 4 ∷ []
unfolding rule_lines
two_rules = refl
