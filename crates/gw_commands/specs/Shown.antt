-- What `table --show` writes of a table: what each rule says in words, then `default` and `other`.
use Rattle.std.specs.Prelude.{◌≡◌, ℕ, ◌+◌, ◌-◌, ◌/◌, ◌%◌, Bool, ◌==◌, ◌&&◌, ◌||◌, nat_le, if◌then◌else◌, List, [], ◌++◌, length}
use Rattle.std.specs.Prelude.{codes, decimal, slice_get, Option}
use Rattle.std.specs.Option.{option_map_or}
use Rattle.std.specs.List.{filter, flat_map, range_with_len}
use Rattle.gw_table.specs.declared.question.Question.{Question}
use Rattle.gw_table.specs.declared.table.Action.{Action}
use Rattle.gw_table.specs.declared.table.Rule.{Rule}
use Rattle.gw_table.specs.declared.table.Span.{Span}
use Rattle.gw_input.specs.RuleLines.{rule_name}
use Rattle.gw_answers.specs.declared.answer.Answer.{Answer}
use Rattle.gw_answers.specs.declared.answer.Answer.TheVariants.{Text}
use Rattle.gw_commands.specs.declared.stated.StatedTable.{StatedTable}
use Rattle.gw_commands.specs.GroupNames.{group_name}
use Rattle.gw_commands.specs.LogCounts.{action_word}
use Rattle.gw_commands.specs.Stated.{IsStated}

-- the number of a group: that of a PDU1 group ends in a zero octet (SAE J1939-21)
abbrev pub is_group : ℕ → Bool
is_group n = nat_le 240 (n / 256 % 256) || (n % 256 == 0)

-- how many groups have their number in a range, and how many numbers it has
unfoldable pub group_count : Span → ℕ
group_count range = length (filter is_group (range_with_len range.low (range.high + 1 - range.low)))

abbrev pub size_of : Span → ℕ
size_of range = range.high + 1 - range.low

abbrev pub is_whole : ℕ → Span → Bool
is_whole greatest range = (range.low == 0) && (range.high == greatest)

-- groups from one number to another, with their names, and how many there are
unfoldable pub group_range : Span → List ℕ
group_range range =
    codes ", pgns " ++ decimal range.low ++ group_name range.low ++ codes " to " ++ decimal range.high ++ group_name range.high
    ++ codes " (groups: " ++ decimal (group_count range) ++ codes ")"

-- a range of groups; nothing where it leaves nothing out
unfoldable pub groups_text : Span → List ℕ
groups_text range =
    if is_whole 262143 range then []
    else if range.low == range.high then codes ", pgn " ++ decimal range.low ++ group_name range.low
    else group_range range

-- a range of addresses or ports, by the word for one of them
unfoldable pub numbers_text : List ℕ → Span → List ℕ
numbers_text word range =
    if is_whole 255 range then []
    else if range.low == range.high then codes ", " ++ word ++ codes " " ++ decimal range.low
    else codes ", " ++ word ++ codes "s " ++ decimal range.low ++ codes " to " ++ decimal range.high
    ++ codes " (" ++ decimal (size_of range) ++ codes ")"

-- a rule without a range holds of every extended data frame
abbrev pub holds_always : Rule → Bool
holds_always rule =
    (is_whole 262143 rule.pgn && is_whole 255 rule.source) && (is_whole 255 rule.destination && is_whole 255 rule.from)

abbrev pub fields_text : Rule → List ℕ
fields_text rule =
    groups_text rule.pgn ++ numbers_text (codes "source") rule.source
    ++ numbers_text (codes "destination") rule.destination ++ numbers_text (codes "from port") rule.from

-- the line of the frames that a question asks for, where it asks for extended data frames alone
abbrev pub given_groups : Option Span → List ℕ
given_groups range = option_map_or groups_text range []

abbrev pub given_numbers : List ℕ → Option Span → List ℕ
given_numbers word range = option_map_or (numbers_text word) range []

abbrev pub asked_line : Question → List ℕ
asked_line q =
    codes "    these and no others: extended data frames" ++ given_groups q.pgn ++ given_numbers (codes "source") q.source
    ++ given_numbers (codes "destination") q.destination ++ given_numbers (codes "from port") q.from ++ codes "\n"

unfoldable pub ranges_text : Rule → List ℕ
ranges_text rule = if holds_always rule then codes ", every extended data frame" else fields_text rule

abbrev pub rule_words : StatedTable → ℕ → Rule → List ℕ
rule_words stated number rule =
    rule_name stated.lines.items number ++ codes ": " ++ action_word rule.action ++ ranges_text rule ++ codes "\n"

-- a line for each rule, in their order
abbrev pub words_of_rule : StatedTable → ℕ → List ℕ
words_of_rule stated number = option_map_or (rule_words stated number) (slice_get stated.table.rules number) []

unfoldable pub words_of_rules : StatedTable → List ℕ
words_of_rules stated = flat_map (words_of_rule stated) (range_with_len 0 (length stated.table.rules))

-- the line of `default` or of `other`, with the frames that get it
abbrev pub part_words : List ℕ → Action → List ℕ → List ℕ
part_words key action frames = key ++ codes ": " ++ action_word action ++ codes ", " ++ frames ++ codes "\n"

abbrev pub shown_text : StatedTable → List ℕ
shown_text stated =
    words_of_rules stated
    ++ part_words (codes "default") stated.table.otherwise (codes "every other extended data frame")
    ++ part_words (codes "other") stated.table.other (codes "every frame of 11 bits, remote frame and error frame")

abbrev pub AnswersShow : List ℕ → Answer → Type 0
AnswersShow input (Text text) = (stated : StatedTable) × IsStated input stated × (text.items ≡ shown_text stated)
AnswersShow input _ = ⊥
