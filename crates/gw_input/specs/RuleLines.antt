-- Where the rules of a table stand in its text: TOML 1.0.0, Array of Tables.
use Rattle.std.specs.Prelude.{ℕ, ◌+◌, Bool, ◌==◌, ◌||◌, not, if◌then◌else◌, List, [], ◌∷◌, ◌++◌, length, codes, decimal, drop}
use Rattle.std.specs.Prelude.{Option, slice_get}
use Rattle.std.specs.Option.{option_map_or}
use Rattle.std.specs.List.{flat_map, position_or_len, range_with_len, slice_index_or, starts_with}
use Rattle.gw_input.specs.Lines.{lines_of}

-- TOML's whitespace: the space and the tab
abbrev pub is_blank : ℕ → Bool
is_blank c = (c == 32) || (c == 9)

abbrev pub behind_blanks : List ℕ → List ℕ
behind_blanks line = drop (position_or_len (λ c. not (is_blank c)) line) line

-- a line that begins a rule
abbrev pub begins_rule : List ℕ → Bool
begins_rule line = starts_with (λ a b. a == b) (behind_blanks line) (codes "[[rule]]")

-- the number of a line, where it begins a rule
abbrev pub rule_number : List ℕ → ℕ → List ℕ
rule_number line number = if begins_rule line then number ∷ [] else []

-- the same of the line behind so many others
abbrev pub rule_at : List (List ℕ) → ℕ → List ℕ
rule_at lines above = rule_number (slice_index_or lines above []) (above + 1)

-- the numbers of the lines that begin a rule; lines count from 1
unfoldable pub rule_lines : List ℕ → List ℕ
rule_lines text = flat_map (rule_at (lines_of text)) (range_with_len 0 (length (lines_of text)))

-- a rule by its number, and the line at which it stands, where that is known: the lines of the rules stand in their order
abbrev pub line_words : Option ℕ → List ℕ
line_words line = option_map_or (λ n. codes " (line " ++ decimal n ++ codes ")") line []

abbrev pub rule_name : List ℕ → ℕ → List ℕ
rule_name lines number = codes "rule " ++ decimal number ++ line_words (slice_get lines number)
