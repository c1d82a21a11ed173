-- The lines of a text. A line feed ends a line, and a carriage return right before that line feed belongs to the line's end.
-- What stands behind the last line feed is a line without an end.
use Rattle.std.specs.Prelude.{ℕ, ◌==◌, ◌+◌, ◌-◌, Bool, nat_lt, if◌then◌else◌, List, [], ◌∷◌, length, take, slice_index}
use Rattle.std.specs.Prelude.{Option, None, Some}
use Rattle.std.specs.List.{position_or_len, before_first, after_first, slice_split}

-- an octet of this value, and a line feed
abbrev pub is_octet : ℕ → ℕ → Bool
is_octet octet c = c == octet

abbrev pub is_line_feed : ℕ → Bool
is_line_feed = is_octet 10

-- a line feed ends the first line
abbrev pub has_end : List ℕ → Bool
has_end text = nat_lt (position_or_len is_line_feed text) (length text)

-- a line that a line feed ended, without a carriage return there
abbrev pub without_return : List ℕ → List ℕ
without_return line = if slice_index line (length line - 1) == 13 then take (length line - 1) line else line

-- a line without its end, where a line feed ended it
abbrev pub ended_line : Bool → List ℕ → List ℕ
ended_line ended line = if ended then without_return line else line

-- the first line, without its end
abbrev pub first_line : List ℕ → List ℕ
first_line text = if has_end text then without_return (before_first is_line_feed text) else text

-- what stands behind the first line, where a line feed ends it
abbrev pub behind_first : List ℕ → Option (List ℕ)
behind_first text = if has_end text then Some (after_first is_line_feed text) else None

-- how many octets are left there, and one more where there is such a rest
abbrev pub left_behind : Option (List ℕ) → ℕ
left_behind (Some text) = length text + 1
left_behind None = 0

-- lines without their ends: the last one has none
abbrev pub without_ends : List (List ℕ) → List (List ℕ)
without_ends [] = []
without_ends (last ∷ []) = last ∷ []
without_ends (line ∷ next ∷ more) = without_return line ∷ without_ends (next ∷ more)

-- the lines of a text, without their ends
abbrev pub lines_of : List ℕ → List (List ℕ)
lines_of text = without_ends (slice_split is_line_feed text)
