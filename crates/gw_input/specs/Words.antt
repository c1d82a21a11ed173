-- The words of a line, and numbers in decimal digits. Words are divided by single spaces.
use Rattle.std.specs.Prelude.{ℕ, ◌&&◌, Bool, nat_le, nat_lt, if◌then◌else◌, List, length, Option, Some, None, option_map}
use Rattle.std.specs.Prelude.{option_and_then}
use Rattle.std.specs.Char.{is_ascii_digit}
use Rattle.std.specs.List.{position_or_len, before_first, after_first, list_all}
use Rattle.gw_insn.specs.Listing.{decimal}
use Rattle.gw_input.specs.Lines.{is_octet}

-- words are divided by spaces
abbrev pub is_space : ℕ → Bool
is_space = is_octet 32

abbrev pub has_space : List ℕ → Bool
has_space text = nat_lt (position_or_len is_space text) (length text)

-- a text's first word, and what stands behind the space that ends it
abbrev pub first_word : List ℕ → List ℕ
first_word text = before_first is_space text

abbrev pub behind_word : List ℕ → Option (List ℕ)
behind_word text = if has_space text then Some (after_first is_space text) else None

-- 1 to 10 decimal digits, and their value up to a greatest one
abbrev pub is_number : ℕ → List ℕ → Bool
is_number most word =
    (nat_lt 0 (length word) && nat_le (length word) 10) && (list_all is_ascii_digit word && nat_le (decimal word) most)

-- the number that a word is
abbrev pub number_in : ℕ → List ℕ → Option ℕ
number_in most word = if is_number most word then Some (decimal word) else None

-- a number in the first word, and what stands behind it
abbrev pub number_before : ℕ → List ℕ → Option (ℕ × List ℕ)
number_before most text =
    option_and_then (λ behind. option_map (λ n. (n, behind)) (number_in most (first_word text))) (behind_word text)
