-- The lines of a text, one after another.
use Rattle.std.proofs.Common.{◌≡◌, ℕ, ◌+◌, ◌<◌, Bool, true, false, not, List, [], ◌∷◌, length, get_or, take, drop, drop-cons}
use Rattle.std.proofs.Common.{Option, Some, None, refl, ap, sym, ◌∙◌, arith, length-drop, add-one}
use Rattle.std.specs.List.{before_first, after_first, slice_index_or, slice_split}
use Rattle.std.proofs.lemmas.Bool.{ltb-true, ltb-false, not-true}
use Rattle.std.proofs.lemmas.List.{get_or_default, take_all}
use Rattle.std.proofs.lemmas.List.Splits.{slice_split_first, slice_split_none, length-slice_split}
use Rattle.std.proofs.lemmas.List.Elements.{All-from_get_or}
use Rattle.std.proofs.lemmas.List.Sums.{prefix_len_passes}
use Rattle.gw_input.specs.Lines.{is_line_feed, has_end, without_return, first_line, behind_first, left_behind, without_ends}
use Rattle.gw_input.specs.Lines.{lines_of}

-- the lines behind a first one, where there is one
abbrev pub lines_behind : Option (List ℕ) → List (List ℕ)
lines_behind (Some text) = lines_of text
lines_behind None = []

ends_before : (line : List ℕ) (rest : List (List ℕ)) → 0 < length rest → without_ends (line ∷ rest) ≡ without_return line
    ∷ without_ends rest
ends_before line [] some = absurd (omega arith)
ends_before line (next ∷ more) some = refl

-- the lines of a text are its first line and those behind it
pub lines_apart : (text : List ℕ) → lines_of text ≡ first_line text ∷ lines_behind (behind_first text)
lines_apart text = go (has_end text) refl
  where
    go : (b : Bool) → has_end text ≡ b → lines_of text ≡ first_line text ∷ lines_behind (behind_first text)
    go true ended =
        let cut = ap without_ends (slice_split_first is_line_feed text 0 (ltb-true _ _ ended)) in
        let more : 0 < length (slice_split is_line_feed (after_first is_line_feed text)) =
        omega (arith, length-slice_split is_line_feed (after_first is_line_feed text)) in
        rw ended (cut ∙ ends_before (before_first is_line_feed text) (slice_split is_line_feed (after_first is_line_feed text))
        more)
    go false endless =
        let past = ltb-false _ _ endless in
        let none =
        All-from_get_or (λ c. is_line_feed c ≡ false) text 0
        (λ k within. not-true _ (prefix_len_passes (λ c. not (is_line_feed c)) text k 0 (omega arith))) in
        rw endless (ap without_ends (slice_split_none is_line_feed text none))

-- what is left behind the first line is less
pub less_behind : (text : List ℕ) → left_behind (behind_first text) < left_behind (Some text)
less_behind text = go (has_end text) refl
  where
    go : (b : Bool) → has_end text ≡ b → left_behind (behind_first text) < left_behind (Some text)
    go true ended = let within = ltb-true _ _ ended in rw ended (omega (arith, length-drop {A = ℕ}))
    go false endless = rw endless (omega arith)

-- a list from a place on: the element there, and the place behind it
pub element_at : (lines : List (List ℕ)) (n : ℕ) (line : List ℕ) (more : List (List ℕ)) → drop n lines ≡ line ∷ more
    → (n < length lines) × (line ≡ get_or lines n line) × (drop (n + 1) lines ≡ more)
element_at lines n line more there =
    let within : n < length lines = omega (arith, ap length there, length-drop {A = List ℕ}) in
    let split = drop-cons lines n line within in
    let next = add-one n in
    (within, cc, ap (λ k. drop k lines) next ∙ cc)

-- the line at a place, where the lines from there on are those of a text
pub next_line : (lines : List (List ℕ)) (n : ℕ) (rest behind : Option (List ℕ)) (text line : List ℕ)
    → drop n lines ≡ lines_behind rest
    → rest ≡ Some text → line ≡ first_line text → behind ≡ behind_first text
    → (n < length lines) × (line ≡ get_or lines n line) × (drop (n + 1) lines ≡ lines_behind behind)
    × (left_behind behind < left_behind rest)
next_line lines n rest behind text line there is first then =
    let whole = there ∙ ap lines_behind is ∙ lines_apart text ∙ ap (λ l. l ∷ lines_behind (behind_first text)) (sym first) in
    let at = element_at lines n line (lines_behind (behind_first text)) whole in
    let less = less_behind text in
    let before = ap left_behind then in
    let now = ap left_behind is in
    (at.0, at.1, at.2 ∙ sym (ap lines_behind then), omega arith)

-- the same line, as a list of lines has it with none for one that is not there
pub line_there : (lines : List (List ℕ)) (n : ℕ) (rest behind : Option (List ℕ)) (text line : List ℕ)
    → drop n lines ≡ lines_behind rest → rest ≡ Some text → line ≡ first_line text → behind ≡ behind_first text
    → (n < length lines) × (line ≡ slice_index_or lines n []) × (drop (n + 1) lines ≡ lines_behind behind)
    × (left_behind behind < left_behind rest)
line_there lines n rest behind text line there is first then =
    let next = next_line lines n rest behind text line there is first then in
    (next.0, next.1 ∙ get_or_default lines n line [] next.0, next.2, next.3)

-- where nothing is left behind a place, all lines stand before it
pub all_taken : (lines : List (List ℕ)) (n : ℕ) → drop n lines ≡ [] → take n lines ≡ lines
all_taken lines n none = take_all n lines (omega (arith, ap length none, length-drop {A = List ℕ}))
