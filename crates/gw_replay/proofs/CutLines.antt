-- Lines that were ended, and those of what stands behind them.
use Rattle.std.proofs.Common.{◌≡◌, ℕ, ◌+◌, ◌<◌, false, List, [], ◌∷◌, ◌++◌, length, take, drop, get_or}
use Rattle.std.proofs.Common.{refl, ap, sym, ◌∙◌, subst, append_assoc, append-nil, arith, map, reverse}
use Rattle.std.specs.Prelude.{All}
use Rattle.std.specs.List.{slice_split, position_or_len}
use Rattle.std.proofs.lemmas.List.{map-append, reverse-append, length-take, get_or-take}
use Rattle.std.proofs.lemmas.Grind.{flat_map-append}
use Rattle.std.proofs.lemmas.List.Elements.{All-nil, All-cons, All-head, All-tail, All-append, All-from_get_or}
use Rattle.std.proofs.lemmas.List.Splits.{slice_split_at, slice_split_none, length-slice_split}
use Rattle.std.proofs.lemmas.List.Sums.{fails_before_first, passes_at_first, split_at_first}
use Rattle.std.proofs.lemmas.Bool.{eqb-true}
use Rattle.gw_input.specs.Lines.{is_line_feed, without_return, without_ends, lines_of}
use Rattle.gw_replay.specs.Reached.{joined, HasNoEnd}

-- lines in front are parts of their own
split_behind : (lines : List (List ℕ)) (more : List ℕ) → All HasNoEnd lines
    → slice_split is_line_feed (joined lines ++ more) ≡ lines ++ slice_split is_line_feed more
split_behind [] more whole = refl
split_behind (line ∷ lines) more whole =
    let front = append_assoc (line ++ 10 ∷ []) (joined lines) more ∙ append_assoc line (10 ∷ []) (joined lines ++ more) in
    ap (slice_split is_line_feed) front
    ∙ slice_split_at is_line_feed line 10 (joined lines ++ more) (All-head HasNoEnd line lines whole) refl
    ∙ ap (λ parts. line ∷ parts) (split_behind lines more (All-tail HasNoEnd line lines whole))

-- each of them loses its end
ends_behind : (lines : List (List ℕ)) (last : List ℕ) (more : List (List ℕ))
    → without_ends (lines ++ last ∷ more) ≡ map without_return lines ++ without_ends (last ∷ more)
ends_behind [] last more = refl
ends_behind (line ∷ []) last more = refl
ends_behind (line ∷ next ∷ lines) last more =
    ap (λ ended. without_return line ∷ ended) (ends_behind (next ∷ lines) last more)

ends_of_parts : (lines parts : List (List ℕ)) → 0 < length parts
    → without_ends (lines ++ parts) ≡ map without_return lines ++ without_ends parts
ends_of_parts lines [] some = absurd (omega arith)
ends_of_parts lines (last ∷ more) some = ends_behind lines last more

-- the lines of a text: those that were ended, and those of the rest
pub lines_behind : (lines : List (List ℕ)) (more : List ℕ) → All HasNoEnd lines
    → lines_of (joined lines ++ more) ≡ map without_return lines ++ lines_of more
lines_behind lines more whole =
    let some : 0 < length (slice_split is_line_feed more) = omega (arith, length-slice_split is_line_feed more) in
    ap without_ends (split_behind lines more whole) ∙ ends_of_parts lines (slice_split is_line_feed more) some

-- a rest without a line feed is one line
pub one_line : (rest : List ℕ) → HasNoEnd rest → lines_of rest ≡ rest ∷ []
one_line rest endless = ap without_ends (slice_split_none is_line_feed rest endless)

-- one line more
pub joined_more : (lines : List (List ℕ)) (line : List ℕ) → joined (lines ++ line ∷ []) ≡ joined lines ++ (line ++ 10 ∷ [])
joined_more lines line =
    flat_map-append (λ l. l ++ 10 ∷ []) lines (line ∷ [])
    ∙ ap (λ last. joined lines ++ last) (append-nil (line ++ 10 ∷ []))

-- it has no line feed either
pub whole_more : (lines : List (List ℕ)) (line : List ℕ) → All HasNoEnd lines → HasNoEnd line → All HasNoEnd (lines ++ line ∷ [])
whole_more lines line whole ended =
    All-append HasNoEnd lines (line ∷ []) whole (All-cons HasNoEnd line [] ended (All-nil HasNoEnd))

-- the last line stands first once a list is turned round
pub newest_first : (lines : List (List ℕ)) (line : List ℕ)
    → reverse (map without_return (lines ++ line ∷ [])) ≡ without_return line ∷ reverse (map without_return lines)
newest_first lines line =
    ap reverse (map-append without_return lines (line ∷ []))
    ∙ reverse-append (map without_return lines) (without_return line ∷ [])

-- the same of any list of lines
pub last_first : (lines : List (List ℕ)) (line : List ℕ) → reverse (lines ++ line ∷ []) ≡ line ∷ reverse lines
last_first lines line = reverse-append lines (line ∷ [])

-- where the first line feed stands
pub before_end : (text : List ℕ) (end : ℕ) → end ≡ position_or_len is_line_feed text → HasNoEnd (take end text)
before_end text end at =
    All-from_get_or (λ c. is_line_feed c ≡ false) (take end text) 0
    (λ k within. below k (omega (arith, length-take end text)))
  where
    below : (k : ℕ) → k < end → is_line_feed (get_or (take end text) k 0) ≡ false
    below k less = rw (get_or-take end text k 0 less) (fails_before_first is_line_feed text k 0 (subst (λ n. k < n) at less))

-- a text is its first line, the line feed and the rest
pub cut_at : (text : List ℕ) (end : ℕ) → end ≡ position_or_len is_line_feed text → end < length text
    → text ≡ (take end text ++ 10 ∷ []) ++ drop (end + 1) text
cut_at text end at within =
    let first : position_or_len is_line_feed text < length text = subst (λ n. n < length text) at within in
    let mark = eqb-true _ 10 (passes_at_first is_line_feed text 0 first) in
    let whole = split_at_first is_line_feed text 0 first in
    let placed : text ≡ take end text ++ (get_or text end 0 ∷ drop (end + 1) text) =
    subst (λ n. text ≡ take n text ++ (get_or text n 0 ∷ drop (n + 1) text)) (sym at) whole in
    let is : get_or text end 0 ≡ 10 = subst (λ n. get_or text n 0 ≡ 10) (sym at) mark in
    placed ∙ ap (λ c. take end text ++ (c ∷ drop (end + 1) text)) is
    ∙ sym (append_assoc (take end text) (10 ∷ []) (drop (end + 1) text))
