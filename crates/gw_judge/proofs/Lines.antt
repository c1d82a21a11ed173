-- The lines of a log, one after another, and what is written of them.
use Rattle.std.proofs.Common.{◌≡◌, ℕ, ◌+◌, ◌-◌, ◌<◌, true, false, List, [], ◌∷◌, ◌++◌, length, take, get_or}
use Rattle.std.proofs.Common.{refl, sym, ap, ◌∙◌, subst, append_assoc, arith, inl, inr, Option, Err}
use Rattle.std.specs.List.{slice_split}
use Rattle.std.proofs.lemmas.Bool.{eqb-true, cases_lt, lt-ltb}
use Rattle.std.proofs.lemmas.List.{take_all, take_more, length-take}
use Rattle.std.proofs.lemmas.List.Concat.{flat_map-append}
use Rattle.std.proofs.lemmas.List.Elements.{All-push}
use Rattle.std.proofs.lemmas.List.Splits.{slice_split_at, slice_split_none, length-slice_split}
use Rattle.gw_input.specs.Lines.{is_line_feed}
use Rattle.gw_log.specs.declared.refusal.LogRefusal.TheVariants.{LongLine}
use Rattle.gw_log.specs.LogLines.{line_of}
use Rattle.gw_judge.specs.declared.fate.Fate.{Fate}
use Rattle.gw_judge.specs.declared.fate.Fate.TheVariants.{Refused}
use Rattle.gw_judge.specs.Fates.{fate_of, said_fate}
use Rattle.gw_judge.specs.Judged.{with_ends, last_line, log_lines, line_text, written_of}
use Rattle.gw_judge.specs.LineParts.{IsEndless, IsLinePart, ends_line}

-- a line in front of others has a line feed
pub ended_more : (line : List ℕ) (parts : List (List ℕ)) → 0 < length parts
    → with_ends (line ∷ parts) ≡ (line ++ 10 ∷ []) ∷ with_ends parts
ended_more line [] some = absurd (omega arith)
ended_more line (next ∷ more) some = refl

-- a line that a line feed ends stands before the lines of what is behind it
pub ended_line_first : (line more : List ℕ) → IsEndless line
    → log_lines ((line ++ 10 ∷ []) ++ more) ≡ (line ++ 10 ∷ []) ∷ log_lines more
unfolding log_lines
ended_line_first line more endless =
    let some : 0 < length (slice_split is_line_feed more) = omega (arith, length-slice_split is_line_feed more) in
    ap (λ (text : List ℕ). with_ends (slice_split is_line_feed text)) (append_assoc line (10 ∷ []) more)
    ∙ ap with_ends (slice_split_at is_line_feed line 10 more endless refl)
    ∙ ended_more line (slice_split is_line_feed more) some

-- a rest without a line feed is the last line
pub rest_alone : (rest : List ℕ) → IsEndless rest → log_lines rest ≡ last_line rest
unfolding log_lines
rest_alone rest endless = ap with_ends (slice_split_none is_line_feed rest endless)

-- what is written of lines, and of more lines behind them
pub written_more : (fate : List ℕ → Fate) (front : Fate → Option (List ℕ)) (lines more : List (List ℕ))
    → written_of fate front (lines ++ more) ≡ written_of fate front lines ++ written_of fate front more
unfolding written_of
written_more fate front lines more = flat_map-append (λ line. line_text front (fate line) line) lines more

-- what is written of a line and of those behind it
pub written_first : (fate : List ℕ → Fate) (front : Fate → Option (List ℕ)) (line : List ℕ) (more : List (List ℕ))
    → written_of fate front (line ∷ more) ≡ line_text front (fate line) line ++ written_of fate front more
unfolding written_of
written_first fate front line more = refl

pub written_none : (fate : List ℕ → Fate) (front : Fate → Option (List ℕ)) → written_of fate front [] ≡ []
unfolding written_of
written_none fate front = refl

-- of a line that is too long as much is kept as says so
line_long : (line : List ℕ) → 65536 < length line → line_of line ≡ Err LongLine
unfolding line_of
line_long line long = rw (lt-ltb 65536 (length line) long) refl

pub line_kept : (line : List ℕ) → line_of (take 65537 line) ≡ line_of line
line_kept line =
    elim (cases_lt 65536 (length line)) [
      | inl long ↦
          let there : 65536 < length (take 65537 line) = omega (arith, length-take 65537 line) in
          line_long (take 65537 line) there ∙ sym (line_long line long)
      | inr short ↦ ap line_of (take_all 65537 line (omega arith))
    ]

fate_long : (by : List ℕ → Fate) (line : List ℕ) → 65536 < length line → fate_of by line ≡ Refused LongLine
unfolding fate_of
fate_long by line long = ap (said_fate by) (line_long line long)

pub fate_kept : (by : List ℕ → Fate) (line : List ℕ) → fate_of by (take 65537 line) ≡ fate_of by line
unfolding fate_of
fate_kept by line = ap (said_fate by) (line_kept line)

pub text_kept : (by : List ℕ → Fate) (front : Fate → Option (List ℕ)) (line : List ℕ)
    → line_text front (fate_of by (take 65537 line)) (take 65537 line) ≡ line_text front (fate_of by line) line
text_kept by front line =
    elim (cases_lt 65536 (length line)) [
      | inl long ↦
          let there : 65536 < length (take 65537 line) = omega (arith, length-take 65537 line) in
          rw (fate_long by (take 65537 line) there, fate_long by line long) refl
      | inr short ↦ ap (λ (l : List ℕ). line_text front (fate_of by l) l) (take_all 65537 line (omega arith))
    ]

-- a part is its front and its last octet
pub part_split : (part : List ℕ) → 0 < length part
    → part ≡ take (length part - 1) part ++ get_or part (length part - 1) 0 ∷ []
part_split part some =
    let all : take (length part - 1 + 1) part ≡ part = take_all (length part - 1 + 1) part (omega arith) in
    sym all ∙ take_more part (length part - 1) 0 (omega arith)

-- the last octet is the line feed that ends it
pub part_ended : (part : List ℕ) → 0 < length part → ends_line part ≡ true → part ≡ take (length part - 1) part ++ 10 ∷ []
part_ended part some ended =
    part_split part some ∙ ap (λ c. take (length part - 1) part ++ c ∷ []) (eqb-true (get_or part (length part - 1) 0) 10 ended)

-- or no octet is one
pub part_endless : (part : List ℕ) → IsLinePart part → ends_line part ≡ false → IsEndless part
part_endless part line other =
    subst IsEndless (sym (part_split part line.some))
    (All-push (λ c. is_line_feed c ≡ false) (take (length part - 1) part) (get_or part (length part - 1) 0) line.front other)
