-- A line that is too long says the same by its beginning.
use Rattle.std.proofs.Common.{◌≡◌, ℕ, ◌+◌, ◌-◌, ◌<◌, ◌≤◌, Bool, true, false, List, [], ◌∷◌, ◌++◌, length, take}
use Rattle.std.proofs.Common.{refl, ap, sym, ◌∙◌, arith, inl, inr, zero, suc}
use Rattle.std.specs.Prelude.{slice_index, if◌then◌else◌, ◌==◌}
use Rattle.std.proofs.lemmas.Bool.{cases_lt, lt-ltb}
use Rattle.std.proofs.lemmas.List.{length-take, take_all}
use native.Mathlib.Numerals.{unary_clauses}
use Rattle.gw_input.specs.Bounds.{most_octets}
use Rattle.gw_input.specs.Lines.{without_return, ended_line}
use Rattle.gw_replay.specs.Scripts.{silent, wrong, is_silent, meaning_of}
use Rattle.gw_replay.specs.Reached.{most_kept}
use Rattle.gw_replay.specs.declared.fault.Fault.TheVariants.{LongLine}

-- the meaning of a line of more octets than a line has
long_meaning : (line : List ℕ) → most_octets < length line → meaning_of line ≡ (if is_silent line then silent else wrong LongLine)
long_meaning line long = rw (lt-ltb most_octets (length line) long) refl

-- two lines that begin alike, both too long, say the same
same_long : (a b : List ℕ) → most_octets < length a → most_octets < length b → is_silent a ≡ is_silent b
    → meaning_of a ≡ meaning_of b
same_long a b one other alike =
    long_meaning a one ∙ ap (λ quiet. if quiet then silent else wrong LongLine) alike ∙ sym (long_meaning b other)

-- what a line loses of its end
shorter_by : (line : List ℕ) → length line ≤ length (without_return line) + 1
shorter_by line = go (slice_index line (length line - 1) == 13) refl
  where
    go : (b : Bool) → (slice_index line (length line - 1) == 13) ≡ b → length line ≤ length (without_return line) + 1
    go true is = rw is (omega (arith, length-take (length line - 1) line))
    go false is = rw is (omega arith)

-- how a line begins
begins_alike : (c d : ℕ) (line : List ℕ) → is_silent (without_return (c ∷ d ∷ line)) ≡ is_silent (c ∷ d ∷ line)
begins_alike c d line = go (slice_index (c ∷ d ∷ line) (length (c ∷ d ∷ line) - 1) == 13) refl
  where
    cut : (n : ℕ) → 0 < n → is_silent (take n (c ∷ d ∷ line)) ≡ is_silent (c ∷ d ∷ line)
    cut zero some = absurd (omega arith)
    cut (suc n) some = refl

    go : (b : Bool) → (slice_index (c ∷ d ∷ line) (length (c ∷ d ∷ line) - 1) == 13) ≡ b
        → is_silent (without_return (c ∷ d ∷ line)) ≡ is_silent (c ∷ d ∷ line)
    go true is = rw is (cut (length (c ∷ d ∷ line) - 1) (omega arith))
    go false is = rw is refl

ended_alike : (ended : Bool) (line : List ℕ) → 1 < length line → is_silent (ended_line ended line) ≡ is_silent line
ended_alike false line some = refl
ended_alike true [] some = absurd (omega arith)
ended_alike true (c ∷ []) some = absurd (omega arith)
ended_alike true (c ∷ d ∷ line) some = begins_alike c d line

front_alike : (n : ℕ) (line : List ℕ) → 0 < n → is_silent (take n line) ≡ is_silent line
front_alike zero line some = absurd (omega arith)
front_alike (suc n) [] some = refl
front_alike (suc n) (c ∷ line) some = refl

ended_long : (ended : Bool) (line : List ℕ) → most_octets + 1 < length line → most_octets < length (ended_line ended line)
ended_long false line long = omega arith
ended_long true line long = let less = shorter_by line in omega arith

-- a line says the same by what is kept of it
pub kept_means : (ended : Bool) (line : List ℕ) → meaning_of (ended_line ended (take most_kept line))
    ≡ meaning_of (ended_line ended line)
kept_means ended line =
    elim (cases_lt most_kept (length line)) [
      | inl long ↦
          let there : length (take most_kept line) ≡ most_kept = length-take most_kept line ∙ (omega arith) in
          same_long (ended_line ended (take most_kept line)) (ended_line ended line)
          (ended_long ended (take most_kept line) (omega arith)) (ended_long ended line (omega arith))
          (ended_alike ended (take most_kept line) (omega arith) ∙ front_alike most_kept line (omega arith)
          ∙ sym (ended_alike ended line (omega arith)))
      | inr short ↦ ap (λ kept. meaning_of (ended_line ended kept)) (take_all most_kept line short)
    ]

-- what is kept with more octets behind it
pub kept_more : (n : ℕ) (rest part : List ℕ) → take n rest ++ take (n - length (take n rest)) part ≡ take n (rest ++ part)
kept_more zero rest part = refl
kept_more (suc n) [] part = simp unary_clauses refl
kept_more (suc n) (c ∷ rest) part = ap (λ kept. c ∷ kept) (simp unary_clauses (kept_more n rest part))
