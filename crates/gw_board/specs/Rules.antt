-- The rules of a board: of its list of batches, and of the number that `left_right` shows. What `logbook` calls a log is the
-- list, oldest first.
use Rattle.std.specs.Prelude.{ℕ, ◌≡◌, ◌==◌, ◌≤◌, true, List, [], ◌∷◌, ◌++◌, length, MatchBool}
use Rattle.std.specs.List.{All}
use Rattle.logbook.specs.Pages.{Cell, Step, View, Book, Named}
use Rattle.gw_policy.specs.Batches.{Pair}
use Rattle.gw_board.specs.declared.count.Visits.{Visits}

-- the first word is the list's length. A book has two words, of which this one leaves the second at 0
abbrev pub IsLengthKept : List Cell → List (List Pair) → Type 0
IsLengthKept cells log = (cells ≡ (length log, true) ∷ (0, true) ∷ []) × (length log ≤ 65535)

abbrev pub head_of : Book → Named
head_of b = record { tracked = true; key = 0; book = b }

-- the batch was added to all that had been seen, or the list was longer
abbrev pub AddsBatch : Step (List Pair) → View (List Pair) ℕ → ℕ → View (List Pair) ℕ → Type 0
AddsBatch s before found after =
    MatchBool (found == s.old) (after.0 ≡ before.0 ++ s.ask ∷ []) (length after.0 ≡ found) × (length after.0 ≤ 65535)

-- no end found a greater number
abbrev pub FoundBelow : ℕ → List Visits → Type 0
FoundBelow shown ends = All (λ visits. visits.found ≤ shown) ends
