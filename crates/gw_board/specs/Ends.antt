-- What contracts see of the ends of a board. A list of batches has the oldest first.
use Rattle.std.specs.Prelude.{◌≡◌, ℕ, ◌+◌, ◌≤◌, Bool, false, List, [], length, Option, Some, None}
use Rattle.logbook.specs.Pages.{Book}
use Rattle.gw_ledger.specs.Bounds.{Bounds}
use Rattle.gw_policy.specs.Batches.{Pair}
use Rattle.gw_board.specs.declared.count.Visits.{Visits}

-- which board it is
abbrev pub Board : Type 0
Board = Book

-- a beginning of a board's list of batches, and which board it is
pub record Known : Type 0 where
  pub board : Board
  pub batches : List (List Pair)

-- a watch, by its board, the batches that it knows, and how often it entered the board and how many batches it found there last
pub record Watching : Type 0 where
  pub board : Board
  pub batches : List (List Pair)
  pub visits : Visits

abbrev pub no_visits : Visits
no_visits = record { entered = 0; found = 0 }

abbrev pub visits_of : Option Visits → Visits
visits_of None = no_visits
visits_of (Some visits) = visits

-- what the watch knows
abbrev pub known_of : Watching → Known
known_of watch = record { board = watch.board; batches = watch.batches }

-- one entering, at which so many batches were shown: no fewer than at the one before
pub record Finds (count : ℕ) (before after : Visits) : Type 0 where
  pub no_fewer : before.found ≤ count
  pub once : after ≡ record { entered = before.entered + 1; found = count }

-- the watch entered the board once more. It found no fewer batches there than before, and knows as many at least
pub record Enters (old new : Watching) : Type 0 where
  pub once : new.visits.entered ≡ old.visits.entered + 1
  pub no_fewer : old.visits.found ≤ new.visits.found
  pub known : new.visits.found ≤ length new.batches

-- an operator, by its board, the batches that it published, its limits and whether it is stopped
pub record Publishing : Type 0 where
  pub board : Board
  pub published : List (List Pair)
  pub ports : ℕ
  pub versions : ℕ
  pub stopped : Bool

-- the ends of a new board
abbrev pub new_operator : Board → Bounds → Publishing
new_operator board limits = record {
  board = board;
  published = [];
  ports = limits.ports;
  versions = limits.versions;
  stopped =
      false;
}

abbrev pub new_watch : Board → Watching
new_watch board = record { board = board; batches = []; visits = no_visits }

-- what watches find: the count that is shown, and those that were taken in and are not shown yet
pub record Showing : Type 0 where
  pub shown : ℕ
  pub pending : List ℕ
