-- What a command does: it reads its input whole, and writes the answer to it or its first refusal.
use Rattle.std.specs.Prelude.{ℕ, ◌⊎◌, Bool, List, Option, Result, MatchResult}
use Rattle.gw_answers.specs.declared.answer.Answer.{Answer}
use Rattle.gw_answers.specs.declared.refusal.Refusal.{Refusal}
use Rattle.gw_answers.specs.Inputs.{IsInput, IsInputRefusal}
use Rattle.gw_answers.specs.Responses.{WritesFound}

-- what the reader gave has this answer
pub record IsAnswer (Answers : List ℕ → Answer → Type 0) (before after : Option (List ℕ)) (failed : Bool)
    (answer : Answer) : Type 0 where
  pub input : List ℕ
  pub read : IsInput before after failed input
  pub answers : Answers input answer

-- what the reader gave is refused
pub record RefusesInput (Refuses : List ℕ → Refusal → Type 0) (before after : Option (List ℕ)) (failed : Bool)
    (refusal : Refusal) : Type 0 where
  pub input : List ℕ
  pub read : IsInput before after failed input
  pub first : Refuses input refusal

-- the first refusal: that of the reading comes before every other
abbrev pub IsFirstRefusal : (List ℕ → Refusal → Type 0) → Option (List ℕ) → Option (List ℕ) → Bool → Refusal → Type 0
IsFirstRefusal Refuses before after failed refusal =
    IsInputRefusal before after failed refusal ⊎ RefusesInput Refuses before after failed refusal

-- what a command found: the answer to what the reader gave, or its first refusal
abbrev pub IsFound : (List ℕ → Answer → Type 0) → (List ℕ → Refusal → Type 0) → Option (List ℕ) → Option (List ℕ) → Bool
    → Result Answer Refusal → Type 0
IsFound Answers Refuses before after failed found =
    MatchResult found (IsAnswer Answers before after failed) (IsFirstRefusal Refuses before after failed)

-- a command: `before` and `after` are what its reader has left, `old` and `new` what its writer took
pub record Does (Answers : List ℕ → Answer → Type 0) (Refuses : List ℕ → Refusal → Type 0) (tells : Bool)
    (before after : Option (List ℕ)) (failed : Bool) (old new : Option (List ℕ)) (write_failed : Bool) (status : ℕ)
    : Type 0 where
  pub found : Result Answer Refusal
  pub is_found : IsFound Answers Refuses before after failed found
  pub written : WritesFound tells found status old new write_failed

-- the same of an input that is there
pub record DoesOn (Answers : List ℕ → Answer → Type 0) (Refuses : List ℕ → Refusal → Type 0) (tells : Bool) (input : List ℕ)
    (old new : Option (List ℕ)) (write_failed : Bool) (status : ℕ) : Type 0 where
  pub found : Result Answer Refusal
  pub is_found : MatchResult found (Answers input) (Refuses input)
  pub written : WritesFound tells found status old new write_failed
