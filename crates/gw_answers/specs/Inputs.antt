-- An input that is read whole.
use Rattle.std.specs.Prelude.{◌≡◌, ℕ, ◌<◌, ◌≤◌, Bool, true, false, List, length, Option}
use Rattle.std.specs.Io.KnownBytes.{IsAtEnd, Consumes}
use Rattle.gw_input.specs.Bounds.{most_octets}
use Rattle.gw_answers.specs.declared.refusal.Refusal.{Refusal}
use Rattle.gw_answers.specs.declared.refusal.Refusal.TheVariants.{ReadFault, TooMuchInput, OutOfMemory}

-- the reader gave this input, has no more, and never failed
pub record IsInput (before after : Option (List ℕ)) (failed : Bool) (input : List ℕ) : Type 0 where
  pub consumed : Consumes before after input
  pub end : IsAtEnd after
  pub fits : length input ≤ most_octets
  pub whole : failed ≡ false

-- the reader failed, or gave too much, or memory was wanting for what it gave
abbrev pub IsInputRefusal : Option (List ℕ) → Option (List ℕ) → Bool → Refusal → Type 0
IsInputRefusal before after failed ReadFault = failed ≡ true
IsInputRefusal before after failed TooMuchInput =
    (octets : List ℕ) × Consumes before after octets × (most_octets < length octets) × (failed ≡ false)
IsInputRefusal before after failed OutOfMemory = failed ≡ false
IsInputRefusal before after failed _ = ⊥
