-- Loads of words that may be unset, and the masks by which the pass over the code finds them.
use Rattle.std.specs.Prelude.{ℕ, ◌≡◌, ◌<◌, ◌↔◌, List, slice_index, slice_set, bit_or}
use Rattle.std.specs.Int.{bit_at}
use Rattle.gw_insn.specs.Form.{Form}
use Rattle.gw_verify.specs.Accepted.{At}
use Rattle.gw_verify.specs.Flow.{Forms, Stores, Loads, IsBare}

-- place i loads a word of which it is bare
pub record IsUnsetLoad (forms : Forms) (word i : ℕ) : Type 0 where
  pub load : At forms i (λ insn. Loads insn word)
  pub bare : IsBare forms i word

-- none of the first n places does
abbrev pub NoUnsetLoadBelow : Forms → ℕ → Type 0
NoUnsetLoadBelow forms n = (word i : ℕ) → i < n → IsUnsetLoad forms word i → ⊥

-- the masks, with the words of another one added at place j
abbrev pub marked : ℕ → ℕ → List ℕ → List ℕ
marked mask j marks = slice_set marks j (bit_or (slice_index marks j) mask)

-- the new mask is the old one without the word that the instruction stores
abbrev pub IsLeft : Form → ℕ → ℕ → Type 0
IsLeft insn old new =
    (word : ℕ) → word < 16 → (bit_at new word ≡ 1) ↔ ((bit_at old word ≡ 1) × ¬ Stores insn word)
