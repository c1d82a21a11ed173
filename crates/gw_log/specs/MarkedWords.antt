-- A marked word among the words of its text: it, the one before it, and those behind it.
use Rattle.std.specs.Prelude.{◌≡◌, ℕ, zero, suc, ◌+◌, List, []}
use Rattle.gw_log.specs.declared.words.Marked.{Marked}
use Rattle.gw_log.specs.LogLines.{words_of, word_at}

abbrev pub word_before : List (List ℕ) → ℕ → List ℕ
word_before words zero = []
word_before words (suc n) = word_at words n

pub record IsAmong (words : List (List ℕ)) (m : Marked) : Type 0 where
  pub word : m.word.now ≡ word_at words m.index
  pub before : m.before.now ≡ word_before words m.index
  pub behind : (k : ℕ) → word_at (words_of m.behind.now) k ≡ word_at words (m.index + 1 + k)
