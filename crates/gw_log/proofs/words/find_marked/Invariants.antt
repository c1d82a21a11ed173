-- no word so far is marked, and the words of the rest are those behind it
use Rattle.std.proofs.Common.{◌≡◌, ℕ, ◌+◌, ◌≤◌, length}
use Rattle.std.specs.List.{position_or_len}
use Rattle.gw_log.specs.LogLines.{words_of, word_at, is_marked}
use Rattle.gw_log.specs.MarkedWords.{word_before}
use Rattle.gw_log.proofs.words.find_marked.Given as goal

abbrev pub invariant-loop-word : goal.invariant-loop-word
invariant-loop-word l = record {
  unmarked : position_or_len is_marked (words_of l.text) ≡ l.index + position_or_len is_marked (words_of l.rest);
  words : length (words_of l.text) ≡ l.index + length (words_of l.rest);
  octets : l.index + length l.rest ≤ length l.text;
  before : l.before ≡ word_before (words_of l.text) l.index;
  same : (k : ℕ) → word_at (words_of l.rest) k ≡ word_at (words_of l.text) (l.index + k);
}

abbrev pub decreases-loop-word : goal.decreases-loop-word
decreases-loop-word l = length l.rest
