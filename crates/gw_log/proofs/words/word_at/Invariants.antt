-- the word that is looked for stands as many places further in the rest
use Rattle.std.proofs.Common.{◌≡◌, length}
use Rattle.gw_log.specs.LogLines.{words_of, word_at}
use Rattle.gw_log.proofs.words.word_at.Given as goal

abbrev pub invariant-loop-word : goal.invariant-loop-word
invariant-loop-word l = word_at (words_of l.rest) l.left ≡ word_at (words_of l.text) l.index

abbrev pub decreases-loop-word : goal.decreases-loop-word
decreases-loop-word l = length l.rest
