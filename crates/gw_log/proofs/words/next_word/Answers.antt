use Rattle.std.proofs.Common.{◌≡◌, ℕ, ◌<◌, List, length, rules, subst}
use Rattle.std.proofs.lemmas.List.{take_rest}
use Rattle.gw_log.proofs.WordByWord.{no_word, word_in_front}
use Rattle.gw_log.proofs.words.next_word.Goals as goal

pub returns-then-is_empty-clause-words : goal.returns-then-is_empty-clause-words
returns-then-is_empty-clause-words c =
    let empty : length c.behind_blanks-rest.result.now ≡ 0 = search rules in
    no_word c.args.text.now (subst (λ (rest : List ℕ). length rest ≡ 0) c.behind_blanks-rest.ensures empty)

pub returns-clause-words : goal.returns-clause-words
returns-clause-words c =
    let some : 0 < length c.behind_blanks-rest.result.now = search rules in
    let front = word_in_front c.args.text.now (subst (λ (rest : List ℕ). 0 < length rest) c.behind_blanks-rest.ensures some) in
    rw (
      take_rest c.behind_blanks-rest.result.now c.word_len-end.result,
      c.word_len-end.ensures.len,
      c.behind_blanks-rest.ensures,
    ) front.0
