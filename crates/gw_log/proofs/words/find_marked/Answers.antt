use Rattle.std.proofs.Common.{◌≡◌, ◌∙◌, false, sym, arith}
use Rattle.gw_log.specs.LogLines.{words_of, is_marked}
use Rattle.gw_log.proofs.WordByWord.{one_unmarked, one_word, word_behind, word_here, word_passed}
use Rattle.gw_log.proofs.words.find_marked.Goals as goal

pub returns-then-is_marked-clause-words : goal.returns-then-is_marked-clause-words
returns-then-is_marked-clause-words c =
    let all = words_of c.args.text.now in
    let here = words_of c.loop-word.rest.now in
    let behind = words_of c.in-Some.behind.now in
    record {
      word = word_here all here behind c.in-Some.word.now c.loop-word.index c.in-Some.ensures.words c.loop-word.invariant.same;
      before = c.loop-word.invariant.before;
      behind = word_behind all here behind c.in-Some.word.now c.loop-word.index c.in-Some.ensures.words
          c.loop-word.invariant.same;
    }

pub loop-word-preserved : goal.loop-word-preserved
loop-word-preserved c =
    let all = words_of c.args.text.now in
    let here = words_of c.loop-word.rest.now in
    let behind = words_of c.in-Some.behind.now in
    let parts = c.in-Some.ensures.words in
    let fewer = c.in-Some.ensures.fewer in
    let octets = c.loop-word.invariant.octets in
    let not_here : is_marked c.in-Some.word.now ≡ false = sym c.is_marked.ensures ∙ c.if-is_marked.false in
    record {
      unmarked = one_unmarked all here behind c.in-Some.word.now c.loop-word.index parts not_here c.loop-word.invariant.unmarked;
      words = one_word all here behind c.in-Some.word.now c.loop-word.index parts c.loop-word.invariant.words;
      octets = omega arith;
      before = word_passed all here behind c.in-Some.word.now c.loop-word.index parts c.loop-word.invariant.same;
      same = word_behind all here behind c.in-Some.word.now c.loop-word.index parts c.loop-word.invariant.same;
    }
